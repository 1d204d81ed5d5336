use Rattle.il_reader.proofs.ReaderLemmas.{one_byte, few_lines}
use Rattle.il_reader.proofs.reader.read_bytes.Goals as goal

pub loop-rest-preserved : goal.loop-rest-preserved
loop-rest-preserved c = record {
  reads = one_byte _ c.in_ok-next.field-0 c.loop-rest.reader c.in-Ok.next c.loop-rest.rest.now c.in-len1-up.len_at_least c.loop-rest.invariant.reads c.in_ok-next.ensures c.in-Ok.is;
  few_lines = few_lines c.in_ok-next.field-0 c.loop-rest.reader c.in-Ok.next c.loop-rest.rest.now 1048577 c.in-len1-up.len_at_least c.loop-rest.invariant.few_lines c.in_ok-next.ensures c.in-Ok.is;
}
