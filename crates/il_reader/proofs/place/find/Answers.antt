use Rattle.std.proofs.Common.{◌≡◌, get_or, Ok, ap}
use Rattle.il_reader.specs.Tracing.{IsPassed, fault_or_reader}
use Rattle.il_reader.proofs.PlaceLemmas.{end_in_line, stands_on, there_in_line}
use Rattle.il_reader.proofs.ReaderLemmas.{few_lines, one_byte}
use Rattle.il_reader.proofs.place.find.Goals as goal

pub returns-in-Err-clause-placed : goal.returns-in-Err-clause-placed
returns-in-Err-clause-placed c =
    there_in_line _ c.loop-rest.rest.now c.loop-rest.tracer c.in-Err.place c.in-len1-up.len_at_least c.loop-rest.invariant.stands (rw c.in-Err.is at c.in_ok-next.ensures.placed)

pub loop-rest-preserved : goal.loop-rest-preserved
loop-rest-preserved c =
    let passed : IsPassed (get_or c.loop-rest.rest.now 0 0) c.loop-rest.tracer c.in-Ok.next = rw c.in-Ok.is at c.in_ok-next.ensures.passed in
    let reader : fault_or_reader c.in_ok-next.field-0 ≡ Ok c.in-Ok.next.reader = ap fault_or_reader c.in-Ok.is in
    record {
      reads = one_byte _ (fault_or_reader c.in_ok-next.field-0) c.loop-rest.tracer.reader c.in-Ok.next.reader c.loop-rest.rest.now c.in-len1-up.len_at_least c.loop-rest.invariant.reads c.in_ok-next.ensures.fed reader;
      few_lines = few_lines (fault_or_reader c.in_ok-next.field-0) c.loop-rest.tracer.reader c.in-Ok.next.reader c.loop-rest.rest.now 1048577 c.in-len1-up.len_at_least c.loop-rest.invariant.few_lines c.in_ok-next.ensures.fed reader;
      ordered = passed.ordered;
      stands = stands_on _ c.loop-rest.rest.now c.loop-rest.tracer c.in-Ok.next c.in-len1-up.len_at_least c.loop-rest.invariant.stands passed;
    }

pub returns-clause-placed : goal.returns-clause-placed
returns-clause-placed c = end_in_line _ c.loop-rest.rest.now c.loop-rest.tracer c.finish.result c.loop-rest.invariant.stands c.finish.ensures.told c.finish.ensures.placed
