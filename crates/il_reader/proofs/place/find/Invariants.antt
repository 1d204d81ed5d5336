use Rattle.std.proofs.Common.{◌≡◌, ◌+◌, ◌≤◌, length}
use Rattle.il_reader.specs.Reading.{fed, opening}
use Rattle.il_reader.specs.Tracing.{AreInOrder}
use Rattle.il_reader.proofs.PlaceLemmas.{Stands}
use Rattle.il_reader.proofs.place.find.Given as goal

abbrev pub invariant-loop-rest : goal.invariant-loop-rest
invariant-loop-rest l = record {
  reads : fed opening l.text ≡ fed l.tracer.reader l.rest;
  few_lines : l.tracer.reader.line + length l.rest ≤ 1048577;
  ordered : AreInOrder l.tracer.spots;
  stands : Stands l.text l.rest l.tracer;
}

abbrev pub decreases-loop-rest : goal.decreases-loop-rest
decreases-loop-rest l = length l.rest
