use Rattle.service.specs.Timing.{KeepsCounts, KeepsTime}
use Rattle.service.specs.Told.{BecomesBy, IsUnanswered}
use Rattle.service.proofs.device_side.DeviceSide.finish.Given as goal

abbrev pub invariant-loop-output : goal.invariant-loop-output
invariant-loop-output l = KeepsTime l.fn.self l.self × KeepsCounts l.fn.self l.self × (BecomesBy IsUnanswered l.fn.self l.self)
