use Rattle.std.proofs.Common.{drop}
use Rattle.service_texts.specs.Reaching.{HavePorts}
use Rattle.service_texts.proofs.reaching.first_without_port.Given as goal

-- where all of the rest have one, all do
abbrev pub invariant-loop-device : goal.invariant-loop-device
invariant-loop-device l = HavePorts (drop l.device l.places) → HavePorts l.places
