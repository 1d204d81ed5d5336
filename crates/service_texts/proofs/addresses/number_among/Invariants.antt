use Rattle.std.proofs.Common.{◌≡◌, drop}
use Rattle.service_texts.specs.Stations.{number_from}
use Rattle.service_texts.proofs.addresses.number_among.Given as goal

-- what the later addresses give
abbrev pub invariant-loop-number : goal.invariant-loop-number
invariant-loop-number l = number_from 0 l.address l.links ≡ number_from l.number l.address (drop l.number l.links)
