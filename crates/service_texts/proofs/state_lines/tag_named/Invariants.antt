use Rattle.std.proofs.Common.{◌≡◌, drop}
use Rattle.service_texts.specs.State.{tag_from}
use Rattle.service_texts.proofs.state_lines.tag_named.Given as goal

-- what the later tags give
abbrev pub invariant-loop-number : goal.invariant-loop-number
invariant-loop-number l = tag_from 0 l.name l.tags ≡ tag_from l.number l.name (drop l.number l.tags)
