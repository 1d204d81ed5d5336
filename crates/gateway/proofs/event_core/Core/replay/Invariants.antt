use Rattle.std.proofs.Common.{◌≡◌, ◌++◌, List, length, take, drop}
use Rattle.gateway.specs.declared.event_core.event.Answer.{Answer}
use Rattle.gateway.specs.event_core.Core.{IsSame, RunsFrom}
use Rattle.gateway.specs.event_core.SiteRun.{Standing}
use Rattle.gateway.proofs.event_core.Core.replay.Given as goal

-- whatever the later events lead to, all of them lead to, with the answers so far in front
abbrev pub invariant-loop-i : goal.invariant-loop-i
invariant-loop-i g l =
    ((rest : List Answer) (end : Standing) → RunsFrom l.initial.self l.self.standing (drop l.i l.events) rest end → RunsFrom l.initial.self l.initial.self.standing l.events (take l.i l.answers ++ rest) end)
    × IsSame l.initial.self l.self
    × (length l.answers ≡ length l.events)
