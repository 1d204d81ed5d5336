use Rattle.std.proofs.Common.{◌≡◌, map, ◌++◌, take, drop, length}
use Rattle.service_requests.specs.Tasks.{given_up}
use Rattle.service_requests.proofs.task.give_up_all.Given as goal

-- those before are over where they are to the device, and the others are as they were
abbrev pub invariant-loop-i : goal.invariant-loop-i
invariant-loop-i l = (l.tasks ≡ map (given_up l.device) (take l.i l.initial.tasks) ++ drop l.i l.initial.tasks) × (length l.tasks ≡ length l.initial.tasks)
