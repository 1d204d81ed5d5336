use Rattle.std.proofs.Common.{◌≡◌, []}
use Rattle.scan_code.specs.ImageReading.{vars_at}
use Rattle.scan_code.proofs.image_reader.Unread.vars.Given as goal

-- what was read and what is missing are the whole
abbrev pub invariant-loop-missing : goal.invariant-loop-missing
invariant-loop-missing l = vars_at l.missing l.vars l.self ≡ vars_at l.count [] l.initial.self

abbrev pub decreases-loop-missing : goal.decreases-loop-missing
decreases-loop-missing l = l.missing
