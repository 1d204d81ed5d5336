use Rattle.std.proofs.Common.{◌≡◌, []}
use Rattle.scan_code.specs.ImageReading.{tags_at}
use Rattle.scan_code.proofs.image_reader.Unread.tags.Given as goal

-- what was read and what is missing are the whole
abbrev pub invariant-loop-missing : goal.invariant-loop-missing
invariant-loop-missing l = tags_at l.missing l.vars l.tags l.self ≡ tags_at l.count l.vars [] l.initial.self

abbrev pub decreases-loop-missing : goal.decreases-loop-missing
decreases-loop-missing l = l.missing
