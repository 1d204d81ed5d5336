use Rattle.std.proofs.Common.{◌≡◌, ◌++◌, length}
use Rattle.scan_code.specs.ImageSpelling.{spelled_tags}
use Rattle.scan_code.proofs.image_writer.append_tags.Given as goal

-- what was written and what remains are the whole
abbrev pub invariant-loop-rest : goal.invariant-loop-rest
invariant-loop-rest l = l.bytes.items ++ spelled_tags l.rest ≡ l.initial.bytes.items ++ spelled_tags l.tags

abbrev pub decreases-loop-rest : goal.decreases-loop-rest
decreases-loop-rest l = length l.rest
