use Rattle.std.proofs.Common.{◌≡◌, ◌++◌, drop}
use Rattle.service.specs.Turning.{outputs_for}
use Rattle.service.proofs.construction.outputs_for.Given as goal

-- those so far, and those of the tags that are left
abbrev pub invariant-loop-tag : goal.invariant-loop-tag
invariant-loop-tag l = outputs_for l.read_back l.outs ≡ l.outputs.items ++ outputs_for l.read_back (drop l.tag-index l.outs)
