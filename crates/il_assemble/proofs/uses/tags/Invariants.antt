use Rattle.std.proofs.Common.{◌≡◌, ◌++◌, drop}
use Rattle.il_assemble.specs.Names.{tags_of}
use Rattle.il_assemble.proofs.uses.tags.Given as goal

abbrev pub invariant-loop-external : goal.invariant-loop-external
invariant-loop-external l = l.tags.items ++ tags_of (drop l.external-index l.externals) l.others ≡ tags_of l.externals l.uses
