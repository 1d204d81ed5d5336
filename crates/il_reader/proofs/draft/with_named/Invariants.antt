use Rattle.std.proofs.Common.{◌≡◌, ◌++◌, map, take}
use Rattle.il_reader.specs.Declaration.{external_of}
use Rattle.il_reader.proofs.draft.with_named.Given as goal

abbrev pub invariant-loop-entry : goal.invariant-loop-entry
invariant-loop-entry l = l.externals ≡ l.fn.externals ++ map (external_of l.kind) (take l.entry-index l.entries)
