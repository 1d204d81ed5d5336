use Rattle.std.proofs.Common.{◌≡◌, ◌++◌, map, take}
use Rattle.il_reader.specs.Declaration.{variable_of}
use Rattle.il_reader.proofs.draft.with_typed.Given as goal

abbrev pub invariant-loop-entry : goal.invariant-loop-entry
invariant-loop-entry l = l.variables ≡ l.fn.variables ++ map (variable_of l.typing) (take l.entry-index l.entries)
