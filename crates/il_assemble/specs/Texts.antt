-- What the tree of a text is never refused for: trees that no text gives may have too many names or parentheses, a name twice,
-- or a BOOL with a range of its own.
-- IEC 61131-3 (edition 2), 2.4.3 declaration, 3.2 instruction list.
use Rattle.std.specs.Prelude.{◌≡◌, ℕ, List, Result, Ok, None}
use Rattle.point_types.specs.Value.{◌>>=◌}
use Rattle.il_reader.specs.Reading.{reading}
use Rattle.il_reader.specs.declared.tree.Program.{Program as Tree}
use Rattle.il_assemble.specs.declared.fault.AsmFault.{AsmFault}
use Rattle.il_assemble.specs.Meaning.{Program}
use Rattle.il_assemble.specs.Elaboration.{counted, elaborated, measured, named_apart, names_seen, program_of, scope_of, undivided}
use Rattle.il_assemble.specs.StaticFault.{checked_lines}

pub record KeepsTheLimits (tree : Tree) : Type 0 where
  pub few : counted tree.variables tree.externals tree.statements ≡ Ok tt
  pub whole : undivided tree.variables ≡ Ok tt
  pub apart : named_apart tree.variables tree.externals (names_seen (scope_of tree)) ≡ Ok tt

-- the resolved program of a text's tree, or its first static fault: one of a line's, or that the code is too long
abbrev pub elaborated_text : Tree → Result Program AsmFault
elaborated_text t =
    checked_lines (scope_of t) 0 None t.statements
    >>= λ _. measured (scope_of t) t.end_line 0 0 None t.statements
    >>= λ _. Ok (program_of (scope_of t))

abbrev pub TextsKeepTheLimits : Type 0
TextsKeepTheLimits = (text : List ℕ) (tree : Tree) → reading text ≡ Ok tree → KeepsTheLimits tree × (elaborated tree ≡ elaborated_text tree)
