-- The lines of a program's instructions, told by the form of its statements alone, are those of the parts of its code.
use Rattle.std.proofs.Common.{◌≡◌, ℕ, ◌+◌, Bool, true, false, List, [], ◌∷◌, ◌++◌, length, replicate, Option, Some, None, option_map, refl, sym, ap, subst, ◌∙◌, append_assoc, append-nil}
use Rattle.point_types.specs.declared.il_type.IlType.{IlType}
use Rattle.point_types.specs.declared.il_type.IlType.TheVariants as il
use Rattle.point_types.specs.declared.operator.Operator.{Operator}
use Rattle.scan_code.specs.declared.op.Op.{Op}
use Rattle.scan_code.specs.declared.op.Op.TheVariants as does
use Rattle.il_reader.specs.declared.tree.Operand.{Operand}
use Rattle.il_reader.specs.declared.tree.Program.{Program as Tree}
use Rattle.il_reader.specs.declared.tree.Statement.{Statement}
use Rattle.il_reader.specs.declared.tree.Action.{Action}
use Rattle.il_reader.specs.declared.tree.Action.TheVariants as action
use Rattle.il_assemble.specs.Meaning.{Program}
use Rattle.il_assemble.specs.Assembled.{code_of}
use Rattle.il_assemble.specs.Code.{action_code, code_of_program, label_address, lines_code, not_code, start_code}
use Rattle.il_assemble.specs.Elaboration.{Part, first_source, inner_parts, parts_of, program_of, resolved_action, resolved_lines, scope_of, turns_of}
use Rattle.il_assemble.specs.LineForms.{action_lines, body_lines, count_first, count_not, inner_lines, simple_lines}
use Rattle.il_assemble.specs.LineTable.{InstructionsHaveTheirLines, body_parts, instruction_lines, lines_of, program_parts, statement_parts}
use Rattle.il_assemble.specs.Names.{Scope}
use Rattle.il_assemble.specs.Typing.{loaded_inner_type, loaded_type, or_dint, type_after, type_after_line, type_inside, whole_type}
use Rattle.il_assemble.specs.Written.{Written, Load, Apply, Defer, Limit, Select, Invert, Absolute, Convert, Inner, Close, Then}
use Rattle.il_assemble.proofs.Elaborating.{parts}
use Rattle.il_assemble.proofs.Parts.{code_append, parts_are_the_code}

lines_append : (ps qs : List Part) → lines_of (ps ++ qs) ≡ lines_of ps ++ lines_of qs
lines_append [] qs = refl
lines_append (p ∷ ps) qs = ap (λ l. replicate (length p.code) p.line ++ l) (lines_append ps qs) ∙ sym (append_assoc (replicate (length p.code) p.line) (lines_of ps) (lines_of qs))

opening_lines : (g : Scope) (line : ℕ) (wanted : IlType) (first : Option Operand) → replicate (length (does.Push ∷ start_code (first_source g wanted first))) line ≡ replicate (1 + count_first first) line
opening_lines g line wanted None = refl
opening_lines g line wanted (Some operand) = refl

closing_lines : (line : ℕ) (o : Operator) (negated : Bool) → lines_of (record { line = line; code = not_code negated ++ does.Apply o ∷ [] } ∷ []) ≡ replicate (1 + count_not negated) line
closing_lines line o true = refl
closing_lines line o false = refl

mutual
  simple_tabled : (g : Scope) (line : ℕ) (running : Option IlType) (loaded : IlType) (w : Written) → lines_of (parts_of g line running loaded w) ≡ simple_lines line w
  simple_tabled g line running loaded (Load true x) = refl
  simple_tabled g line running loaded (Load false x) = refl
  simple_tabled g line running loaded (Apply o true x) = refl
  simple_tabled g line running loaded (Apply o false x) = refl
  simple_tabled g line running loaded (Defer o negated first inner) =
      let inside : List Part = inner_parts g (type_inside g running first) (whole_type running) inner in
      let closing : List Part = record { line = line; code = not_code negated ++ does.Apply o ∷ [] } ∷ [] in
      ap (λ l. l ++ lines_of (inside ++ closing)) (opening_lines g line (or_dint running) first)
      ∙ ap (λ l. replicate (1 + count_first first) line ++ l)
      (lines_append inside closing
      ∙ ap (λ l. l ++ lines_of closing) (inner_tabled g (type_inside g running first) (whole_type running) inner)
      ∙ ap (λ l. inner_lines inner ++ l) (closing_lines line o negated))
  simple_tabled g line running loaded (Limit a b) = refl
  simple_tabled g line running loaded (Select a b) = refl
  simple_tabled g line running loaded Invert = refl
  simple_tabled g line running loaded Absolute = refl
  simple_tabled g line running loaded (Convert j k) = refl

  inner_tabled : (g : Scope) (running : Option IlType) (else_type : IlType) (inner : Inner) → lines_of (inner_parts g running else_type inner) ≡ inner_lines inner
  inner_tabled g running else_type Close = refl
  inner_tabled g running else_type (Then line head tail) =
      let loaded = loaded_inner_type g else_type tail in
      let after = type_after g running loaded head in
      lines_append (parts_of g line running loaded head) (inner_parts g after il.Dint tail)
      ∙ ap (λ l. l ++ lines_of (inner_parts g after il.Dint tail)) (simple_tabled g line running loaded head)
      ∙ ap (λ l. simple_lines line head ++ l) (inner_tabled g after il.Dint tail)

statement_tabled : (address : ℕ → ℕ) (g : Scope) (counter : ℕ) (running : Option IlType) (rest : List Statement) (line : ℕ) (a : Option Action) → lines_of (statement_parts address g counter running rest line a) ≡ action_lines line a
statement_tabled address g counter running rest line None = refl
statement_tabled address g counter running rest line (Some (action.Compute simple)) = simple_tabled g line running (loaded_type g rest) simple
statement_tabled address g counter running rest line (Some (action.Store true name)) = refl
statement_tabled address g counter running rest line (Some (action.Store false name)) = refl
statement_tabled address g counter running rest line (Some (action.Set value name)) = refl
statement_tabled address g counter running rest line (Some (action.Jump condition label None)) = refl
statement_tabled address g counter running rest line (Some (action.Jump condition label (Some turns))) = refl
statement_tabled address g counter running rest line (Some (action.Return condition)) = refl

body_tabled : (address : ℕ → ℕ) (g : Scope) (end_line counter : ℕ) (running : Option IlType) (ss : List Statement) → lines_of (body_parts address g end_line counter running ss) ≡ body_lines ss ++ end_line ∷ []
body_tabled address g end_line counter running [] = refl
body_tabled address g end_line counter running (s ∷ ss) =
    let here = statement_parts address g counter running ss s.line s.action in
    let next = counter + length (turns_of s.action) in
    let after = type_after_line g running ss s.action in
    lines_append here (body_parts address g end_line next after ss)
    ∙ ap (λ l. l ++ lines_of (body_parts address g end_line next after ss)) (statement_tabled address g counter running ss s.line s.action)
    ∙ ap (λ l. action_lines s.line s.action ++ l) (body_tabled address g end_line next after ss)
    ∙ sym (append_assoc (action_lines s.line s.action) (body_lines ss) (end_line ∷ []))

-- the table is that of the statements' forms, and after it the line of the end
pub tabled : (t : Tree) → instruction_lines t ≡ body_lines t.statements ++ t.end_line ∷ []
tabled t = body_tabled (label_address (program_of (scope_of t)).body 0) (scope_of t) t.end_line 0 None t.statements

-- what is appended in three turns
pub three_parts : (old a b d p q r : List ℕ) → a ≡ old ++ p → b ≡ a ++ q → d ≡ b ++ r → d ≡ old ++ (p ++ (q ++ r))
three_parts old a b d p q r e f h = h ∙ ap (λ l. l ++ r) (f ∙ ap (λ l. l ++ q) e) ∙ append_assoc (old ++ p) q r ∙ append_assoc old p (q ++ r)

-- The parts are the code.

statement_code : (address : ℕ → ℕ) (g : Scope) (counter : ℕ) (running : Option IlType) (rest : List Statement) (line : ℕ) (a : Option Action)
    → code_of (statement_parts address g counter running rest line a) ≡ action_code address (option_map (resolved_action g counter running rest) a)
statement_code address g counter running rest line None = refl
statement_code address g counter running rest line (Some (action.Compute simple)) = parts_are_the_code g line running (loaded_type g rest) simple
statement_code address g counter running rest line (Some (action.Store negated name)) = append-nil _
statement_code address g counter running rest line (Some (action.Set value name)) = append-nil _
statement_code address g counter running rest line (Some (action.Jump condition label turns)) = append-nil _
statement_code address g counter running rest line (Some (action.Return condition)) = append-nil _

body_code : (address : ℕ → ℕ) (g : Scope) (end_line place counter : ℕ) (running : Option IlType) (ss : List Statement) → code_of (body_parts address g end_line counter running ss) ≡ lines_code address (resolved_lines g place counter running ss)
body_code address g end_line place counter running [] = refl
body_code address g end_line place counter running (s ∷ ss) =
    let here = statement_parts address g counter running ss s.line s.action in
    let next = counter + length (turns_of s.action) in
    let after = type_after_line g running ss s.action in
    code_append here (body_parts address g end_line next after ss)
    ∙ ap (λ l. l ++ code_of (body_parts address g end_line next after ss)) (statement_code address g counter running ss s.line s.action)
    ∙ ap (λ l. action_code address (option_map (resolved_action g counter running ss) s.action) ++ l) (body_code address g end_line (place + 1) next after ss)

pub instructions_have_their_lines : InstructionsHaveTheirLines
instructions_have_their_lines t p e =
    subst (λ (q : Program). code_of (program_parts t) ≡ code_of_program q) (parts t p e).1 (body_code (label_address (program_of (scope_of t)).body 0) (scope_of t) t.end_line 0 0 None t.statements)
