-- The parts of an instruction: they make up its code, and are written in turn.
use Rattle.std.proofs.Common.{◌≡◌, ℕ, ◌+◌, Bool, true, false, List, [], ◌∷◌, ◌++◌, length, if◌then◌else◌, Option, Result, Ok, Err, nat_le, refl, sym, ap, subst, ◌∙◌, append_assoc, append-nil, length-append}
use Rattle.point_types.specs.declared.il_type.IlType.{IlType}
use Rattle.point_types.specs.declared.il_type.IlType.TheVariants as il
use Rattle.point_types.specs.declared.operator.Operator.{Operator}
use Rattle.point_types.specs.Value.{◌>>=◌}
use Rattle.il_reader.specs.declared.tree.Operand.{Operand}
use Rattle.il_reader.specs.declared.tree.InnerLine.{InnerLine}
use Rattle.il_reader.specs.declared.tree.Simple.{Simple, fold-roll-Simple, out-Simple, roll-Simple, roll-out-Simple}
use Rattle.il_reader.specs.declared.tree.Simple as tree
use Rattle.il_reader.specs.declared.tree.Simple.TheOpen.{Simple-F}
use Rattle.il_reader.specs.declared.tree.Simple.TheOpen as layer
use Rattle.il_reader.specs.declared.tree.Simple.TheViews as views
use Rattle.il_reader.specs.Writing.{InnerForm, written_layer, written_line}
use Rattle.scan_code.specs.declared.op.Op.{Op}
use Rattle.scan_code.specs.declared.op.Op.TheVariants as does
use Rattle.scan_code.specs.Spelling.{spelled_all}
use Rattle.il_assemble.specs.Assembled.{PartsAreTheCode, code_of}
use Rattle.il_assemble.specs.Code.{inner_code, not_code, simple_code, start_code}
use Rattle.il_assemble.specs.Elaboration.{Part, first_source, inner_parts, parts_of, reached, resolved_inner, resolved_simple}
use Rattle.il_assemble.specs.Kept.{Reaches, within}
use Rattle.il_assemble.specs.Limit.{most_code}
use Rattle.il_assemble.specs.Names.{Scope}
use Rattle.il_assemble.specs.Typing.{loaded_inner_type, or_dint, type_after, type_inside, whole_type}
use Rattle.il_assemble.specs.Written.{Written, Load, Apply, Defer, Limit, Select, Invert, Absolute, Convert, Inner, Close, Then, written}

pub code_append : (ps qs : List Part) → code_of (ps ++ qs) ≡ code_of ps ++ code_of qs
code_append [] qs = refl
code_append (p ∷ ps) qs = ap (λ l. p.code ++ l) (code_append ps qs) ∙ sym (append_assoc p.code (code_of ps) (code_of qs))

mutual
  parts_code : (g : Scope) (line : ℕ) (running : Option IlType) (loaded : IlType) (w : Written) → code_of (parts_of g line running loaded w) ≡ simple_code (resolved_simple g running loaded w)
  parts_code g line running loaded (Defer o negated first inner) =
      let start : List Op = start_code (first_source g (or_dint running) first) in
      let last : List Op = not_code negated ++ does.Apply o ∷ [] in
      let inside : List Part = inner_parts g (type_inside g running first) (whole_type running) inner in
      ap (λ l. does.Push ∷ (start ++ l))
      (code_append inside (record { line = line; code = last } ∷ [])
      ∙ ap (λ l. l ++ (last ++ [])) (inner_code_of g (type_inside g running first) (whole_type running) inner)
      ∙ ap (λ l. inner_code (resolved_inner g (type_inside g running first) (whole_type running) inner) ++ l) (append-nil last))
  parts_code g line running loaded (Load n x) = append-nil (simple_code (resolved_simple g running loaded (Load n x)))
  parts_code g line running loaded (Apply o n x) = append-nil (simple_code (resolved_simple g running loaded (Apply o n x)))
  parts_code g line running loaded (Limit a b) = append-nil (simple_code (resolved_simple g running loaded (Limit a b)))
  parts_code g line running loaded (Select a b) = append-nil (simple_code (resolved_simple g running loaded (Select a b)))
  parts_code g line running loaded Invert = refl
  parts_code g line running loaded Absolute = refl
  parts_code g line running loaded (Convert j k) = refl

  inner_code_of : (g : Scope) (running : Option IlType) (else_type : IlType) (inner : Inner) → code_of (inner_parts g running else_type inner) ≡ inner_code (resolved_inner g running else_type inner)
  inner_code_of g running else_type Close = refl
  inner_code_of g running else_type (Then line head tail) =
      let loaded = loaded_inner_type g else_type tail in
      let after = type_after g running loaded head in
      code_append (parts_of g line running loaded head) (inner_parts g after il.Dint tail)
      ∙ ap (λ l. l ++ code_of (inner_parts g after il.Dint tail)) (parts_code g line running loaded head)
      ∙ ap (λ l. simple_code (resolved_simple g running loaded head) ++ l) (inner_code_of g after il.Dint tail)

pub parts_are_the_code : PartsAreTheCode
parts_are_the_code g line running loaded w = parts_code g line running loaded w

-- Parts in turn.

pub reached_append : (a : ℕ) (ps qs : List Part) → reached a (ps ++ qs) ≡ (reached a ps >>= λ b. reached b qs)
reached_append a [] qs = refl
reached_append a (p ∷ ps) qs = either (nat_le (a + length (spelled_all p.code)) most_code) (reached_append (a + length (spelled_all p.code)) ps qs)
  where
    b : ℕ
    b = a + length (spelled_all p.code)

    either : (fits : Bool) → reached b (ps ++ qs) ≡ (reached b ps >>= λ c. reached c qs) → (if fits then reached b (ps ++ qs) else Err p.line) ≡ ((if fits then reached b ps else Err p.line) >>= λ c. reached c qs)
    either true h = h
    either false h = refl

-- one part that was written
pub one_part : (p : Part) (old new : List ℕ) → new ≡ old ++ spelled_all p.code → Reaches (length old) (p ∷ []) (within (length new) p.line) (length new)
one_part p old new e = either (nat_le (length new) most_code) refl
  where
    same : length new ≡ length old + length (spelled_all p.code)
    same = ap length e ∙ length-append old (spelled_all p.code)

    told : (b : Bool) → nat_le (length new) most_code ≡ b → reached (length old) (p ∷ []) ≡ (if b then Ok (length new) else Err p.line)
    told b h =
        ap (λ n. if nat_le n most_code then Ok n else Err p.line) (sym same) ∙ ap (λ c. if c then Ok (length new) else Err p.line) h

    either : (b : Bool) → nat_le (length new) most_code ≡ b → Reaches (length old) (p ∷ []) (if b then Ok tt else Err p.line) (length new)
    either true h = told true h
    either false h = told false h

-- parts before others: all of them are written, or a line of them passes the limit
pub first_parts : (a b : ℕ) (ps qs : List Part) → reached a ps ≡ Ok b → reached a (ps ++ qs) ≡ reached b qs
first_parts a b ps qs e = reached_append a ps qs ∙ ap (λ r. r >>= λ c. reached c qs) e

pub first_passes : (a line : ℕ) (ps qs : List Part) → reached a ps ≡ Err line → reached a (ps ++ qs) ≡ Err line
first_passes a line ps qs e = reached_append a ps qs ∙ ap (λ r. r >>= λ c. reached c qs) e

-- a line inside parentheses
pub line_passes : (g : Scope) (before : Option IlType) (otherwise loaded : IlType) (a passing line : ℕ) (w : Written) (tail : Inner) → loaded ≡ loaded_inner_type g otherwise tail
    → reached a (parts_of g line before loaded w) ≡ Err passing → reached a (inner_parts g before otherwise (Then line w tail)) ≡ Err passing
line_passes g before otherwise loaded a passing line w tail e h =
    let real = loaded_inner_type g otherwise tail in
    first_passes a passing (parts_of g line before real w) (inner_parts g (type_after g before real w) il.Dint tail) (ap (λ k. reached a (parts_of g line before k w)) (sym e) ∙ h)

pub line_fits : (g : Scope) (before after : Option IlType) (otherwise loaded : IlType) (a b line : ℕ) (w : Written) (tail : Inner) → loaded ≡ loaded_inner_type g otherwise tail → after ≡ type_after g before loaded w
    → reached a (parts_of g line before loaded w) ≡ Ok b → reached a (inner_parts g before otherwise (Then line w tail)) ≡ reached b (inner_parts g after il.Dint tail)
line_fits g before after otherwise loaded a b line w tail e f h =
    let real = loaded_inner_type g otherwise tail in
    first_parts a b (parts_of g line before real w) (inner_parts g (type_after g before real w) il.Dint tail) (ap (λ k. reached a (parts_of g line before k w)) (sym e) ∙ h)
    ∙ ap (λ k. reached b (inner_parts g (type_after g before k w) il.Dint tail)) (sym e)
    ∙ ap (λ t. reached b (inner_parts g t il.Dint tail)) (sym f)

-- an instruction with parentheses: its first part, the lines inside, its last one
module _ (g : Scope) (line : ℕ) (running : Option IlType) (loaded : IlType) (o : Operator) (negated : Bool) (first : Option Operand) (inner : Inner) where
  opening : List Part
  opening = record { line = line; code = does.Push ∷ start_code (first_source g (or_dint running) first) } ∷ []

  closing : List Part
  closing = record { line = line; code = not_code negated ++ does.Apply o ∷ [] } ∷ []

  inside : List Part
  inside = inner_parts g (type_inside g running first) (whole_type running) inner

  pub opening_passes : (a passing : ℕ) → reached a (record { line = line; code = does.Push ∷ start_code (first_source g (or_dint running) first) } ∷ []) ≡ Err passing → reached a (parts_of g line running loaded (Defer o negated first inner)) ≡ Err passing
  unfolding opening closing inside
  opening_passes a passing h = first_passes a passing opening (inside ++ closing) h

  pub inside_passes : (a b passing : ℕ) → reached a (record { line = line; code = does.Push ∷ start_code (first_source g (or_dint running) first) } ∷ []) ≡ Ok b
      → reached b (inner_parts g (type_inside g running first) (whole_type running) inner) ≡ Err passing
      → reached a (parts_of g line running loaded (Defer o negated first inner)) ≡ Err passing
  unfolding opening closing inside
  inside_passes a b passing h k = first_parts a b opening (inside ++ closing) h ∙ first_passes b passing inside closing k

  pub closing_ends : (a b c d : ℕ) (ends : Result (Unit {0}) ℕ) → reached a (record { line = line; code = does.Push ∷ start_code (first_source g (or_dint running) first) } ∷ []) ≡ Ok b
      → reached b (inner_parts g (type_inside g running first) (whole_type running) inner) ≡ Ok c
      → Reaches c (record { line = line; code = not_code negated ++ does.Apply o ∷ [] } ∷ []) ends d
      → Reaches a (parts_of g line running loaded (Defer o negated first inner)) ends d
  unfolding opening closing inside
  closing_ends a b c d (Ok u) h k r = first_parts a b opening (inside ++ closing) h ∙ first_parts b c inside closing k ∙ r
  closing_ends a b c d (Err passing) h k r = first_parts a b opening (inside ++ closing) h ∙ first_parts b c inside closing k ∙ r

-- an instruction without parentheses is one part
abbrev IsOnePart : Written → Type 0
IsOnePart w = (g : Scope) (line : ℕ) (running : Option IlType) (loaded : IlType) → parts_of g line running loaded w ≡ record { line = line; code = simple_code (resolved_simple g running loaded w) } ∷ []

one_layer : (x : Simple-F Simple InnerLine) → ((o : Operator) (negated : Bool) (first : Option Operand) (inner : _) → roll-Simple x ≡ tree.Defer o negated first inner → ⊥) → IsOnePart (written (roll-Simple x))
one_layer (layer.Load n x) h = subst IsOnePart (sym (fold-roll-Simple Written InnerForm written_layer written_line (layer.Load n x))) (λ g line running loaded. refl)
one_layer (layer.Apply o n x) h = subst IsOnePart (sym (fold-roll-Simple Written InnerForm written_layer written_line (layer.Apply o n x))) (λ g line running loaded. refl)
one_layer (layer.Defer o n first inner) h = absurd (h o n first inner (views.rolls-Defer o n first inner))
one_layer (layer.Limit x y) h = subst IsOnePart (sym (fold-roll-Simple Written InnerForm written_layer written_line (layer.Limit x y))) (λ g line running loaded. refl)
one_layer (layer.Select x y) h = subst IsOnePart (sym (fold-roll-Simple Written InnerForm written_layer written_line (layer.Select x y))) (λ g line running loaded. refl)
one_layer layer.Invert h = subst IsOnePart (sym (fold-roll-Simple Written InnerForm written_layer written_line layer.Invert)) (λ g line running loaded. refl)
one_layer layer.Absolute h = subst IsOnePart (sym (fold-roll-Simple Written InnerForm written_layer written_line layer.Absolute)) (λ g line running loaded. refl)
one_layer (layer.Convert j k) h = subst IsOnePart (sym (fold-roll-Simple Written InnerForm written_layer written_line (layer.Convert j k))) (λ g line running loaded. refl)

plain_part : (x : Simple) → ((o : Operator) (negated : Bool) (first : Option Operand) (inner : _) → x ≡ tree.Defer o negated first inner → ⊥) → IsOnePart (written x)
plain_part x = subst (λ (y : Simple). ((o : Operator) (negated : Bool) (first : Option Operand) (inner : _) → y ≡ tree.Defer o negated first inner → ⊥) → IsOnePart (written y)) (roll-out-Simple x) (one_layer (out-Simple x))

pub plain_ends : (g : Scope) (line : ℕ) (running : Option IlType) (loaded : IlType) (x : Simple) → ((o : Operator) (negated : Bool) (first : Option Operand) (inner : _) → x ≡ tree.Defer o negated first inner → ⊥) → (old new : List ℕ) (ends : Result (Unit {0}) ℕ)
    → new ≡ old ++ spelled_all (simple_code (resolved_simple g running loaded (written x))) → ends ≡ within (length new) line
    → Reaches (length old) (parts_of g line running loaded (written x)) ends (length new)
plain_ends g line running loaded x h old new ends e f =
    subst (λ (r : Result (Unit {0}) ℕ). Reaches (length old) (parts_of g line running loaded (written x)) r (length new)) (sym f)
    (subst (λ (ps : List Part). Reaches (length old) ps (within (length new) line) (length new)) (sym (plain_part x h g line running loaded))
    (one_part (record { line = line; code = simple_code (resolved_simple g running loaded (written x)) }) old new e))
