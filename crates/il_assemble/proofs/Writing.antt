-- Bytes are appended instruction by instruction.
use Rattle.std.proofs.Common.{◌≡◌, ℕ, ◌+◌, List, [], ◌∷◌, ◌++◌, length, Bool, Option, option_map, refl, ap, sym, ◌∙◌, append_assoc, append-nil, zero, suc, ◌<◌, ◌≤◌, drop, arith}
use Rattle.std.proofs.Math.Seq.{drop-nil}
use Rattle.point_types.specs.declared.il_type.IlType.{IlType}
use Rattle.point_types.specs.declared.il_type.IlType.TheVariants as il
use Rattle.point_types.specs.declared.operator.Operator.{Operator}
use Rattle.scan_code.specs.declared.op.Op.{Op}
use Rattle.scan_code.specs.declared.op.Op.TheVariants as does
use Rattle.scan_code.specs.Spelling.{spelled, spelled_all}
use Rattle.il_reader.specs.declared.tree.Statement.{Statement}
use Rattle.il_assemble.specs.Meaning as resolved
use Rattle.il_assemble.specs.Code.{action_code, inner_code, lines_code, not_code, simple_code, start_code}
use Rattle.il_assemble.specs.Elaboration.{resolved_action, resolved_inner, resolved_lines, resolved_simple, turns_of}
use Rattle.il_assemble.specs.Names.{Scope}
use Rattle.il_assemble.specs.Typing.{loaded_inner_type, type_after, type_after_line}
use Rattle.il_assemble.specs.Written.{Inner, Close, Then}

pub spelled_append : (is js : List Op) → spelled_all (is ++ js) ≡ spelled_all is ++ spelled_all js
spelled_append [] js = refl
spelled_append (i ∷ is) js = ap (λ rest. spelled i ++ rest) (spelled_append is js) ∙ sym (append_assoc (spelled i) (spelled_all is) (spelled_all js))

joined : (old : List ℕ) (is js : List Op) → (old ++ spelled_all is) ++ spelled_all js ≡ old ++ spelled_all (is ++ js)
joined old is js = append_assoc old (spelled_all is) (spelled_all js) ∙ ap (λ rest. old ++ rest) (sym (spelled_append is js))

-- the bytes after the lines inside parentheses
abbrev pub after_inner : List ℕ → Scope → Option IlType → IlType → Inner → List ℕ
after_inner code g running else_type Close = code
after_inner code g running else_type (Then line head tail) =
    after_inner (code ++ spelled_all (simple_code (resolved_simple g running (loaded_inner_type g else_type tail) head))) g
    (type_after g running (loaded_inner_type g else_type tail) head) il.Dint tail

pub after_inner_is : (code : List ℕ) (g : Scope) (running : Option IlType) (else_type : IlType) (inner : Inner) → after_inner code g running else_type inner ≡ code ++ spelled_all (inner_code (resolved_inner g running else_type inner))
after_inner_is code g running else_type Close = sym (append-nil code)
after_inner_is code g running else_type (Then line head tail) =
    let loaded = loaded_inner_type g else_type tail in
    let here = simple_code (resolved_simple g running loaded head) in
    after_inner_is (code ++ spelled_all here) g (type_after g running loaded head) il.Dint tail
    ∙ joined code here (inner_code (resolved_inner g (type_after g running loaded head) il.Dint tail))

-- the bytes after the lines of the body, and the END after them
abbrev pub after_lines : List ℕ → (ℕ → ℕ) → Scope → ℕ → Option IlType → List Statement → List ℕ
after_lines code address g counter running [] = code ++ spelled does.End
after_lines code address g counter running (s ∷ ss) =
    after_lines (code ++ spelled_all (action_code address (option_map (resolved_action g counter running ss) s.action))) address g
    (counter + length (turns_of s.action)) (type_after_line g running ss s.action) ss

pub after_lines_is : (code : List ℕ) (address : ℕ → ℕ) (g : Scope) (place counter : ℕ) (running : Option IlType) (ss : List Statement) → after_lines code address g counter running ss ≡ code ++ spelled_all (lines_code address (resolved_lines g place counter running ss))
after_lines_is code address g place counter running [] = refl
after_lines_is code address g place counter running (s ∷ ss) =
    let here = action_code address (option_map (resolved_action g counter running ss) s.action) in
    let after = type_after_line g running ss s.action in
    let next = counter + length (turns_of s.action) in
    after_lines_is (code ++ spelled_all here) address g (place + 1) next after ss
    ∙ joined code here (lines_code address (resolved_lines g (place + 1) next after ss))

-- a deferred operator
pub deferred_bytes : (o : Operator) (negated : Bool) (first : Option resolved.Source) (inner : resolved.Inner) (old a b c d e : List ℕ)
    → a ≡ old ++ spelled does.Push → b ≡ a ++ spelled_all (start_code first) → c ≡ b ++ spelled_all (inner_code inner) → d ≡ c ++ spelled_all (not_code negated) → e ≡ d ++ spelled (does.Apply o)
    → e ≡ old ++ spelled_all (simple_code (resolved.Defer o negated first inner))
deferred_bytes o negated first inner old a b c d e p q r s t =
    t ∙ ap (λ x. x ++ spelled (does.Apply o)) (s ∙ ap (λ x. x ++ spelled_all (not_code negated)) (r ∙ ap (λ x. x ++ spelled_all (inner_code inner)) (q ∙ ap (λ x. x ++ spelled_all (start_code first)) p)))
    ∙ ap (λ x. ((x ++ spelled_all (inner_code inner)) ++ spelled_all (not_code negated)) ++ spelled (does.Apply o)) (joined old (does.Push ∷ []) (start_code first))
    ∙ ap (λ x. (x ++ spelled_all (not_code negated)) ++ spelled (does.Apply o)) (joined old (does.Push ∷ start_code first) (inner_code inner))
    ∙ ap (λ x. x ++ spelled (does.Apply o)) (joined old ((does.Push ∷ start_code first) ++ inner_code inner) (not_code negated))
    ∙ joined old (((does.Push ∷ start_code first) ++ inner_code inner) ++ not_code negated) (does.Apply o ∷ [])
    ∙ ap (λ x. old ++ spelled_all x) (append_assoc ((does.Push ∷ start_code first) ++ inner_code inner) (not_code negated) (does.Apply o ∷ []) ∙ append_assoc (does.Push ∷ start_code first) (inner_code inner) (not_code negated ++ does.Apply o ∷ []))

-- where nothing is left

pub drop_all : {A : Type 0} (xs : List A) (n : ℕ) → length xs ≤ n → drop n xs ≡ []
drop_all [] n h = drop-nil n
drop_all (x ∷ xs) zero h = absurd (omega arith)
drop_all (x ∷ xs) (suc n) h = drop_all xs n (omega (arith, h))

pub nothing_left : {A : Type 0} (xs : List A) → length xs < 1 → xs ≡ []
nothing_left [] h = refl
nothing_left (x ∷ xs) h = absurd (omega (arith, h))
