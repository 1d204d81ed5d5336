-- The printed lines of tables, one more at a time.
use Rattle.std.proofs.Common.{◌≡◌, ℕ, zero, suc, ◌+◌, ℤ, List, [], ◌∷◌, ◌++◌, take, ap, sym, ◌∙◌, append_assoc, add-one, Option, Some, slice_get}
use Rattle.std.proofs.lemmas.List.{append-nil}
use Rattle.point_types.specs.declared.variable.Var.{Var}
use Rattle.scan_code.specs.declared.image.Tag.{Tag}
use Rattle.commands.specs.Report.{named_line, output_line, output_lines, shown, variable_lines}

variable_lines-suc : (vs : List Var) (ns : List ℤ) (i : ℕ) (v : Var) (n : ℤ) → slice_get vs i ≡ Some v → slice_get ns i ≡ Some n → variable_lines (take (suc i) vs) ns ≡ variable_lines (take i vs) ns ++ named_line v.name (shown v.kind n)
variable_lines-suc [] ns i v n e h = cc
variable_lines-suc (w ∷ vs) [] i v n e h = cc
variable_lines-suc (w ∷ vs) (m ∷ ns) zero v n e h =
    let here : w ≡ v = cc in
    let there : m ≡ n = cc in
    append-nil _ ∙ ap (λ u. named_line u.name (shown u.kind m)) here ∙ ap (λ k. named_line v.name (shown v.kind k)) there
variable_lines-suc (w ∷ vs) (m ∷ ns) (suc i) v n e h =
    ap (λ t. named_line w.name (shown w.kind m) ++ t) (variable_lines-suc vs ns i v n e h) ∙ sym (append_assoc (named_line w.name (shown w.kind m)) (variable_lines (take i vs) ns) (named_line v.name (shown v.kind n)))

-- the lines of one more variable
pub variable_lines-more : (vs : List Var) (ns : List ℤ) (i : ℕ) (v : Var) (n : ℤ) → slice_get vs i ≡ Some v → slice_get ns i ≡ Some n → variable_lines (take (i + 1) vs) ns ≡ variable_lines (take i vs) ns ++ named_line v.name (shown v.kind n)
variable_lines-more vs ns i v n e h = ap (λ k. variable_lines (take k vs) ns) (add-one i) ∙ variable_lines-suc vs ns i v n e h

output_lines-suc : (ts : List Tag) (ns : List (Option ℤ)) (i : ℕ) (t : Tag) (n : Option ℤ) → slice_get ts i ≡ Some t → slice_get ns i ≡ Some n → output_lines (take (suc i) ts) ns ≡ output_lines (take i ts) ns ++ output_line t n
output_lines-suc [] ns i t n e h = cc
output_lines-suc (w ∷ ts) [] i t n e h = cc
output_lines-suc (w ∷ ts) (m ∷ ns) zero t n e h =
    let here : w ≡ t = cc in
    let there : m ≡ n = cc in
    append-nil _ ∙ ap (λ u. output_line u m) here ∙ ap (output_line t) there
output_lines-suc (w ∷ ts) (m ∷ ns) (suc i) t n e h =
    ap (λ l. output_line w m ++ l) (output_lines-suc ts ns i t n e h) ∙ sym (append_assoc (output_line w m) (output_lines (take i ts) ns) (output_line t n))

-- the lines of one more tag
pub output_lines-more : (ts : List Tag) (ns : List (Option ℤ)) (i : ℕ) (t : Tag) (n : Option ℤ) → slice_get ts i ≡ Some t → slice_get ns i ≡ Some n → output_lines (take (i + 1) ts) ns ≡ output_lines (take i ts) ns ++ output_line t n
output_lines-more ts ns i t n e h = ap (λ k. output_lines (take k ts) ns) (add-one i) ∙ output_lines-suc ts ns i t n e h

-- one more variable is printed
pub variables_step : (vs : List Var) (ns : List ℤ) (i : ℕ) (v : Var) (n : ℤ) (old before new value : List ℕ) → slice_get vs i ≡ Some v → slice_get ns i ≡ Some n → value ≡ shown v.kind n
    → before ≡ old ++ variable_lines (take i vs) ns → new ≡ before ++ named_line v.name value → new ≡ old ++ variable_lines (take (i + 1) vs) ns
variables_step vs ns i v n old before new value e h s b w =
    w ∙ ap (λ t. t ++ named_line v.name value) b ∙ ap (λ t. (old ++ variable_lines (take i vs) ns) ++ named_line v.name t) s
    ∙ append_assoc old (variable_lines (take i vs) ns) (named_line v.name (shown v.kind n)) ∙ ap (λ t. old ++ t) (sym (variable_lines-more vs ns i v n e h))

-- one more output is printed
pub outputs_step : (ts : List Tag) (ns : List (Option ℤ)) (i : ℕ) (t : Tag) (n : Option ℤ) (old before new : List ℕ) → slice_get ts i ≡ Some t → slice_get ns i ≡ Some n
    → before ≡ old ++ output_lines (take i ts) ns → new ≡ before ++ output_line t n → new ≡ old ++ output_lines (take (i + 1) ts) ns
outputs_step ts ns i t n old before new e h b w =
    w ∙ ap (λ l. l ++ output_line t n) b ∙ append_assoc old (output_lines (take i ts) ns) (output_line t n) ∙ ap (λ l. old ++ l) (sym (output_lines-more ts ns i t n e h))
