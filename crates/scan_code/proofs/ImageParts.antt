-- The parts of an image as they are read.
use Rattle.std.proofs.Common.{◌≡◌, ℕ, zero, suc, ◌-◌, ◌<◌, Bool, true, false, not, ◌&&◌, ◌||◌, List, [], ◌∷◌, ◌++◌, ℤ, pos, Some, None, if◌then◌else◌, Result, Ok, Err, slice_get, refl, sym, ap, subst, inl, ◌∙◌, arith}
use Rattle.std.proofs.Math.Bool.{Bool-set}
use Rattle.std.proofs.lemmas.Int.{ints}
use Rattle.std.specs.List.{list_all}
use Rattle.point_types.specs.declared.il_type.IlType.{IlType}
use Rattle.point_types.specs.declared.variable.Var.{Var}
use Rattle.point_types.specs.Value.{int_eq, is_bool, is_ranged}
use Rattle.scan_code.specs.declared.image.Tag.{Tag}
use Rattle.scan_code.specs.declared.image_fault.ImageFault.{ImageFault}
use Rattle.scan_code.specs.declared.image_fault.ImageFault.TheVariants as fault
use Rattle.scan_code.specs.Image.{Image, IsProper, is_new, is_whole_if_bool, names_of}
use Rattle.scan_code.specs.ImageReading.{TakesOrWantsMemory, then_take, kept_if, number_at, piece_at, name_length_at, name_at, low_at, high_at, ranged, var_behind, var_at, vars_at, tag_at, tags_at}
use Rattle.point_types.proofs.Truths.{both as both_true}

pub ranged_told : (name : List ℕ) (kind : IlType) (low high start : ℤ) (b : Bool) (e : is_ranged kind low high start ≡ b) (h : is_ranged kind low high start ≡ true) (rest : List ℕ)
    → ranged name kind low high start b e rest ≡ Ok (record { name = name; kind = kind; low = low; high = high; start = start; ranged = h }, rest)
ranged_told name kind low high start true e h rest =
    λ i. Ok (record { name = name; kind = kind; low = low; high = high; start = start; ranged = Bool-set _ _ e h i }, rest)
ranged_told name kind low high start false e h rest = absurd (no (sym e ∙ h))
  where
    no : false ≡ true → ⊥
    no p = cc

-- a variable whose numbers were read, where the code has them as words
pub var_told : (name : List ℕ) (kind : IlType) (bytes behind_low behind_high rest : List ℕ) (low high start low' high' start' : ℤ)
    → low_at kind bytes ≡ Ok (low, behind_low) → high_at kind low' behind_low ≡ Ok (high, behind_high) → number_at behind_high ≡ Ok (start, rest)
    → low' ≡ low → high' ≡ high → start' ≡ start → (h : is_ranged kind low' high' start' ≡ true)
    → var_behind name kind bytes ≡ Ok (record { name = name; kind = kind; low = low'; high = high'; start = start'; ranged = h }, rest)
var_told name kind bytes behind_low behind_high rest low high start low' high' start' e f g x y z h =
    let made : ℤ → ℤ → ℤ → List ℕ → _ = λ low high start rest. ranged name kind low high start (is_ranged kind low high start) refl rest in
    ap (λ t. then_take t (λ low rest. then_take (high_at kind low rest) (λ high rest. then_take (number_at rest) (made low high)))) e
    ∙ ap (λ n. then_take (high_at kind n behind_low) (λ high rest. then_take (number_at rest) (made n high))) (sym x)
    ∙ ap (λ t. then_take t (λ high rest. then_take (number_at rest) (made low' high))) f
    ∙ ap (λ t. then_take t (made low' high)) g
    ∙ ap (λ n. made low' n start rest) (sym y) ∙ ap (λ n. made low' high' n rest) (sym z)
    ∙ ranged_told name kind low' high' start' (is_ranged kind low' high' start') refl h rest

-- the tables, an entry at a time
pub one_var : (n : ℕ) (vars : List Var) (bytes : List ℕ) → 0 < n → vars_at n vars bytes ≡ then_take (var_at (names_of vars []) bytes) (λ v rest. vars_at (n - 1) (vars ++ v ∷ []) rest)
one_var zero vars bytes h = absurd (omega (arith, h))
one_var (suc n) vars bytes h =
    let e : n ≡ suc n - 1 = omega arith in
    ap (λ m. then_take (var_at (names_of vars []) bytes) (λ v rest. vars_at m (vars ++ v ∷ []) rest)) e

pub one_tag : (n : ℕ) (vars : List Var) (tags : List Tag) (bytes : List ℕ) → 0 < n → tags_at n vars tags bytes ≡ then_take (tag_at (names_of vars tags) bytes) (λ t rest. tags_at (n - 1) vars (tags ++ t ∷ []) rest)
one_tag zero vars tags bytes h = absurd (omega (arith, h))
one_tag (suc n) vars tags bytes h =
    let e : n ≡ suc n - 1 = omega arith in
    ap (λ m. then_take (tag_at (names_of vars tags) bytes) (λ t rest. tags_at m vars (tags ++ t ∷ []) rest)) e

pub var_refused : (n count : ℕ) (vars : List Var) (bytes first : List ℕ) (e : ImageFault) (answer : Result (List Var) ImageFault) (rest : List ℕ)
    → 0 < n → vars_at n vars bytes ≡ vars_at count [] first → var_at (names_of vars []) bytes ≡ Err e → answer ≡ Err e → TakesOrWantsMemory (vars_at count [] first) answer rest
var_refused n count vars bytes first e answer rest h same refused is =
    subst (λ r. TakesOrWantsMemory (vars_at count [] first) r rest) (sym is)
    (inl (sym same ∙ one_var n vars bytes h ∙ ap (λ t. then_take t (λ v rest. vars_at (n - 1) (vars ++ v ∷ []) rest)) refused))

pub var_more : (n count : ℕ) (vars longer : List Var) (bytes first rest : List ℕ) (v : Var)
    → 0 < n → vars_at n vars bytes ≡ vars_at count [] first → var_at (names_of vars []) bytes ≡ Ok (v, rest) → longer ≡ vars ++ v ∷ [] → vars_at (n - 1) longer rest ≡ vars_at count [] first
var_more n count vars longer bytes first rest v h same taken is =
    ap (λ vs. vars_at (n - 1) vs rest) is ∙ sym (ap (λ t. then_take t (λ v rest. vars_at (n - 1) (vars ++ v ∷ []) rest)) taken) ∙ sym (one_var n vars bytes h) ∙ same

pub tag_refused : (n count : ℕ) (vars : List Var) (tags : List Tag) (bytes first : List ℕ) (e : ImageFault) (answer : Result (List Tag) ImageFault) (rest : List ℕ)
    → 0 < n → tags_at n vars tags bytes ≡ tags_at count vars [] first → tag_at (names_of vars tags) bytes ≡ Err e → answer ≡ Err e → TakesOrWantsMemory (tags_at count vars [] first) answer rest
tag_refused n count vars tags bytes first e answer rest h same refused is =
    subst (λ r. TakesOrWantsMemory (tags_at count vars [] first) r rest) (sym is)
    (inl (sym same ∙ one_tag n vars tags bytes h ∙ ap (λ x. then_take x (λ t rest. tags_at (n - 1) vars (tags ++ t ∷ []) rest)) refused))

pub tag_more : (n count : ℕ) (vars : List Var) (tags longer : List Tag) (bytes first rest : List ℕ) (t : Tag)
    → 0 < n → tags_at n vars tags bytes ≡ tags_at count vars [] first → tag_at (names_of vars tags) bytes ≡ Ok (t, rest) → longer ≡ tags ++ t ∷ [] → tags_at (n - 1) vars longer rest ≡ tags_at count vars [] first
tag_more n count vars tags longer bytes first rest t h same taken is =
    ap (λ ts. tags_at (n - 1) vars ts rest) is ∙ sym (ap (λ x. then_take x (λ t rest. tags_at (n - 1) vars (tags ++ t ∷ []) rest)) taken) ∙ sym (one_tag n vars tags bytes h) ∙ same

pub name_refused : (before : List (List ℕ)) (n : ℕ) (bytes behind_length piece rest : List ℕ)
    → name_length_at bytes ≡ Ok (n, behind_length) → piece_at n behind_length ≡ Ok (piece, rest) → None ≡ (if is_new before piece then Some piece else None) → name_at before bytes ≡ Err fault.Field
name_refused before n bytes behind_length piece rest e f h =
    ap (λ t. then_take t (λ n rest. then_take (piece_at n rest) (λ name rest. kept_if (is_new before name) fault.Field name rest))) e
    ∙ ap (λ t. then_take t (λ name rest. kept_if (is_new before name) fault.Field name rest)) f
    ∙ go (is_new before piece) h
  where
    go : (b : Bool) → None ≡ (if b then Some piece else None) → kept_if b fault.Field piece rest ≡ Err fault.Field
    go true h = cc
    go false h = refl

-- a BOOL of an image has the range 0..1
whole_at : (vs : List Var) (i : ℕ) (v : Var) → list_all is_whole_if_bool vs ≡ true → slice_get vs i ≡ Some v → is_whole_if_bool v ≡ true
whole_at [] i v w e = absurd (cc)
whole_at (x ∷ vs) zero v w e =
    let same : x ≡ v = cc in
    ap is_whole_if_bool (sym same) ∙ (both_true (is_whole_if_bool x) (list_all is_whole_if_bool vs) w).0
whole_at (x ∷ vs) (suc i) v w e = whole_at vs i v (both_true (is_whole_if_bool x) (list_all is_whole_if_bool vs) w).1 e

same_number : (a b : ℤ) → int_eq a b ≡ true → a ≡ b
same_number a b h = grind (arith, ints)

pub bool_is_whole : (image : Image) → IsProper image → (i : ℕ) (v : Var) → slice_get image.vars i ≡ Some v → is_bool v.kind ≡ true → (v.low ≡ pos 0) × (v.high ≡ pos 1)
bool_is_whole image proper i v e h =
    let w : (int_eq v.low (pos 0) && int_eq v.high (pos 1)) ≡ true = ap (λ b. not b || (int_eq v.low (pos 0) && int_eq v.high (pos 1))) (sym h) ∙ whole_at image.vars i v proper.whole_bools e in
    let ends = both_true (int_eq v.low (pos 0)) (int_eq v.high (pos 1)) w in
    (same_number v.low (pos 0) ends.0, same_number v.high (pos 1) ends.1)
