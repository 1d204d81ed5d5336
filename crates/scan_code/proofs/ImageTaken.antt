-- Taking a reading of parts apart.
use Rattle.std.proofs.Common.{◌≡◌, ℕ, zero, suc, ◌+◌, Bool, true, false, not, ◌&&◌, ◌||◌, List, [], ◌∷◌, ◌++◌, map, length, ℤ, pos, Result, Ok, Err, refl, sym, ap, ◌∙◌, arith, nat_eq}
use Rattle.std.proofs.lemmas.List.{append_assoc, append-nil, length-append}
use Rattle.std.proofs.lemmas.List.Folds.{list_all-append}
use Rattle.std.specs.List.{list_all}
use Rattle.point_types.specs.declared.il_type.IlType.{IlType}
use Rattle.point_types.specs.declared.il_type.IlType.TheVariants as il
use Rattle.point_types.specs.declared.variable.Var.{Var}
use Rattle.scan_code.specs.declared.image.Tag.{Tag}
use Rattle.scan_code.specs.declared.image_fault.ImageFault.{ImageFault}
use Rattle.scan_code.specs.declared.image_fault.ImageFault.TheVariants as fault
use Rattle.scan_code.specs.Image.{are_new, is_new, is_whole_if_bool, names_of, tag_name, var_name}
use Rattle.scan_code.specs.ImageReading.{Taken, then_take, kept_if, piece_at, name_length_at, name_at, type_at, direction_at, number_at, is_low, is_high, low_at, high_at, ranged, var_behind, var_at, vars_at, tag_at, tags_at}
use Rattle.point_types.specs.Value.{int_eq, is_bool, is_ranged}
use Rattle.point_types.proofs.Truths.{and_both as both}

abbrev from : {A : Type 0} → A → Result A ImageFault → A
from d (Ok a) = a
from d (Err e) = d

pub ok_inner : {A : Type 0} (x y : A) → ◌≡◌ {A = Result A ImageFault} (Ok x) (Ok y) → x ≡ y
ok_inner x y e = ap (from x) e

pub never_ok : {A : Type 0} (e : ImageFault) (x : A) → ◌≡◌ {A = Result A ImageFault} (Err e) (Ok x) → ⊥
never_ok e x h = cc

pub found_first : {A B : Type 0} (t : Taken A) (next : A → List ℕ → Taken B) (x : B × List ℕ) → then_take t next ≡ Ok x → (a : A) × (rest : List ℕ) × (t ≡ Ok (a, rest)) × (next a rest ≡ Ok x)
found_first (Ok found) next x h = (found.0, found.1, refl, h)
found_first (Err e) next x h = absurd (never_ok e x h)

pub kept : {A : Type 0} (b : Bool) (e : ImageFault) (a : A) (rest : List ℕ) (x : A × List ℕ) → kept_if b e a rest ≡ Ok x → (b ≡ true) × (a ≡ x.0) × (rest ≡ x.1)
kept true e a rest x h = let i = ok_inner (a, rest) x h in (refl, ap (λ p. p.0) i, ap (λ p. p.1) i)
kept false e a rest x h = absurd (never_ok e x h)

-- what was read is new

abbrev pub after_length : List (List ℕ) → ℕ → List ℕ → Taken (List ℕ)
after_length before n rest = then_take (piece_at n rest) (λ name rest. kept_if (is_new before name) fault.Field name rest)

pub name_is_new : (before : List (List ℕ)) (bytes : List ℕ) (x : List ℕ × List ℕ) → name_at before bytes ≡ Ok x → is_new before x.0 ≡ true
name_is_new before bytes x h =
    let n = found_first (name_length_at bytes) (after_length before) x h in
    let p = found_first (piece_at n.0 n.1) (λ name rest. kept_if (is_new before name) fault.Field name rest) x n.3 in
    let k = kept (is_new before p.0) fault.Field p.0 p.1 x p.3 in
    ap (is_new before) (sym k.1) ∙ k.0

abbrev pub after_var_name : List ℕ → List ℕ → Taken Var
after_var_name name rest = then_take (type_at rest) (λ kind rest. var_behind name kind rest)

pub ranged_is : (name : List ℕ) (kind : IlType) (low high start : ℤ) (b : Bool) (e : is_ranged kind low high start ≡ b) (rest : List ℕ) (x : Var × List ℕ) → ranged name kind low high start b e rest ≡ Ok x
    → (name ≡ x.0.name) × (kind ≡ x.0.kind) × (low ≡ x.0.low) × (high ≡ x.0.high) × (start ≡ x.0.start) × (rest ≡ x.1)
ranged_is name kind low high start true e rest x h =
    let i = ok_inner _ x h in
    (ap (λ p. p.0.name) i, ap (λ p. p.0.kind) i, ap (λ p. p.0.low) i, ap (λ p. p.0.high) i, ap (λ p. p.0.start) i, ap (λ p. p.1) i)
ranged_is name kind low high start false e rest x h = absurd (never_ok fault.Field x h)

abbrev pub made : List ℕ → IlType → ℤ → ℤ → ℤ → List ℕ → Taken Var
made name kind low high start rest = ranged name kind low high start (is_ranged kind low high start) refl rest

abbrev pub after_high : List ℕ → IlType → ℤ → ℤ → List ℕ → Taken Var
after_high name kind low high rest = then_take (number_at rest) (made name kind low high)

abbrev pub after_low : List ℕ → IlType → ℤ → List ℕ → Taken Var
after_low name kind low rest = then_take (high_at kind low rest) (after_high name kind low)

pub var_is_new : (before : List (List ℕ)) (bytes : List ℕ) (x : Var × List ℕ) → var_at before bytes ≡ Ok x → is_new before x.0.name ≡ true
var_is_new before bytes x h =
    let n = found_first (name_at before bytes) after_var_name x h in
    let k = found_first (type_at n.1) (λ kind rest. var_behind n.0 kind rest) x n.3 in
    let low = found_first (low_at k.0 k.1) (after_low n.0 k.0) x k.3 in
    let high = found_first (high_at k.0 low.0 low.1) (after_high n.0 k.0 low.0) x low.3 in
    let start = found_first (number_at high.1) (made n.0 k.0 low.0 high.0) x high.3 in
    let r = ranged_is n.0 k.0 low.0 high.0 start.0 (is_ranged k.0 low.0 high.0 start.0) refl start.1 x start.3 in
    ap (is_new before) (sym r.0) ∙ name_is_new before bytes (n.0, n.1) n.2

-- what was read is whole, if it is a BOOL

abbrev pub whole_range : IlType → ℤ → ℤ → Bool
whole_range kind low high = not (is_bool kind) || (int_eq low (pos 0) && int_eq high (pos 1))

whole_told : (kind : IlType) (low high : ℤ) → is_low kind low ≡ true → is_high kind low high ≡ true → whole_range kind low high ≡ true
whole_told il.Bool low high e f = both (int_eq low (pos 0)) (int_eq high (pos 1)) e f
whole_told _ low high e f = refl

pub kept_number : (test : ℤ → Bool) (bytes : List ℕ) (x : ℤ × List ℕ) → then_take (number_at bytes) (λ n rest. kept_if (test n) fault.Field n rest) ≡ Ok x → test x.0 ≡ true
kept_number test bytes x h =
    let n = found_first (number_at bytes) (λ n rest. kept_if (test n) fault.Field n rest) x h in
    let k = kept (test n.0) fault.Field n.0 n.1 x n.3 in
    ap test (sym k.1) ∙ k.0

pub var_is_whole : (before : List (List ℕ)) (bytes : List ℕ) (x : Var × List ℕ) → var_at before bytes ≡ Ok x → is_whole_if_bool x.0 ≡ true
var_is_whole before bytes x h =
    let n = found_first (name_at before bytes) after_var_name x h in
    let k = found_first (type_at n.1) (λ kind rest. var_behind n.0 kind rest) x n.3 in
    let low = found_first (low_at k.0 k.1) (after_low n.0 k.0) x k.3 in
    let high = found_first (high_at k.0 low.0 low.1) (after_high n.0 k.0 low.0) x low.3 in
    let start = found_first (number_at high.1) (made n.0 k.0 low.0 high.0) x high.3 in
    let r = ranged_is n.0 k.0 low.0 high.0 start.0 (is_ranged k.0 low.0 high.0 start.0) refl start.1 x start.3 in
    ap (λ a. whole_range a x.0.low x.0.high) (sym r.1) ∙ ap (λ a. whole_range k.0 a x.0.high) (sym r.2) ∙ ap (whole_range k.0 low.0) (sym r.3)
    ∙ whole_told k.0 low.0 high.0 (kept_number (is_low k.0) k.1 (low.0, low.1) low.2) (kept_number (is_high k.0 low.0) low.1 (high.0, high.1) high.2)

abbrev pub tag_made : List ℕ → ℕ → IlType → List ℕ → Taken Tag
tag_made name n kind rest = Ok (record { name = name; output = nat_eq n 1; kind = kind }, rest)

abbrev pub after_direction : List ℕ → ℕ → List ℕ → Taken Tag
after_direction name n rest = then_take (type_at rest) (tag_made name n)

abbrev pub after_tag_name : List ℕ → List ℕ → Taken Tag
after_tag_name name rest = then_take (direction_at rest) (after_direction name)

pub tag_is_new : (before : List (List ℕ)) (bytes : List ℕ) (x : Tag × List ℕ) → tag_at before bytes ≡ Ok x → is_new before x.0.name ≡ true
tag_is_new before bytes x h =
    let n = found_first (name_at before bytes) after_tag_name x h in
    let d = found_first (direction_at n.1) (after_direction n.0) x n.3 in
    let k = found_first (type_at d.1) (tag_made n.0 d.0) x d.3 in
    let i = ok_inner (record { name = n.0; output = nat_eq d.0 1; kind = k.0 }, k.1) x k.3 in
    ap (λ p. is_new before p.0.name) (sym i) ∙ name_is_new before bytes (n.0, n.1) n.2

-- lists of names that grow

pub are_new_append : (before xs ys : List (List ℕ)) → are_new before (xs ++ ys) ≡ (are_new before xs && are_new (before ++ xs) ys)
are_new_append before [] ys = ap (λ b. are_new b ys) (sym (append-nil before))
are_new_append before (x ∷ xs) ys =
    ap (λ b. is_new before x && b) (are_new_append (before ++ x ∷ []) xs ys)
    ∙ ap (λ b. is_new before x && (are_new (before ++ x ∷ []) xs && are_new b ys)) (append_assoc before (x ∷ []) xs)
    ∙ joined (is_new before x) (are_new (before ++ x ∷ []) xs) (are_new (before ++ x ∷ xs) ys)
  where
    joined : (a b c : Bool) → (a && (b && c)) ≡ ((a && b) && c)
    joined true b c = refl
    joined false b c = refl

pub map_append : {A B : Type 0} (f : A → B) (xs ys : List A) → map f (xs ++ ys) ≡ map f xs ++ map f ys
map_append f [] ys = refl
map_append f (x ∷ xs) ys = ap (λ l. f x ∷ l) (map_append f xs ys)

pub names_more_vars : (vars : List Var) (v : Var) → names_of (vars ++ v ∷ []) [] ≡ names_of vars [] ++ v.name ∷ []
names_more_vars vars v = append-nil (map var_name (vars ++ v ∷ [])) ∙ map_append var_name vars (v ∷ []) ∙ ap (λ l. l ++ v.name ∷ []) (sym (append-nil (map var_name vars)))

pub names_more_tags : (vars : List Var) (tags : List Tag) (t : Tag) → names_of vars (tags ++ t ∷ []) ≡ names_of vars tags ++ t.name ∷ []
names_more_tags vars tags t = ap (λ l. map var_name vars ++ l) (map_append tag_name tags (t ∷ [])) ∙ sym (append_assoc (map var_name vars) (map tag_name tags) (t.name ∷ []))

more_is_new : (names : List (List ℕ)) (name : List ℕ) → are_new [] names ≡ true → is_new names name ≡ true → are_new [] (names ++ name ∷ []) ≡ true
more_is_new names name e f = are_new_append [] names (name ∷ []) ∙ both (are_new [] names) (is_new names name && true) e (both (is_new names name) true f refl)

more_whole : (vs : List Var) (v : Var) → list_all is_whole_if_bool vs ≡ true → is_whole_if_bool v ≡ true → list_all is_whole_if_bool (vs ++ v ∷ []) ≡ true
more_whole vs v e f = list_all-append is_whole_if_bool vs (v ∷ []) ∙ both (list_all is_whole_if_bool vs) (is_whole_if_bool v && true) e (both (is_whole_if_bool v) true f refl)

pub vars_counted : (n : ℕ) (before : List Var) (bytes : List ℕ) (x : List Var × List ℕ) → vars_at n before bytes ≡ Ok x → are_new [] (names_of before []) ≡ true → list_all is_whole_if_bool before ≡ true
    → (length x.0 ≡ length before + n) × (are_new [] (names_of x.0 []) ≡ true) × (list_all is_whole_if_bool x.0 ≡ true)
vars_counted zero before bytes x h e w =
    let i = ok_inner (before, bytes) x h in
    (ap (λ p. length p.0) (sym i) ∙ omega arith, ap (λ p. are_new [] (names_of p.0 [])) (sym i) ∙ e, ap (λ p. list_all is_whole_if_bool p.0) (sym i) ∙ w)
vars_counted (suc n) before bytes x h e w =
    let v = found_first (var_at (names_of before []) bytes) (λ v rest. vars_at n (before ++ v ∷ []) rest) x h in
    let new = var_is_new (names_of before []) bytes (v.0, v.1) v.2 in
    let more = ap (are_new []) (names_more_vars before v.0) ∙ more_is_new (names_of before []) v.0.name e new in
    let whole = var_is_whole (names_of before []) bytes (v.0, v.1) v.2 in
    let rest = vars_counted n (before ++ v.0 ∷ []) v.1 x v.3 more (more_whole before v.0 w whole) in
    let l = length-append before (v.0 ∷ []) in
    (omega (arith, rest.0, l), rest.1, rest.2)

pub tags_counted : (n : ℕ) (vars : List Var) (before : List Tag) (bytes : List ℕ) (x : List Tag × List ℕ) → tags_at n vars before bytes ≡ Ok x → are_new [] (names_of vars before) ≡ true
    → (length x.0 ≡ length before + n) × (are_new [] (names_of vars x.0) ≡ true)
tags_counted zero vars before bytes x h e =
    let i = ok_inner (before, bytes) x h in
    (ap (λ p. length p.0) (sym i) ∙ omega arith, ap (λ p. are_new [] (names_of vars p.0)) (sym i) ∙ e)
tags_counted (suc n) vars before bytes x h e =
    let t = found_first (tag_at (names_of vars before) bytes) (λ t rest. tags_at n vars (before ++ t ∷ []) rest) x h in
    let new = tag_is_new (names_of vars before) bytes (t.0, t.1) t.2 in
    let more = ap (are_new []) (names_more_tags vars before t.0) ∙ more_is_new (names_of vars before) t.0.name e new in
    let rest = tags_counted n vars (before ++ t.0 ∷ []) t.1 x t.3 more in
    let l = length-append before (t.0 ∷ []) in
    (omega (arith, rest.0, l), rest.1)

-- variables, then tags
pub all_new : (vars : List Var) (tags : List Tag) → are_new [] (names_of vars tags) ≡ (are_new [] (names_of vars []) && are_new (names_of vars []) (names_of [] tags))
all_new vars tags =
    are_new_append [] (map var_name vars) (map tag_name tags)
    ∙ ap (λ l. are_new [] l && are_new l (map tag_name tags)) (sym (append-nil (map var_name vars)))

pub first_refuses : (vars : List Var) (tags : List Tag) (r : Bool) → r ≡ are_new [] (names_of vars []) → r ≡ false → r ≡ are_new [] (names_of vars tags)
first_refuses vars tags r e h = h ∙ ap (λ b. b && are_new (names_of vars []) (names_of [] tags)) (sym h ∙ e) ∙ sym (all_new vars tags)

pub second_says : (vars : List Var) (tags : List Tag) (r s : Bool) → r ≡ are_new [] (names_of vars []) → r ≡ true → s ≡ are_new (names_of vars []) (names_of [] tags) → s ≡ are_new [] (names_of vars tags)
second_says vars tags r s e h f = f ∙ ap (λ b. b && are_new (names_of vars []) (names_of [] tags)) (sym h ∙ e) ∙ sym (all_new vars tags)
