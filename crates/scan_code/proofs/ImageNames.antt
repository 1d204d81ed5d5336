-- Names of an image: those that come before, and bytes that are a name in lower case.
use Rattle.std.proofs.Common.{◌≡◌, ℕ, Bool, true, false, ◌&&◌, ◌||◌, not, List, [], ◌∷◌, ◌++◌, length, map, Option, Some, None, if◌then◌else◌, refl, sym, ap, ◌∙◌, arith, ◌≤◌, leb-true, nat_le, bytes_eq, true≢false}
use Rattle.std.specs.List.{list_all, list_any}
use Rattle.std.proofs.lemmas.List.Folds.{list_any-append}
use Rattle.std.proofs.lemmas.Bool.Decides.{nat_tests}
use Rattle.point_types.specs.declared.variable.Var.{Var}
use Rattle.point_types.specs.Keyword.{is_reserved}
use Rattle.point_types.specs.Name.{begins_with_letter, folded, is_name, is_name_byte, is_name_word, is_parted, name_of}
use Rattle.scan_code.specs.declared.image.Tag.{Tag}
use Rattle.std.proofs.lemmas.List.{append_assoc}
use Rattle.point_types.specs.Value.{code_of}
use Rattle.scan_code.specs.ImageSpelling.{spelled_number, spelled_range}
use Rattle.scan_code.specs.Image.{is_among, is_new, names_of, tag_name, var_name}
use Rattle.point_types.proofs.Truths.{first_of}
use Rattle.point_types.proofs.Truths.{second_of}

any-map : {A : Type 0} (f : A → List ℕ) (n : List ℕ) (xs : List A) → list_any (bytes_eq n) (map f xs) ≡ list_any (λ x. bytes_eq n (f x)) xs
any-map f n [] = refl
any-map f n (x ∷ xs) = ap (λ z. bytes_eq n (f x) || z) (any-map f n xs)

among_names : (vars : List Var) (tags : List Tag) (n : List ℕ) → (list_any (λ v. bytes_eq n (var_name v)) vars || list_any (λ t. bytes_eq n (tag_name t)) tags) ≡ is_among (names_of vars tags) n
among_names vars tags n =
    ap (λ z. z || list_any (λ t. bytes_eq n (tag_name t)) tags) (sym (any-map var_name n vars))
    ∙ ap (λ z. list_any (bytes_eq n) (map var_name vars) || z) (sym (any-map tag_name n tags))
    ∙ sym (list_any-append (bytes_eq n) (map var_name vars) (map tag_name tags))

pub first_taken : (vars : List Var) (tags : List Tag) (n : List ℕ) (r : Bool) → r ≡ list_any (λ v. bytes_eq n (var_name v)) vars → r ≡ true → r ≡ is_among (names_of vars tags) n
first_taken vars tags n r e h = h ∙ ap (λ z. z || list_any (λ t. bytes_eq n (tag_name t)) tags) (sym h ∙ e) ∙ among_names vars tags n

pub second_taken : (vars : List Var) (tags : List Tag) (n : List ℕ) (r s : Bool) → r ≡ list_any (λ v. bytes_eq n (var_name v)) vars → r ≡ false → s ≡ list_any (λ t. bytes_eq n (tag_name t)) tags → s ≡ is_among (names_of vars tags) n
second_taken vars tags n r s e h g = g ∙ ap (λ z. z || list_any (λ t. bytes_eq n (tag_name t)) tags) (sym h ∙ e) ∙ among_names vars tags n

folded_lower : (b : ℕ) → is_name_byte b ≡ true → folded b ≡ b
folded_lower b h = grind (arith, nat_tests)

folded_all : (bs : List ℕ) → list_all is_name_byte bs ≡ true → map folded bs ≡ bs
folded_all [] h = refl
folded_all (b ∷ bs) h =
    let first = folded_lower b (first_of (is_name_byte b) (list_all is_name_byte bs) h) in
    let others = folded_all bs (second_of (is_name_byte b) (list_all is_name_byte bs) h) in
    ap (λ c. c ∷ map folded bs) first ∙ ap (λ cs. b ∷ cs) others

pub name_folds : (bs : List ℕ) → is_name bs ≡ true → map folded bs ≡ bs
name_folds bs h =
    let word = second_of (nat_le (length bs) 32) (is_name_word bs) h in
    let left = first_of ((begins_with_letter bs && list_all is_name_byte bs) && is_parted bs) (not (is_reserved bs)) word in
    let bytes = first_of (begins_with_letter bs && list_all is_name_byte bs) (is_parted bs) left in
    folded_all bs (second_of (begins_with_letter bs) (list_all is_name_byte bs) bytes)

pub name_of_lower : (bs : List ℕ) → is_name bs ≡ true → name_of bs ≡ Some bs
name_of_lower bs h = ap (λ z. if is_name z then Some z else None) (name_folds bs h) ∙ ap (λ b. if b then Some bs else None) h

by_name : (bs : List ℕ) (x : Option (List ℕ)) → (is_name bs ≡ true → x ≡ Some bs) → (is_name bs ≡ false → x ≡ None) → x ≡ (if is_name bs then Some bs else None)
by_name bs x named other = go (is_name bs) refl
  where
    go : (b : Bool) → is_name bs ≡ b → x ≡ (if b then Some bs else None)
    go true e = named e
    go false e = other e

pub none_lower : (bs : List ℕ) → None ≡ name_of bs → None ≡ (if is_name bs then Some bs else None)
none_lower bs h = by_name bs None (λ e. h ∙ name_of_lower bs e) (λ e. refl)

pub other_lower : (bs name : List ℕ) → Some name ≡ name_of bs → (name ≡ bs → ⊥) → None ≡ (if is_name bs then Some bs else None)
other_lower bs name h differs = by_name bs None (λ e. absurd (differs (inner (h ∙ name_of_lower bs e)))) (λ e. refl)
  where
    inner : Some name ≡ Some bs → name ≡ bs
    inner e = cc

pub same_lower : (bs name : List ℕ) → Some name ≡ name_of bs → name ≡ bs → Some name ≡ (if is_name bs then Some bs else None)
same_lower bs name h same = by_name bs (Some name) (λ e. ap Some same) (λ e. absurd (true≢false (sym (named (is_name (map folded bs)) refl h) ∙ e)))
  where
    inner : Some name ≡ Some (map folded bs) → name ≡ map folded bs
    inner e = cc

    differs : Some name ≡ None → ⊥
    differs e = cc

    named : (b : Bool) → is_name (map folded bs) ≡ b → Some name ≡ (if b then Some (map folded bs) else None) → is_name bs ≡ true
    named true e h = ap is_name (sym same ∙ inner h) ∙ e
    named false e h = absurd (differs h)

-- a name that may be new
pub never_new : (before : List (List ℕ)) (bs : List ℕ) → None ≡ (if is_name bs then Some bs else None) → None ≡ (if is_new before bs then Some bs else None)
never_new before bs h = go (is_name bs) (is_among before bs) h
  where
    go : (a b : Bool) → None ≡ (if a then Some bs else None) → None ≡ (if a && not b then Some bs else None)
    go true true h = refl
    go true false h = h
    go false b h = refl

pub not_new : (before : List (List ℕ)) (bs : List ℕ) → is_among before bs ≡ true → None ≡ (if is_new before bs then Some bs else None)
not_new before bs h = go (is_name bs) ∙ ap (λ b. if is_name bs && not b then Some bs else None) (sym h)
  where
    go : (a : Bool) → None ≡ (if a && not true then Some bs else None)
    go true = refl
    go false = refl

pub is_then_new : (before : List (List ℕ)) (bs name : List ℕ) → Some name ≡ (if is_name bs then Some bs else None) → is_among before bs ≡ false → Some name ≡ (if is_new before bs then Some bs else None)
is_then_new before bs name h e = h ∙ go (is_name bs) ∙ ap (λ b. if is_name bs && not b then Some bs else None) (sym e)
  where
    go : (a : Bool) → (if a then Some bs else None) ≡ (if a && not false then Some bs else None)
    go true = refl
    go false = refl

pub name_is_short : (bs : List ℕ) → is_name bs ≡ true → length bs ≤ 32
name_is_short bs h = leb-true (length bs) 32 (first_of (nat_le (length bs) 32) (is_name_word bs) h)

pub range_written : (v : Var) (first a b c d : List ℕ) → a ≡ first ++ code_of v.kind ∷ [] → b ≡ a ++ spelled_number v.low → c ≡ b ++ spelled_number v.high → d ≡ c ++ spelled_number v.start → d ≡ first ++ spelled_range v
range_written v first a b c d e f g h =
    h ∙ ap (λ l. l ++ spelled_number v.start) (g ∙ ap (λ l. l ++ spelled_number v.high) (f ∙ ap (λ l. l ++ spelled_number v.low) e)) ∙ simp append_assoc refl
