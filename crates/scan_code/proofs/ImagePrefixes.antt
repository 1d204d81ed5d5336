-- An image's bytes that end too soon are Cut.
use Rattle.std.proofs.Common.{◌≡◌, ℕ, zero, suc, ◌≤◌, ◌⊎◌, Bool, true, false, List, [], ◌∷◌, ◌++◌, length, take, drop, Ok, Err, Option, Some, None, if◌then◌else◌, slice_get, nat_le, nat_eq, refl, sym, ap, ◌∙◌, arith, leb-true, le-leb, inl, inr, ℤ}
use Rattle.std.proofs.lemmas.List.{append-nil, length-append, take-append-le, drop-append-le}
use Rattle.point_types.specs.declared.il_type.IlType.{IlType}
use Rattle.point_types.specs.declared.variable.Var.{Var}
use Rattle.point_types.specs.Value.{is_ranged}
use Rattle.scan_code.specs.declared.image.Tag.{Tag}
use Rattle.scan_code.specs.declared.image_fault.ImageFault.{ImageFault}
use Rattle.scan_code.specs.declared.image_fault.ImageFault.TheVariants as fault
use Rattle.scan_code.specs.Instruction.{types}
use Rattle.scan_code.specs.Image.{names_of}
use Rattle.scan_code.specs.ImageSpelling.{mark, spelled_image}
use Rattle.scan_code.specs.ImageReading.{Taken, then_take, kept_if, byte_at, place_at, number_at, piece_at, name_length_at, name_at, type_or_fault, type_at, low_at, high_at, ranged, var_at, vars_at, direction_at, tag_at, tags_at, tables_at, image_at, version_at, count_at, behind_mark, whole}
use Rattle.scan_code.specs.ImageLaws.{PrefixesAreCut}
use Rattle.scan_code.proofs.ImageTaken.{found_first, never_ok, ok_inner}
use Rattle.scan_code.proofs.ImageReadBack.{image_reads}

-- of bytes that go on, the first ones end too soon, or are taken alike
pub record IsCutOrTaken {A : Type 0} (part : List ℕ → Taken A) : Type 0 where
  pub at : (first more : List ℕ) (x : A × List ℕ) → part (first ++ more) ≡ Ok x → (part first ≡ Err fault.Cut) ⊎ ((rest : List ℕ) × (part first ≡ Ok (x.0, rest)) × (x.1 ≡ rest ++ more))

in_order : {A B : Type 0} (part : List ℕ → Taken A) (next : A → List ℕ → Taken B) → IsCutOrTaken part → ((a : A) → IsCutOrTaken (next a)) → IsCutOrTaken (λ bytes. then_take (part bytes) next)
in_order {A} {B} part next p n = record { at = goes }
  where
    goes : (first more : List ℕ) (x : B × List ℕ) → then_take (part (first ++ more)) next ≡ Ok x → (then_take (part first) next ≡ Err fault.Cut) ⊎ ((rest : List ℕ) × (then_take (part first) next ≡ Ok (x.0, rest)) × (x.1 ≡ rest ++ more))
    goes first more x h =
        let f = found_first (part (first ++ more)) next x h in
        elim (p.at first more (f.0, f.1) f.2) [
          | inl cut ↦ inl (ap (λ t. then_take t next) cut)
          | inr taken ↦
              elim ((n f.0).at taken.0 more x (ap (next f.0) (sym taken.2) ∙ f.3)) [
                | inl cut ↦ inl (ap (λ t. then_take t next) taken.1 ∙ cut)
                | inr onward ↦ inr (onward.0, ap (λ t. then_take t next) taken.1 ∙ onward.1, onward.2)
              ]
        ]

-- a part that takes nothing
alike : {A : Type 0} (a : A) → IsCutOrTaken (λ rest. Ok (a, rest))
alike a = record { at = λ first more x h. let i = ok_inner (a, first ++ more) x h in inr (first, ap (λ b. Ok (b, first)) (ap (λ p. p.0) i), sym (ap (λ p. p.1) i)) }

refused : {A : Type 0} (e : ImageFault) → IsCutOrTaken {A = A} (λ rest. Err e)
refused e = record { at = λ first more x h. absurd (never_ok e x h) }

keeping : {A : Type 0} (b : Bool) (e : ImageFault) (a : A) → IsCutOrTaken (λ rest. kept_if b e a rest)
keeping true e a = alike a
keeping false e a = refused e

byte_cut : IsCutOrTaken byte_at
byte_cut = record { at = goes }
  where
    goes : (first more : List ℕ) (x : ℕ × List ℕ) → byte_at (first ++ more) ≡ Ok x → (byte_at first ≡ Err fault.Cut) ⊎ ((rest : List ℕ) × (byte_at first ≡ Ok (x.0, rest)) × (x.1 ≡ rest ++ more))
    goes [] more x h = inl refl
    goes (b ∷ first) more x h = let i = ok_inner (b, first ++ more) x h in inr (first, ap (λ p. Ok (p.0, first)) i, sym (ap (λ p. p.1) i))

place_cut : IsCutOrTaken place_at
place_cut = record { at = goes }
  where
    goes : (first more : List ℕ) (x : ℕ × List ℕ) → place_at (first ++ more) ≡ Ok x → (place_at first ≡ Err fault.Cut) ⊎ ((rest : List ℕ) × (place_at first ≡ Ok (x.0, rest)) × (x.1 ≡ rest ++ more))
    goes [] more x h = inl refl
    goes (a ∷ []) more x h = inl refl
    goes (a ∷ b ∷ first) more x h = let i = ok_inner _ x h in inr (first, ap (λ p. Ok (p.0, first)) i, sym (ap (λ p. p.1) i))

number_cut : IsCutOrTaken number_at
number_cut = record { at = goes }
  where
    goes : (first more : List ℕ) (x : ℤ × List ℕ) → number_at (first ++ more) ≡ Ok x → (number_at first ≡ Err fault.Cut) ⊎ ((rest : List ℕ) × (number_at first ≡ Ok (x.0, rest)) × (x.1 ≡ rest ++ more))
    goes (a ∷ b ∷ c ∷ d ∷ e ∷ f ∷ g ∷ h ∷ first) more x t = let i = ok_inner _ x t in inr (first, ap (λ p. Ok (p.0, first)) i, sym (ap (λ p. p.1) i))
    goes first more x t = inl refl

piece_cut : (n : ℕ) → IsCutOrTaken (piece_at n)
piece_cut n = record { at = goes }
  where
    taken_of : List ℕ → Bool → Taken (List ℕ)
    taken_of bytes b = if b then Ok (take n bytes, drop n bytes) else Err fault.Cut

    short : (first more : List ℕ) → n ≤ length first → nat_le n (length (first ++ more)) ≡ true
    short first more h = le-leb n (length (first ++ more)) (rw (length-append first more) (omega (arith, h)))

    goes : (first more : List ℕ) (x : List ℕ × List ℕ) → piece_at n (first ++ more) ≡ Ok x → (piece_at n first ≡ Err fault.Cut) ⊎ ((rest : List ℕ) × (piece_at n first ≡ Ok (x.0, rest)) × (x.1 ≡ rest ++ more))
    goes first more x h = by (nat_le n (length first)) refl
      where
        by : (b : Bool) → nat_le n (length first) ≡ b → (piece_at n first ≡ Err fault.Cut) ⊎ ((rest : List ℕ) × (piece_at n first ≡ Ok (x.0, rest)) × (x.1 ≡ rest ++ more))
        by false e = inl (ap (λ c. if c then Ok (take n first, drop n first) else Err fault.Cut) e)
        by true e =
            let le = leb-true n (length first) e in
            let all = ap (λ c. if c then Ok (take n (first ++ more), drop n (first ++ more)) else Err fault.Cut) (short first more le) in
            let i = ok_inner (take n (first ++ more), drop n (first ++ more)) x (sym all ∙ h) in
            inr (
              drop n first,
              ap (λ c. if c then Ok (take n first, drop n first) else Err fault.Cut) e ∙ ap (λ l. Ok (l, drop n first)) (sym (take-append-le n first more le) ∙ ap (λ p. p.0) i),
              sym (ap (λ p. p.1) i) ∙ drop-append-le n first more le,
            )

mark_cut : (marks : List ℕ) → IsCutOrTaken (behind_mark marks)
mark_cut [] = alike tt
mark_cut (m ∷ ms) = record { at = goes (mark_cut ms) }
  where
    goes : IsCutOrTaken (behind_mark ms) → (first more : List ℕ) (x : Unit {0} × List ℕ) → behind_mark (m ∷ ms) (first ++ more) ≡ Ok x → (behind_mark (m ∷ ms) first ≡ Err fault.Cut) ⊎ ((rest : List ℕ) × (behind_mark (m ∷ ms) first ≡ Ok (x.0, rest)) × (x.1 ≡ rest ++ more))
    goes behind [] more x h = inl refl
    goes behind (b ∷ first) more x h = by (nat_eq b m) h
      where
        by : (c : Bool) → (if c then behind_mark ms (first ++ more) else Err fault.Mark) ≡ Ok x
            → ((if c then behind_mark ms first else Err fault.Mark) ≡ Err fault.Cut) ⊎ ((rest : List ℕ) × ((if c then behind_mark ms first else Err fault.Mark) ≡ Ok (x.0, rest)) × (x.1 ≡ rest ++ more))
        by true h = behind.at first more x h
        by false h = absurd (never_ok fault.Mark x h)

type_or_cut : (k : Option IlType) → IsCutOrTaken (type_or_fault k)
type_or_cut (Some k) = alike k
type_or_cut None = refused fault.Field

version_cut : IsCutOrTaken version_at
version_cut = in_order byte_at _ byte_cut (λ n. keeping _ fault.Version n)

count_cut : IsCutOrTaken count_at
count_cut = in_order place_at _ place_cut (λ n. keeping _ fault.Field n)

name_cut : (before : List (List ℕ)) → IsCutOrTaken (name_at before)
name_cut before = in_order name_length_at _ (in_order byte_at _ byte_cut (λ n. keeping _ fault.Field n)) (λ n. in_order (piece_at n) _ (piece_cut n) (λ name. keeping _ fault.Field name))

type_cut : IsCutOrTaken type_at
type_cut = in_order byte_at _ byte_cut (λ n. type_or_cut (slice_get types n))

ranged_cut : (name : List ℕ) (kind : IlType) (low high start : ℤ) (b : Bool) (e : is_ranged kind low high start ≡ b) → IsCutOrTaken (ranged name kind low high start b e)
ranged_cut name kind low high start true e = alike _
ranged_cut name kind low high start false e = refused fault.Field

var_cut : (before : List (List ℕ)) → IsCutOrTaken (var_at before)
var_cut before =
    in_order (name_at before) _ (name_cut before) (λ name. in_order type_at _ type_cut (λ kind.
    in_order (low_at kind) _ (in_order number_at _ number_cut (λ n. keeping _ fault.Field n)) (λ low.
    in_order (high_at kind low) _ (in_order number_at _ number_cut (λ n. keeping _ fault.Field n)) (λ high.
    in_order number_at _ number_cut (λ start. ranged_cut name kind low high start (is_ranged kind low high start) refl)))))

tag_cut : (before : List (List ℕ)) → IsCutOrTaken (tag_at before)
tag_cut before =
    in_order (name_at before) _ (name_cut before) (λ name.
    in_order direction_at _ (in_order byte_at _ byte_cut (λ n. keeping _ fault.Field n)) (λ n.
    in_order type_at _ type_cut (λ kind. alike _)))

vars_cut : (n : ℕ) (before : List Var) → IsCutOrTaken (vars_at n before)
vars_cut zero before = alike before
vars_cut (suc n) before = in_order (var_at (names_of before [])) _ (var_cut (names_of before [])) (λ v. vars_cut n (before ++ v ∷ []))

tags_cut : (n : ℕ) (vars : List Var) (before : List Tag) → IsCutOrTaken (tags_at n vars before)
tags_cut zero vars before = alike before
tags_cut (suc n) vars before = in_order (tag_at (names_of vars before)) _ (tag_cut (names_of vars before)) (λ t. tags_cut n vars (before ++ t ∷ []))

tables_cut : (version variables tags size : ℕ) → IsCutOrTaken (tables_at version variables tags size)
tables_cut version variables tags size =
    in_order (vars_at variables []) _ (vars_cut variables []) (λ vars. in_order (tags_at tags vars []) _ (tags_cut tags vars []) (λ tags.
    in_order (piece_at size) _ (piece_cut size) (λ code. alike _)))

image_cut : IsCutOrTaken image_at
image_cut =
    in_order (behind_mark mark) _ (mark_cut mark) (λ u. in_order version_at _ version_cut (λ version. in_order count_at _ count_cut (λ variables.
    in_order count_at _ count_cut (λ tags. in_order place_at _ place_cut (λ size. tables_cut version variables tags size)))))

pub prefixes_are_cut : PrefixesAreCut
prefixes_are_cut image before after b proper e =
    elim (image_cut.at before (b ∷ after) (image, []) (ap image_at (e ∙ sym (append-nil (spelled_image image))) ∙ image_reads image [] proper)) [
      | inl cut ↦ ap whole cut
      | inr taken ↦ absurd (never_empty taken.0 taken.2)
    ]
  where
    never_empty : (rest : List ℕ) → [] ≡ rest ++ b ∷ after → ⊥
    never_empty [] h = cc
    never_empty (c ∷ rest) h = cc
