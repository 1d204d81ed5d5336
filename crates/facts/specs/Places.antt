-- inner: lists of which most places are empty, by those that aren't.
-- IEC 61131-3 edition 2, 2.4.3 (variables); how lists are kept is this project's.
use Rattle.std.specs.Prelude.{ℕ, suc, ◌≡◌, Bool, true, false, List, [], ◌∷◌, ◌++◌, replicate, Option, Some, None, slice_set}

-- each kept item after so many empty places, and then those at the end
abbrev pub places : {A : Type 0} → List (ℕ × A) → ℕ → List (Option A)
places [] at_end = replicate at_end None
places (k ∷ ks) at_end = replicate k.0 None ++ Some k.1 ∷ places ks at_end

abbrev pub empty_before : {A : Type 0} → List (ℕ × A) → ℕ → ℕ
empty_before [] at_end = at_end
empty_before (k ∷ ks) at_end = k.0

-- from the first kept item on
abbrev pub from_kept : {A : Type 0} → List (ℕ × A) → ℕ → List (Option A)
from_kept [] at_end = []
from_kept (k ∷ ks) at_end = Some k.1 ∷ places ks at_end

abbrev pub is_filled : {A : Type 0} → Option A → Bool
is_filled None = false
is_filled (Some x) = true

-- the first of two places that isn't empty
abbrev pub either_place : {A : Type 0} → Option A → Option A → Option A
either_place None other = other
either_place (Some x) other = Some x

-- the second of two places, where the first one isn't empty
abbrev pub both_places : {A : Type 0} → Option A → Option A → Option A
both_places None other = None
both_places (Some x) other = other

-- how many aren't empty
abbrev pub filled : {A : Type 0} → List (Option A) → ℕ
filled [] = 0
filled (None ∷ ks) = filled ks
filled (Some x ∷ ks) = suc (filled ks)

-- where so many of the empty places before it are left
abbrev pub places_left : {A : Type 0} → ℕ → List (ℕ × A) → ℕ → List (Option A)
places_left left ks at_end = replicate left None ++ from_kept ks at_end

-- the first of a list is taken off, if there is one
abbrev pub IsNext : {A : Type 0} → List A → List A → Option A → Type 0
IsNext before after None = (before ≡ []) × (after ≡ [])
IsNext before after (Some first) = before ≡ first ∷ after

-- inner: with another element after so many, or none any more
abbrev pub written : {A : Type 0} → Option ℕ → List A → A → List A
written None xs x = xs
written (Some n) xs x = slice_set xs n x
