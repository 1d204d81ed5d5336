-- The registers of a device and what they belong to are as many.
use Rattle.std.proofs.Common.{◌≡◌, ℕ, zero, suc, ◌+◌, ◌-◌, ◌<◌, Bool, List, [], ◌∷◌, ◌++◌, length, refl, sym, ap, ◌∙◌, arith, append_assoc, length-append}
use Rattle.std.proofs.lemmas.List.{append-nil, length-set}
use Rattle.std.specs.List.{flat_map}
use Rattle.model_defs.specs.declared.model.ModelDef.{ModelDef}
use Rattle.model_defs.specs.declared.point.Point.{Point}
use Rattle.inverter_sim.specs.declared.place.RegisterPlace.{RegisterPlace}
use Rattle.std.specs.Prelude.{ℤ, pos, Option, Some, None, ◌^◌, true, if◌then◌else◌, unsigned_abs}
use Rattle.std.specs.Int.{int_rem_euclid}
use Rattle.inverter_sim.specs.File.{is_spelled, spelled, wrapped}
use Rattle.inverter_sim.specs.Image.{split, first, behind, padded, unimplemented, blank_words, stored, with_model, with_models, mark, end_model, image_of, places_from, places_of_point, places_of_model, places_of, fixed_pair}

length_padded : (n : ℕ) (words : List ℕ) → length (padded n words) ≡ n
length_padded zero words = refl
length_padded (suc n) words = ap suc (length_padded n (behind words))

pub padded_next : (n : ℕ) (words : List ℕ) → 0 < n → padded n words ≡ first words ∷ padded (n - 1) (behind words)
padded_next zero words some = absurd (omega arith)
padded_next (suc n) words some = let e : n ≡ suc n - 1 = omega arith in ap (λ k. first words ∷ padded k (behind words)) e

length_places : (writable : Bool) (before n : ℕ) → length (places_from writable before n) ≡ n
length_places writable before zero = refl
length_places writable before (suc n) = ap suc (length_places writable (before + 1) n)

pub places_next : (writable : Bool) (before n : ℕ) → 0 < n → places_from writable before n ≡ record { writable = writable; before = before; behind = n - 1 } ∷ places_from writable (before + 1) (n - 1)
places_next writable before zero some = absurd (omega arith)
places_next writable before (suc n) some = let e : n ≡ suc n - 1 = omega arith in ap (λ k. record { writable = writable; before = before; behind = k } ∷ places_from writable (before + 1) k) e

pub length_stored : (at : ℕ) (words registers : List ℕ) → length (stored at words registers) ≡ length registers
length_stored at [] registers = refl
length_stored at (w ∷ words) registers = length_stored (at + 1) words _ ∙ length-set registers at w

points_match : (ps : List Point) → length (flat_map blank_words ps) ≡ length (flat_map places_of_point ps)
points_match [] = refl
points_match (p ∷ ps) =
    let words = padded p.size (unimplemented p.kind) in let places = places_from p.writable 0 p.size in
    omega (arith, length-append words (flat_map blank_words ps), length-append places (flat_map places_of_point ps), length_padded p.size (unimplemented p.kind), length_places p.writable 0 p.size, points_match ps)

model_matches : (registers : List ℕ) (places : List RegisterPlace) (m : ModelDef) → length registers ≡ length places → length (with_model registers m) ≡ length (places ++ places_of_model m)
model_matches registers places m same =
    length_stored (length registers) (m.id ∷ m.length ∷ []) (registers ++ flat_map blank_words m.points)
    ∙ omega (arith, length-append registers (flat_map blank_words m.points), length-append places (flat_map places_of_point m.points), points_match m.points, same)

models_match : (registers : List ℕ) (places : List RegisterPlace) (ms : List ModelDef) → length registers ≡ length places → length (with_models registers ms) ≡ length (places ++ flat_map places_of_model ms)
models_match registers places [] same = same ∙ ap length (sym (append-nil places))
models_match registers places (m ∷ ms) same =
    models_match (with_model registers m) (places ++ places_of_model m) ms (model_matches registers places m same)
    ∙ ap length (append_assoc places (places_of_model m) (flat_map places_of_model ms))

pub images_match : (ms : List ModelDef) → length (places_of ms) ≡ length (image_of ms)
images_match ms =
    omega (arith, models_match mark fixed_pair ms refl, length-append (with_models mark ms) end_model, length-append (fixed_pair ++ flat_map places_of_model ms) fixed_pair)

-- the words of a number that the registers can stand for
pub spelled_as : (signed : Bool) (size : ℕ) (raw : ℤ) (n : ℕ) → is_spelled signed (pos (65536 ^ size)) raw ≡ true → int_rem_euclid raw (pos (65536 ^ size)) ≡ pos n
    → Some (split size n) ≡ spelled signed size raw
spelled_as signed size raw n good same =
    let by : Bool → Option (List ℕ) = λ b. if b then Some (split size (wrapped (65536 ^ size) raw)) else None in
    ap (λ z. Some (split size (unsigned_abs z))) (sym same) ∙ ap by (sym good)
