-- Input lines give each tag a reading in its type.
use Rattle.std.proofs.Common.{◌≡◌, ℕ, zero, suc, ◌+◌, Bool, true, false, not, ◌&&◌, ℤ, pos, List, [], ◌∷◌, map, take, drop, Option, Some, None, Result, Ok, Err, refl, sym, ap, ◌∙◌, subst, if◌then◌else◌, slice_get, slice_set, option_map, bytes_eq, codes, nat_eq, arith}
use Rattle.std.proofs.Math.Seq.{drop-nil}
use Rattle.std.specs.Char.{to_ascii_lowercase}
use Rattle.point_types.specs.declared.il_type.IlType.{IlType}
use Rattle.point_types.specs.declared.il_type.IlType.TheVariants as il
use Rattle.point_types.specs.declared.reading.Reading.{Reading}
use Rattle.point_types.specs.declared.reading.Reading.TheVariants as reading
use Rattle.point_types.specs.Name.{is_digit, is_underscore, name_of}
use Rattle.point_types.specs.Value.{low_of, high_of, is_within}
use Rattle.scan_code.specs.declared.image.Tag.{Tag}
use Rattle.il_assemble.specs.Correct.{AreReadings, IsReading}
use Rattle.commands.specs.declared.given.GivenEntry.{GivenEntry}
use Rattle.commands.specs.Input.{before_end, is_blank_line}
use Rattle.commands.specs.Given.{absent, at_place, digits, entry_given, equals_from, grown, held, if_some, input_from, joined_at, line_given, no_slots, number_given, or_refused, reading_given, reading_in, readings_given, readings_in, slots_given, truth_given, value_given}

abbrev Fits : IlType → ℤ → Type 0
Fits k n = is_within (low_of k) (high_of k) n ≡ true

held_fits : (k : IlType) (n m : ℤ) → held k n ≡ Some m → Fits k m
held_fits k n m e = go (is_within (low_of k) (high_of k) n) refl e
  where
    go : (b : Bool) → is_within (low_of k) (high_of k) n ≡ b → (if b then Some n else None) ≡ Some m → Fits k m
    go true f e = let same : n ≡ m = cc in subst (Fits k) same f
    go false f e = absurd (cc)

-- the number after digits lies in its type where the one before it does, or where one must come
digits_fit : (bs : List ℕ) (k : IlType) (negative wanting : Bool) (n m : ℤ) → (wanting ≡ false → Fits k n) → digits k negative wanting n bs ≡ Some m → Fits k m
digits_fit [] k negative true n m h e = absurd (cc)
digits_fit [] k negative false n m h e = let same : n ≡ m = cc in subst (Fits k) same (h refl)
digits_fit (b ∷ bs) k negative wanting n m h e = go (λ w l g f. digits_fit bs k negative w l m g f) (is_digit b) (is_underscore b && not wanting) (held k (grown negative n b)) refl e
  where
    go : ((w : Bool) (l : ℤ) → (w ≡ false → Fits k l) → digits k negative w l bs ≡ Some m → Fits k m) → (c d : Bool) (o : Option ℤ) → held k (grown negative n b) ≡ o
        → (if c then if_some o (λ l. digits k negative false l bs) else if d then digits k negative true n bs else None) ≡ Some m → Fits k m
    go on true d (Some l) f e = on false l (λ _. held_fits k (grown negative n b) l f) e
    go on true d None f e = absurd (cc)
    go on false true o f e = on true n (λ w. absurd (cc)) e
    go on false false o f e = absurd (cc)

number_fits : (k : IlType) (text : List ℕ) (m : ℤ) → number_given k text ≡ Some m → Fits k m
number_fits k [] m e = absurd (cc)
number_fits k (b ∷ bs) m e = go (nat_eq b 43) (nat_eq b 45) e
  where
    go : (c d : Bool) → (if c then digits k false true (pos 0) bs else if d then digits k true true (pos 0) bs else digits k false true (pos 0) (b ∷ bs)) ≡ Some m → Fits k m
    go true d e = digits_fit bs k false true (pos 0) m (λ w. absurd (cc)) e
    go false true e = digits_fit bs k true true (pos 0) m (λ w. absurd (cc)) e
    go false false e = digits_fit (b ∷ bs) k false true (pos 0) m (λ w. absurd (cc)) e

truth_fits : (text : List ℕ) (m : ℤ) → truth_given text ≡ Some m → Fits il.Bool m
truth_fits text m e = go (bytes_eq (map to_ascii_lowercase text) (codes "true")) (bytes_eq (map to_ascii_lowercase text) (codes "false")) e
  where
    go : (c d : Bool) → (if c then Some (pos 1) else if d then Some (pos 0) else None) ≡ Some m → Fits il.Bool m
    go true d e = let same : pos 1 ≡ m = cc in subst (Fits il.Bool) same refl
    go false true e = let same : pos 0 ≡ m = cc in subst (Fits il.Bool) same refl
    go false false e = absurd (cc)

value_fits : (k : IlType) (text : List ℕ) (m : ℤ) → value_given k text ≡ Some m → Fits k m
value_fits il.Bool text m e = truth_fits text m e
value_fits il.Sint text m e = number_fits il.Sint text m e
value_fits il.Int text m e = number_fits il.Int text m e
value_fits il.Dint text m e = number_fits il.Dint text m e
value_fits il.Lint text m e = number_fits il.Lint text m e
value_fits il.Usint text m e = number_fits il.Usint text m e
value_fits il.Uint text m e = number_fits il.Uint text m e
value_fits il.Udint text m e = number_fits il.Udint text m e

reading_is : (t : Tag) (text : List ℕ) (r : Reading) → reading_given t.kind text ≡ Some r → IsReading t r
reading_is t text r e = go (bytes_eq text (codes "absent")) (value_given t.kind text) refl e
  where
    go : (c : Bool) (o : Option ℤ) → value_given t.kind text ≡ o → (if c then Some absent else option_map reading.Value o) ≡ Some r → IsReading t r
    go true o f e = let same : absent ≡ r = cc in subst (IsReading t) same tt
    go false (Some n) f e = let same : reading.Value n ≡ r = cc in subst (IsReading t) same (value_fits t.kind text n f)
    go false None f e = absurd (cc)

-- an entry's reading is one of its tag
abbrev IsEntry : List Tag → GivenEntry → Type 0
IsEntry tags e = (t : Tag) × (slice_get tags e.place ≡ Some t) × IsReading t e.reading

if_some_is : {A B : Type 0} (o : Option A) (f : A → Option B) (b : B) → if_some o f ≡ Some b → (a : A) × (o ≡ Some a) × (f a ≡ Some b)
if_some_is (Some a) f b e = (a, refl, e)
if_some_is None f b e = absurd (cc)

at_place_is : (i : ℕ) (o : Option Reading) (x : GivenEntry) → at_place i o ≡ Some x → (r : Reading) × (o ≡ Some r) × (record { place = i; reading = r } ≡ x)
at_place_is i (Some r) x e = (r, refl, cc)
at_place_is i None x e = absurd (cc)

entry_is : (tags : List Tag) (line : List ℕ) (x : GivenEntry) → entry_given tags line ≡ Some x → IsEntry tags x
entry_is tags line x h = at_sign (if_some_is (equals_from 0 line) _ x h)
  where
    at_tag : (e i : ℕ) (t : Tag) → slice_get tags i ≡ Some t → (r : Reading) × (reading_given t.kind (drop (e + 1) line) ≡ Some r) × (record { place = i; reading = r } ≡ x) → IsEntry tags x
    at_tag e i t g (r, f, w) = subst (IsEntry tags) w (t, g, reading_is t (drop (e + 1) line) r f)

    at_index : (e i : ℕ) → (t : Tag) × (slice_get tags i ≡ Some t) × (at_place i (reading_given t.kind (drop (e + 1) line)) ≡ Some x) → IsEntry tags x
    at_index e i (t, g, w) = at_tag e i t g (at_place_is i (reading_given t.kind (drop (e + 1) line)) x w)

    at_name : (e : ℕ) (n : List ℕ) → (i : ℕ) × (input_from 0 tags n ≡ Some i) × (if_some (slice_get tags i) (λ t. at_place i (reading_given t.kind (drop (e + 1) line))) ≡ Some x) → IsEntry tags x
    at_name e n (i, g, w) = at_index e i (if_some_is (slice_get tags i) _ x w)

    at_sign : (e : ℕ) × (equals_from 0 line ≡ Some e) × (if_some (name_of (take e line)) (λ n. if_some (input_from 0 tags n) (λ i. if_some (slice_get tags i) (λ t. at_place i (reading_given t.kind (drop (e + 1) line))))) ≡ Some x) → IsEntry tags x
    at_sign (e, g, w) = named (if_some_is (name_of (take e line)) _ x w)
      where
        named : (n : List ℕ) × (name_of (take e line) ≡ Some n) × (if_some (input_from 0 tags n) (λ i. if_some (slice_get tags i) (λ t. at_place i (reading_given t.kind (drop (e + 1) line)))) ≡ Some x) → IsEntry tags x
        named (n, f, v) = at_name e n (if_some_is (input_from 0 tags n) _ x v)

-- what is known of each tag is a reading of it
abbrev IsSlot : Tag → Option Reading → Type 0
IsSlot t None = Unit {0}
IsSlot t (Some r) = IsReading t r

abbrev AreSlots : List Tag → List (Option Reading) → Type 0
AreSlots [] [] = Unit {0}
AreSlots [] (s ∷ ss) = ⊥
AreSlots (t ∷ ts) [] = ⊥
AreSlots (t ∷ ts) (s ∷ ss) = IsSlot t s × AreSlots ts ss

no_slots_are : (tags : List Tag) → AreSlots tags (no_slots tags)
no_slots_are [] = tt
no_slots_are (t ∷ ts) = (tt, no_slots_are ts)

set_are : (i : ℕ) (tags : List Tag) (slots : List (Option Reading)) (t : Tag) (r : Reading) → AreSlots tags slots → slice_get tags i ≡ Some t → IsReading t r → AreSlots tags (slice_set slots i (Some r))
set_are i [] [] t r h e w = absurd (cc)
set_are i [] (s ∷ ss) t r h e w = absurd h
set_are i (u ∷ ts) [] t r h e w = absurd h
set_are zero (u ∷ ts) (s ∷ ss) t r (h, hs) e w =
    let same : u ≡ t = cc in
    (subst (λ z. IsReading z r) (sym same) w, hs)
set_are (suc i) (u ∷ ts) (s ∷ ss) t r (h, hs) e w = (h, set_are i ts ss t r hs e w)

joined_are : (tags : List Tag) (slots more : List (Option Reading)) (x : GivenEntry) → AreSlots tags slots → IsEntry tags x → joined_at slots x (slice_get slots x.place) ≡ Some more → AreSlots tags more
joined_are tags slots more x h (t, g, w) e = go (slice_get slots x.place) e
  where
    go : (o : Option (Option Reading)) → joined_at slots x o ≡ Some more → AreSlots tags more
    go (Some None) e = let same : slice_set slots x.place (Some x.reading) ≡ more = cc in subst (AreSlots tags) same (set_are x.place tags slots t x.reading h g w)
    go (Some (Some r)) e = absurd (cc)
    go None e = absurd (cc)

line_are : (tags : List Tag) (slots more : List (Option Reading)) (line : List ℕ) → AreSlots tags slots → line_given tags slots line ≡ Some more → AreSlots tags more
line_are tags slots more line h e = go (if_some_is (entry_given tags line) _ more e)
  where
    go : (x : GivenEntry) × (entry_given tags line ≡ Some x) × (joined_at slots x (slice_get slots x.place) ≡ Some more) → AreSlots tags more
    go (x, g, w) = joined_are tags slots more x h (entry_is tags line x g) w

slots_are : (lines : List (List ℕ)) (tags : List Tag) (slots more : List (Option Reading)) (k : ℕ) → AreSlots tags slots → slots_given tags slots k lines ≡ Ok more → AreSlots tags more
slots_are [] tags slots more k h e = let same : slots ≡ more = cc in subst (AreSlots tags) same h
slots_are (line ∷ lines) tags slots more k h e = go (λ ss j g w. slots_are lines tags ss more j g w) (is_blank_line line) (line_given tags slots (before_end line)) refl e
  where
    go : ((ss : List (Option Reading)) (j : ℕ) → AreSlots tags ss → slots_given tags ss j lines ≡ Ok more → AreSlots tags more) → (b : Bool) (o : Option (List (Option Reading))) → line_given tags slots (before_end line) ≡ o
        → (if b then slots_given tags slots k lines else or_refused k o (λ ss. slots_given tags ss (k + 1) lines)) ≡ Ok more → AreSlots tags more
    go on true o f e = on slots k h e
    go on false (Some ss) f e = on ss (k + 1) (line_are tags slots ss (before_end line) h f) e
    go on false None f e = absurd (cc)

readings_in_are : (tags : List Tag) (slots : List (Option Reading)) → AreSlots tags slots → AreReadings tags (map reading_in slots)
readings_in_are [] [] h = tt
readings_in_are [] (s ∷ ss) h = absurd h
readings_in_are (t ∷ ts) [] h = absurd h
readings_in_are (t ∷ ts) (None ∷ ss) (h, hs) = (tt, readings_in_are ts ss hs)
readings_in_are (t ∷ ts) (Some r ∷ ss) (h, hs) = (h, readings_in_are ts ss hs)

pub readings_are : (tags : List Tag) (lines : List (List ℕ)) (readings : List Reading) → readings_given tags lines ≡ Ok readings → AreReadings tags readings
readings_are tags lines readings e = go (slots_given tags (no_slots tags) 1 lines) refl e
  where
    go : (x : Result (List (Option Reading)) ℕ) → slots_given tags (no_slots tags) 1 lines ≡ x → readings_in x ≡ Ok readings → AreReadings tags readings
    go (Ok slots) f e =
        let same : map reading_in slots ≡ readings = cc in
        subst (AreReadings tags) same (readings_in_are tags slots (slots_are lines tags (no_slots tags) slots 1 (no_slots_are tags) f))
    go (Err k) f e = absurd (cc)

-- the entry of a line, step by step
pub entry_steps : (tags : List Tag) (line value : List ℕ) (e i : ℕ) (n : List ℕ) (t : Tag) (o : Option Reading) → equals_from 0 line ≡ Some e → name_of (take e line) ≡ Some n → input_from 0 tags n ≡ Some i → slice_get tags i ≡ Some t
    → value ≡ drop (e + 1) line → reading_given t.kind value ≡ o → entry_given tags line ≡ at_place i o
entry_steps tags line value e i n t o a b c d v f =
    ap (λ z. if_some z (λ e. if_some (name_of (take e line)) (λ n. if_some (input_from 0 tags n) (λ i. if_some (slice_get tags i) (λ t. at_place i (reading_given t.kind (drop (e + 1) line))))))) a
    ∙ ap (λ z. if_some z (λ n. if_some (input_from 0 tags n) (λ i. if_some (slice_get tags i) (λ t. at_place i (reading_given t.kind (drop (e + 1) line)))))) b
    ∙ ap (λ z. if_some z (λ i. if_some (slice_get tags i) (λ t. at_place i (reading_given t.kind (drop (e + 1) line))))) c
    ∙ ap (λ z. if_some z (λ t. at_place i (reading_given t.kind (drop (e + 1) line)))) d
    ∙ ap (λ z. at_place i (reading_given t.kind z)) (sym v)
    ∙ ap (at_place i) f

pub behind_sign : (e : ℕ) (line : List ℕ) → drop 1 (drop e line) ≡ drop (e + 1) line
behind_sign zero line = refl
behind_sign (suc e) [] = sym (drop-nil (suc e + 1))
behind_sign (suc e) (b ∷ bs) = behind_sign e bs ∙ ap (λ n. drop n (b ∷ bs)) (more e)
  where
    more : (e : ℕ) → suc (e + 1) ≡ suc e + 1
    more e = omega arith
