-- A table of places grows by one name.
use Rattle.std.proofs.Common.{◌≡◌, ℕ, ◌+◌, Bool, true, false, cond, if◌then◌else◌, List, [], ◌∷◌, drop, Option, None, Some, is_some, option_copied, length, ◌<◌, get_or, drop-cons, add-one, refl, sym, ap, ◌∙◌, subst, true≢false, Bor}
use Rattle.std.specs.Prelude.{position}
use Rattle.std.specs.List.{position_from}
use Rattle.std.specs.Bool.{one_answer}
use Rattle.std.proofs.lemmas.Iterator.Adapters.{position_from-zero}
use Rattle.std.proofs.lemmas.Slice.Eq.{bytes_eq-Decides}
use Rattle.std.specs.Map.{lookup}
use Rattle.std.specs.Str.{bytes_eq}
use Rattle.indexmap.specs.IndexMap.{insert_entry}
use Rattle.name_places.specs.Places.{Entries, IsPlaced, Notes, or_else, place_in}

-- a new name's place stands after the others
pub inserted : (other : List ℕ) (es : Entries) (k : Bor (List ℕ)) (n : ℕ) → lookup (λ q. bytes_eq k.now q.now) es ≡ None
    → lookup (λ q. bytes_eq other q.now) (insert_entry (λ a b. bytes_eq a.now b.now) es k n) ≡ or_else (lookup (λ q. bytes_eq other q.now) es) (if bytes_eq other k.now then Some n else None)
inserted other [] k n e = go (bytes_eq other k.now)
  where
    go : (b : Bool) → cond b (Some n) None ≡ (if b then Some n else None)
    go true = refl
    go false = refl
inserted other (x ∷ es) k n e = go (bytes_eq k.now x.0.now) refl (inserted other es k n) e
  where
    past : (b : Bool) → lookup (λ q. bytes_eq other q.now) (insert_entry (λ a b. bytes_eq a.now b.now) es k n) ≡ or_else (lookup (λ q. bytes_eq other q.now) es) (if bytes_eq other k.now then Some n else None)
        → cond b (Some x.1) (lookup (λ q. bytes_eq other q.now) (insert_entry (λ a b. bytes_eq a.now b.now) es k n)) ≡ or_else (cond b (Some x.1) (lookup (λ q. bytes_eq other q.now) es)) (if bytes_eq other k.now then Some n else None)
    past true h = refl
    past false h = h

    go : (b : Bool) → bytes_eq k.now x.0.now ≡ b
        → (lookup (λ q. bytes_eq k.now q.now) es ≡ None → lookup (λ q. bytes_eq other q.now) (insert_entry (λ a b. bytes_eq a.now b.now) es k n) ≡ or_else (lookup (λ q. bytes_eq other q.now) es) (if bytes_eq other k.now then Some n else None))
        → cond b (Some x.1) (lookup (λ q. bytes_eq k.now q.now) es) ≡ None
        → lookup (λ q. bytes_eq other q.now) (if b then (x.0, n) ∷ es else x ∷ insert_entry (λ a b. bytes_eq a.now b.now) es k n) ≡ or_else (lookup (λ q. bytes_eq other q.now) (x ∷ es)) (if bytes_eq other k.now then Some n else None)
    go true s h e = absurd (cc)
    go false s h e = past (bytes_eq other x.0.now) (h e)

-- names are compared either way round
pub either_way : (a b : List ℕ) → bytes_eq a b ≡ bytes_eq b a
either_way a b = let back = bytes_eq-Decides b a in one_answer (bytes_eq a b) (bytes_eq b a) (bytes_eq-Decides a b) (λ e. sym (back.0 e), λ e. back.1 (sym e))

none_of : (o : Option ℕ) → is_some o ≡ false → o ≡ None
none_of None e = refl
none_of (Some n) e = absurd (true≢false e)

copied_some : (r : Option (Bor ℕ)) → is_some (option_copied r) ≡ is_some r
copied_some None = refl
copied_some (Some n) = refl

-- what was looked up was there, or not
pub seen : (r : Option (Bor ℕ)) (o : Option ℕ) (b : Bool) → option_copied r ≡ o → is_some r ≡ b → is_some o ≡ b
seen r o b e f = sym (ap is_some e) ∙ copied_some r ∙ f

pub noted : (es : Entries) (k : Bor (List ℕ)) (n : ℕ) → is_some (lookup (λ q. bytes_eq k.now q.now) es) ≡ false → Notes es k.now n (insert_entry (λ a b. bytes_eq a.now b.now) es k n)
noted es k n absent other = inserted other es k n (none_of _ absent)

-- a name that is there already keeps its place
pub kept : (es : Entries) (name : List ℕ) (n : ℕ) → is_some (place_in es name) ≡ true → Notes es name n es
kept es name n there other = go (bytes_eq other name) refl (place_in es other) refl
  where
    go : (b : Bool) → bytes_eq other name ≡ b → (o : Option ℕ) → place_in es other ≡ o → o ≡ or_else o (if b then Some n else None)
    go b e (Some m) f = refl
    go false e None f = refl
    go true e None f =
        let same : place_in es name ≡ None = subst (λ (w : List ℕ). place_in es w ≡ None) ((bytes_eq-Decides other name).0 e) f in
        absurd (true≢false (sym there ∙ ap is_some same))

-- the places so far, and those of the items that remain
abbrev pub Counted : {A : Type 0} → (List ℕ → A → Bool) → List A → ℕ → Entries → Type 0
Counted is items i es = (name : List ℕ) → or_else (place_in es name) (position_from (is name) i (drop i items)) ≡ position (is name) items

module _ {A : Type 0} (is : List ℕ → A → Bool) (items : List A) where
  pub at_first : (es : Entries) → es ≡ [] → Counted is items 0 es
  at_first es none = subst (λ (l : Entries). Counted is items 0 l) (sym none) (λ name. sym (position_from-zero (is name) items))

  next : (i : ℕ) (x : A) → i < length items → x ≡ get_or items i x → drop i items ≡ x ∷ drop (i + 1) items
  next i x within at = rw (drop-cons items i x, add-one) (rw (← at) refl)

  -- one item more, that has a name
  pub one_more : (i : ℕ) (x : A) (old new : Entries) (name : List ℕ) → i < length items → x ≡ get_or items i x → ((other : List ℕ) → is other x ≡ bytes_eq other name)
      → Notes old name i new → Counted is items i old → Counted is items (i + 1) new
  one_more i x old new name within at called notes counted other =
      ap (λ o. or_else o rest) (notes other) ∙ joined (place_in old other) (bytes_eq other name) ∙ ap (λ b. or_else (place_in old other) (cond b (Some i) rest)) (sym (called other))
      ∙ ap (λ l. or_else (place_in old other) (position_from (is other) i l)) (sym (next i x within at)) ∙ counted other
    where
      rest : Option ℕ
      rest = position_from (is other) (i + 1) (drop (i + 1) items)

      joined : (o : Option ℕ) (b : Bool) → or_else (or_else o (if b then Some i else None)) rest ≡ or_else o (cond b (Some i) rest)
      joined (Some m) b = refl
      joined None true = refl
      joined None false = refl

  -- one item more, that has none
  pub one_without : (i : ℕ) (x : A) (es : Entries) → i < length items → x ≡ get_or items i x → ((other : List ℕ) → is other x ≡ false)
      → Counted is items i es → Counted is items (i + 1) es
  one_without i x es within at nameless counted other =
      ap (λ b. or_else (place_in es other) (cond b (Some i) (position_from (is other) (i + 1) (drop (i + 1) items)))) (sym (nameless other))
      ∙ ap (λ l. or_else (place_in es other) (position_from (is other) i l)) (sym (next i x within at)) ∙ counted other

  -- all of them
  pub at_last : (es : Entries) (i : ℕ) → drop i items ≡ [] → Counted is items i es → IsPlaced is items es
  at_last es i over counted name = alone (place_in es name) ∙ ap (λ l. or_else (place_in es name) (position_from (is name) i l)) (sym over) ∙ counted name
    where
      alone : (o : Option ℕ) → o ≡ or_else o None
      alone None = refl
      alone (Some m) = refl
