-- What the keys of an entry gave, where all of them are there; and the steps of a reader that ended well.
use Rattle.std.proofs.Common.{◌≡◌, ℕ, ℤ, pos, negsuc, Bool, true, false, List, [], ◌∷◌, position, if◌then◌else◌, nat_le, Option, Some, None, option_map, option_and_then, Result, Ok, Err, slice_get, get_or, refl, ap, ◌∙◌}
use Rattle.std.proofs.lemmas.List.Quantifiers.{position-Some}
use Rattle.std.proofs.lemmas.Option.{cond_some, slice_get-get_or}
use Rattle.std.specs.Option.{ok_or, option_map_or}
use Rattle.toml.specs.Data.{Data, as_integer, as_str}
use Rattle.point_types.specs.Value.{◌>>=◌}
use Rattle.file_keys.specs.Keys.{natural_within}

-- ---- steps

pub by_both : {A B E R : Type 0} (r : Result A E) (k : A → Result B E) (b : B) → (r >>= k) ≡ Ok b → ((a : A) → r ≡ Ok a → k a ≡ Ok b → R) → R
by_both (Ok a) k b e go = go a refl e
by_both (Err x) k b e go = absurd (cc)

pub ok_is : {A E : Type 0} (a b : A) → ◌≡◌ {A = Result A E} (Ok a) (Ok b) → a ≡ b
ok_is a b e = cc

pub some_is : {A : Type 0} (a b : A) → Some a ≡ Some b → a ≡ b
some_is a b e = cc

pub given : {A E : Type 0} (o : Option A) (e : E) (a : A) → ok_or o e ≡ Ok a → o ≡ Some a
given None e a h = absurd (cc)
given (Some x) e a h = ap Some (ok_is x a h)

-- a test that was passed, by being true or by being false
pub chosen : {A E : Type 0} (b : Bool) (r : Result A E) (e : E) (a : A) → (if b then r else Err e) ≡ Ok a → (b ≡ true) × (r ≡ Ok a)
chosen true r e a h = (refl, h)
chosen false r e a h = absurd (cc)

pub spared : {A E : Type 0} (b : Bool) (r : Result A E) (e : E) (a : A) → (if b then Err e else r) ≡ Ok a → r ≡ Ok a
spared true r e a h = absurd (cc)
spared false r e a h = h

pub unsaid : {A E : Type 0} (b : Bool) (r : Result A E) (e : E) (a : A) → (if b then Err e else r) ≡ Ok a → b ≡ false
unsaid true r e a h = absurd (cc)
unsaid false r e a h = refl

-- the first that passes a test is there, and passes it
pub stands_at : {T : Type 0} (p : T → Bool) (xs : List T) (i : ℕ) → position p xs ≡ Some i → (x : T) × (slice_get xs i ≡ Some x) × (p x ≡ true)
stands_at p [] i h = absurd (cc)
stands_at p (x ∷ xs) i h =
    let s = position-Some p (x ∷ xs) i x h in
    (get_or (x ∷ xs) i x, slice_get-get_or (x ∷ xs) i x s.0, s.1)

-- ---- numbers

pub natural_is : (most : ℕ) (z : ℤ) (n : ℕ) → natural_within most z ≡ Some n → z ≡ pos n
natural_is most (pos m) n e = ap pos (cond_some (nat_le m most) m n e).1
natural_is most (negsuc m) n e = absurd (cc)

-- a number that may be missing
pub optional_is : (most : ℕ) (z : ℤ) (o : Option ℕ) → option_map Some (natural_within most z) ≡ Some o → Some z ≡ option_map pos o
optional_is most z o e = by_number (natural_within most z) refl e
  where
    by_number : (n : Option ℕ) → natural_within most z ≡ n → option_map Some n ≡ Some o → Some z ≡ option_map pos o
    by_number None p f = absurd (cc)
    by_number (Some n) p f = ap Some (natural_is most z n p) ∙ ap (option_map pos) (some_is (Some n) o f)

-- the number at a key that may be missing, or the usual one
pub usual_is : (d : Option Data) (usual : ℤ) (o : Option ℤ) → option_map_or (λ d. option_map Some (as_integer d)) d (Some None) ≡ Some o
    → option_map_or as_integer d (Some usual) ≡ Some (option_map_or (λ n. n) o usual)
usual_is None usual o e = ap (λ x. Some (option_map_or (λ n. n) x usual)) (some_is None o e)
usual_is (Some d) usual o e = by_number (as_integer d) e
  where
    by_number : (n : Option ℤ) → option_map Some n ≡ Some o → n ≡ Some (option_map_or (λ n. n) o usual)
    by_number None f = absurd (cc)
    by_number (Some n) f = ap (λ x. Some (option_map_or (λ n. n) x usual)) (some_is (Some n) o f)

-- ---- texts

-- the text at a key that may be missing: where it was there, and where it wasn't
pub text_there : (o : Option Data) (s : List ℕ) → option_map_or (λ d. option_map Some (as_str d)) o (Some None) ≡ Some (Some s) → option_and_then as_str o ≡ Some s
text_there None s e = absurd (cc)
text_there (Some d) s e = by_text (as_str d) e
  where
    by_text : (t : Option (List ℕ)) → option_map Some t ≡ Some (Some s) → t ≡ Some s
    by_text None f = absurd (cc)
    by_text (Some x) f = some_is (Some x) (Some s) f

pub text_missing : (o : Option Data) → option_map_or (λ d. option_map Some (as_str d)) o (Some None) ≡ Some None → option_and_then as_str o ≡ None
text_missing None e = refl
text_missing (Some d) e = by_text (as_str d) e
  where
    by_text : (t : Option (List ℕ)) → option_map Some t ≡ Some None → t ≡ None
    by_text None f = refl
    by_text (Some x) f = absurd (cc)
