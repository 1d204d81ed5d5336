-- One pass finds the one family: what it leaves at the later instructions is what flows there.
use Rattle.std.proofs.Common.{◌≡◌, ◌⊎◌, inl, inr, ℕ, zero, suc, ◌+◌, ◌-◌, ◌<◌, ◌≤◌, List, [], ◌∷◌, ◌++◌, length, map, Result, Ok, Err, Option, Some, None, slice_get, slice_set, option_map, Bool, false, nat_eq, refl, sym, ap, subst, ◌∙◌, arith, if◌then◌else◌, length-append}
use Rattle.facts.specs.declared.refusal.Refusal.{Refusal}
use Rattle.facts.specs.declared.refusal.RefusedAt.TheVariants as spot
use Rattle.facts.specs.declared.refusal.RefusalKind.{RefusalKind}
use Rattle.facts.specs.declared.fact.Fact.{Fact}
use Rattle.facts.specs.Flow.{Context, Way, Flow}
use Rattle.facts.specs.Slots.{Slot, Unreached, meets, arriving, flow_of, ways_of, gathered, slots, is_reached}
use Rattle.verifier.specs.Budget.{reached}
use Rattle.verifier.specs.Gathered.{AreGathered, IsRefusedAt, slot_before}
use Rattle.facts.specs.Word.{out_of_memory}
use Rattle.verifier.specs.Verdict.{first_refusal, refusal_of}
use Rattle.verifier.specs.declared.arrived.Arrived.{Arrived}
use Rattle.verifier.specs.Passing.{opening, delivered, all_delivered, passed, passed_by, stood, all_stood}
use Rattle.facts.proofs.Lists.{get_set_other}
use Rattle.verifier.proofs.Listings.{head_is}
use Rattle.std.proofs.lemmas.List.{length-map}
use Rattle.verifier.proofs.Images.{ok_is}

-- what was delivered, at one instruction
kept : {A : Type 0} (o : Option A) → option_map (λ a. a) o ≡ o
kept None = refl
kept (Some a) = refl

delivered_at : (n : ℕ) (f : Fact) (ss : List Slot) (m : ℕ) → slice_get (delivered n f ss) m ≡ option_map (λ s. if nat_eq n m then meets s f else s) (slice_get ss m)
delivered_at n f [] m = refl
delivered_at zero f (s ∷ ss) zero = refl
delivered_at zero f (s ∷ ss) (suc m) =
    let e : nat_eq 0 (suc m) ≡ false = grind arith in
    sym (kept (slice_get ss m)) ∙ ap (λ (b : Bool). option_map (λ t. if b then meets t f else t) (slice_get ss m)) (sym e)
delivered_at (suc n) f (s ∷ ss) zero =
    let e : nat_eq (suc n) 0 ≡ false = grind arith in
    ap (λ (b : Bool). Some (if b then meets s f else s)) (sym e)
delivered_at (suc n) f (s ∷ ss) (suc m) =
    let e : nat_eq (suc n) (suc m) ≡ nat_eq n m = grind arith in
    delivered_at n f ss m ∙ ap (λ (b : Bool). option_map (λ t. if b then meets t f else t) (slice_get ss m)) (sym e)

option_twice : {A B C : Type 0} (f : A → B) (g : B → C) (o : Option A) → option_map g (option_map f o) ≡ option_map (λ a. g (f a)) o
option_twice f g None = refl
option_twice f g (Some a) = refl

pub all_delivered_at : (ways : List Way) (ss : List Slot) (m : ℕ) → slice_get (all_delivered ways ss) m ≡ option_map (arriving m ways) (slice_get ss m)
all_delivered_at [] ss m = sym (kept (slice_get ss m))
all_delivered_at (way ∷ ways) ss m =
    all_delivered_at ways (delivered way.0 way.1 ss) m
    ∙ ap (option_map (arriving m ways)) (delivered_at way.0 way.1 ss m)
    ∙ option_twice (λ s. if nat_eq way.0 m then meets s way.1 else s) (arriving m ways) (slice_get ss m)

pub delivered_past : (n : ℕ) (f : Fact) (ss : List Slot) → length ss ≤ n → delivered n f ss ≡ ss
delivered_past n f [] h = refl
delivered_past zero f (s ∷ ss) h = absurd (omega arith)
delivered_past (suc n) f (s ∷ ss) h = ap (λ (rest : List Slot). s ∷ rest) (delivered_past n f ss (omega arith))

-- what was taken is put back, with one more fact
pub delivered_there : (n : ℕ) (f : Fact) (ss : List Slot) (s : Slot) → slice_get ss n ≡ Some s → slice_set (slice_set ss n Unreached) n (meets s f) ≡ delivered n f ss
delivered_there n f [] s e = refl
delivered_there zero f (x ∷ ss) s e = ap (λ (y : Slot). meets y f ∷ ss) (sym (head_is x s e))
delivered_there (suc n) f (x ∷ ss) s e = ap (λ (rest : List Slot). x ∷ rest) (delivered_there n f ss s e)

pub stood_set : {F : Type 0} (stands : F → Fact) (pending : List (Arrived F)) (n : ℕ) (a : Arrived F) → all_stood stands (slice_set pending n a) ≡ slice_set (all_stood stands pending) n (stood stands a)
stood_set stands [] n a = refl
stood_set stands (p ∷ pending) zero a = refl
stood_set stands (p ∷ pending) (suc n) a = ap (λ (rest : List Slot). stood stands p ∷ rest) (stood_set stands pending n a)

pub stood_get : {F : Type 0} (stands : F → Fact) (pending : List (Arrived F)) (n : ℕ) (a : Arrived F) → slice_get pending n ≡ Some a → slice_get (all_stood stands pending) n ≡ Some (stood stands a)
stood_get stands [] n a e = absurd (cc)
stood_get {F = F} stands (p ∷ pending) zero a e = ap (λ (x : Arrived F). Some (stood stands x)) (head_is p a e)
stood_get stands (p ∷ pending) (suc n) a e = stood_get stands pending n a e

pub stood_long : {F : Type 0} (stands : F → Fact) (pending : List (Arrived F)) → length (all_stood stands pending) ≡ length pending
stood_long stands [] = refl
stood_long stands (p ∷ pending) = ap suc (stood_long stands pending)

-- each slot that is pending is at its opening
abbrev pub AreOpen : Context → List Slot → Type 0
AreOpen c ss = (n : ℕ) (s : Slot) → slice_get ss n ≡ Some s → s ≡ opening c n

pub one_open : {F : Type 0} (stands : F → Fact) (c : Context) (pending : List (Arrived F)) (a : Arrived F) → AreOpen c (all_stood stands pending) → stood stands a ≡ opening c (length pending) → AreOpen c (all_stood stands (pending ++ a ∷ []))
one_open {F = F} stands c pending a h e n s p =
    let first : 0 + n ≡ n = omega arith in
    let last : length pending ≡ 0 + length pending = omega arith in
    subst (λ (m : ℕ). s ≡ opening c m) first (go 0 pending
    (λ m t q. let here : m ≡ 0 + m = omega arith in subst (λ (i : ℕ). t ≡ opening c i) here (h m t q))
    (subst (λ (i : ℕ). stood stands a ≡ opening c i) last e) n s p)
  where
    go : (k : ℕ) (ps : List (Arrived F)) → ((n : ℕ) (s : Slot) → slice_get (all_stood stands ps) n ≡ Some s → s ≡ opening c (k + n)) → stood stands a ≡ opening c (k + length ps) → (n : ℕ) (s : Slot) → slice_get (all_stood stands (ps ++ a ∷ [])) n ≡ Some s → s ≡ opening c (k + n)
    go k [] h e zero s p = sym (head_is (stood stands a) s p) ∙ e
    go k [] h e (suc n) s p = absurd (cc)
    go k (x ∷ ps) h e zero s p = h 0 s p
    go k (x ∷ ps) h e (suc n) s p =
        let same : k + 1 + n ≡ k + suc n = omega arith in
        let long : k + suc (length ps) ≡ k + 1 + length ps = omega arith in
        subst (λ (m : ℕ). s ≡ opening c m) same (go (k + 1) ps
        (λ m t q. let j : k + suc m ≡ k + 1 + m = omega arith in subst (λ (i : ℕ). t ≡ opening c i) j (h (suc m) t q))
        (subst (λ (i : ℕ). stood stands a ≡ opening c i) long e) n s p)

abbrev or_else : Option Refusal → Option Refusal → Option Refusal
or_else None o = o
or_else (Some r) o = Some r

mapped_more : {A B : Type 0} (f : A → B) (xs : List A) (y : A) → map f (xs ++ y ∷ []) ≡ map f xs ++ f y ∷ []
mapped_more f [] y = refl
mapped_more f (x ∷ xs) y = ap (λ ys. f x ∷ ys) (mapped_more f xs y)

module _ (c : Context) where
  abbrev pub slot_of : ℕ → Slot
  slot_of n = slot_before c n

  pub slots_long : (n : ℕ) → length (slots c n) ≡ n
  slots_long zero = refl
  slots_long (suc n) = omega (arith, length-append (slots c n) (slot_of n ∷ []), slots_long n)

  -- one instruction more
  gathered_more : (m at : ℕ) (ss : List Slot) (s slot : Slot) → gathered c m at (ss ++ s ∷ []) slot ≡ arriving m (ways_of (flow_of c (at + length ss) s (slice_get c.listing (at + length ss)))) (gathered c m at ss slot)
  gathered_more m at [] s slot = let e : at + 0 ≡ at = omega arith in rw e refl
  gathered_more m at (x ∷ ss) s slot =
      let e : at + 1 + length ss ≡ at + suc (length ss) = omega arith in
      let h = gathered_more m (at + 1) ss s (arriving m (ways_of (flow_of c at x (slice_get c.listing at))) slot) in
      subst (λ (k : ℕ). gathered c m (at + 1) (ss ++ s ∷ []) (arriving m (ways_of (flow_of c at x (slice_get c.listing at))) slot) ≡ arriving m (ways_of (flow_of c k s (slice_get c.listing k))) (gathered c m (at + 1) ss (arriving m (ways_of (flow_of c at x (slice_get c.listing at))) slot))) e h

  -- from what is before instruction n
  abbrev pub gathered_to : ℕ → ℕ → Slot
  gathered_to n m = gathered c m 0 (slots c n) (opening c m)

  gathered_next : (n m : ℕ) → gathered_to (suc n) m ≡ arriving m (ways_of (flow_of c n (slot_of n) (slice_get c.listing n))) (gathered_to n m)
  gathered_next n m =
      let e : 0 + length (slots c n) ≡ n = omega (arith, slots_long n) in
      subst (λ (k : ℕ). gathered c m 0 (slots c n ++ slot_of n ∷ []) (opening c m) ≡ arriving m (ways_of (flow_of c k (slot_of n) (slice_get c.listing k))) (gathered_to n m)) e (gathered_more m 0 (slots c n) (slot_of n) (opening c m))

  -- what is pending, at instruction n and after it
  abbrev pub ArePending : ℕ → List Slot → Type 0
  ArePending n ss = AreGathered c n n ss

  -- and after it alone, once that is taken
  pub pending_left : (n : ℕ) (ss : List Slot) → ArePending n ss → AreGathered c n (suc n) (slice_set ss n Unreached)
  pending_left n ss h m s k e = h m s (omega arith) (sym (get_set_other ss n m Unreached (λ p. omega arith)) ∙ e)

  pub pending_next : (n : ℕ) (ways : List Way) (ss : List Slot) → AreGathered c n (suc n) ss → flow_of c n (slot_of n) (slice_get c.listing n) ≡ Ok ways → ArePending (suc n) (all_delivered ways ss)
  pending_next n ways ss h f m s k e = go (slice_get ss m) refl (sym (all_delivered_at ways ss m) ∙ e)
    where
      go : (o : Option Slot) → slice_get ss m ≡ o → option_map (arriving m ways) (slice_get ss m) ≡ Some s → s ≡ gathered_to (suc n) m
      go None p q = absurd (cc)
      go (Some t) p q =
          let g : option_map (arriving m ways) (Some t) ≡ Some s = subst (λ (o : Option Slot). option_map (arriving m ways) o ≡ Some s) p q in
          sym (head_is (arriving m ways t) s g) ∙ ap (arriving m ways) (h m t k p) ∙ sym (gathered_next n m ∙ ap (λ (r : Flow). arriving m (ways_of r) (gathered_to n m)) f)

  pub first_pending : (ss : List Slot) → AreOpen c ss → ArePending 0 ss
  first_pending ss h m s k e = h m s e

  -- refusals
  refusal_more : (at : ℕ) (ss : List Slot) (s : Slot) → first_refusal c at (ss ++ s ∷ []) ≡ or_else (first_refusal c at ss) (first_refusal c (at + length ss) (s ∷ []))
  refusal_more at [] s = let e : at + 0 ≡ at = omega arith in rw e refl
  refusal_more at (x ∷ ss) s =
      let e : at + 1 + length ss ≡ at + suc (length ss) = omega arith in
      go (flow_of c at x (slice_get c.listing at)) _ _ _ (subst (λ (k : ℕ). first_refusal c (at + 1) (ss ++ s ∷ []) ≡ or_else (first_refusal c (at + 1) ss) (first_refusal c k (s ∷ []))) e (refusal_more (at + 1) ss s))
    where
      go : (r : Flow) (o p q : Option Refusal) → o ≡ or_else p q → ◌≡◌ {A = Option Refusal} (elim r [ Err e ↦ Some (record { at = spot.Instruction at; kind = e }) | Ok ways ↦ o ]) (or_else (elim r [ Err e ↦ Some (record { at = spot.Instruction at; kind = e }) | Ok ways ↦ p ]) q)
      go (Err e) o p q h = refl
      go (Ok ways) o p q h = h

  abbrev pub refusal_to : ℕ → Option Refusal
  refusal_to n = first_refusal c 0 (slots c n)

  refusal_next : (n : ℕ) → refusal_to n ≡ None → refusal_to (suc n) ≡ first_refusal c n (slot_of n ∷ [])
  refusal_next n h =
      let e : 0 + length (slots c n) ≡ n = omega (arith, slots_long n) in
      refusal_more 0 (slots c n) (slot_of n) ∙ ap (λ (o : Option Refusal). or_else o (first_refusal c (0 + length (slots c n)) (slot_of n ∷ []))) h ∙ ap (λ (k : ℕ). first_refusal c k (slot_of n ∷ [])) e

  pub none_refused : (n : ℕ) (ways : List Way) → refusal_to n ≡ None → flow_of c n (slot_of n) (slice_get c.listing n) ≡ Ok ways → refusal_to (suc n) ≡ None
  none_refused n ways h f = refusal_next n h ∙ subst (λ (r : Flow). ◌≡◌ {A = Option Refusal} (elim r [ Err e ↦ Some (record { at = spot.Instruction n; kind = e }) | Ok ways ↦ first_refusal c (n + 1) [] ]) None) (sym f) refl

  one_refused : (n : ℕ) (kind : RefusalKind) → refusal_to n ≡ None → flow_of c n (slot_of n) (slice_get c.listing n) ≡ Err kind → refusal_to (suc n) ≡ Some (record { at = spot.Instruction n; kind = kind })
  one_refused n kind h f = refusal_next n h ∙ subst (λ (r : Flow). ◌≡◌ {A = Option Refusal} (elim r [ Err e ↦ Some (record { at = spot.Instruction n; kind = e }) | Ok ways ↦ first_refusal c (n + 1) [] ]) (Some (record { at = spot.Instruction n; kind = kind }))) (sym f) refl

  still_refused : (n : ℕ) (r : Refusal) → refusal_to n ≡ Some r → refusal_to (suc n) ≡ Some r
  still_refused n r h = refusal_more 0 (slots c n) (slot_of n) ∙ ap (λ (o : Option Refusal). or_else o (first_refusal c (0 + length (slots c n)) (slot_of n ∷ []))) h

  refused_later : (k n : ℕ) (r : Refusal) → refusal_to n ≡ Some r → refusal_to (n + k) ≡ Some r
  refused_later zero n r h = let e : n + 0 ≡ n = omega arith in rw e h
  refused_later (suc k) n r h = let e : suc n + k ≡ n + suc k = omega arith in
      subst (λ (m : ℕ). refusal_to m ≡ Some r) e (refused_later k (suc n) r (still_refused n r h))

  pub refused_first : (n : ℕ) (kind : RefusalKind) → n < length c.listing → refusal_to n ≡ None → flow_of c n (slot_of n) (slice_get c.listing n) ≡ Err kind → refusal_of c ≡ Some (record { at = spot.Instruction n; kind = kind })
  refused_first n kind k h f =
      let e : suc n + (length c.listing - suc n) ≡ length c.listing = omega arith in
      subst (λ (m : ℕ). refusal_to m ≡ Some (record { at = spot.Instruction n; kind = kind })) e (refused_later (length c.listing - suc n) (suc n) (record { at = spot.Instruction n; kind = kind }) (one_refused n kind h f))

  pub passed_refused : (n : ℕ) (r : Refusal) → IsRefusedAt c n r → (passed c ≡ Err r) ⊎ (r ≡ out_of_memory)
  passed_refused n r (inl first) = inl (ap (λ (o : Option Refusal). passed_by o (reached c)) first.0)
  passed_refused n r (inr none) = inr none

  pub all_passed : (n : ℕ) → n ≡ length c.listing → refusal_to n ≡ None → passed c ≡ Ok (map is_reached (slots c n))
  all_passed n e h = let g : refusal_of c ≡ None = subst (λ (m : ℕ). refusal_to m ≡ None) e h in ap (λ (o : Option Refusal). passed_by o (reached c)) g ∙ ap (λ (m : ℕ). Ok (map is_reached (slots c m))) (sym e)

  pub mapped_next : {B : Type 0} (f : Slot → B) (n : ℕ) → map f (slots c (suc n)) ≡ map f (slots c n) ++ f (slot_of n) ∷ []
  mapped_next f n = mapped_more f (slots c n) (slot_of n)

  -- what a pass without a refusal says
  pub passed_is : (flags : List Bool) → passed c ≡ Ok flags → (refusal_of c ≡ None) × (flags ≡ reached c)
  passed_is flags e = go (refusal_of c) refl e
    where
      go : (o : Option Refusal) → refusal_of c ≡ o → passed_by o (reached c) ≡ Ok flags → (refusal_of c ≡ None) × (flags ≡ reached c)
      go None p q = (p, sym (ok_is (reached c) flags q))
      go (Some r) p q = absurd (cc)

  pub refused_is : (r : Refusal) → passed c ≡ Err r → refusal_of c ≡ Some r
  refused_is r e = go (refusal_of c) refl e
    where
      go : (o : Option Refusal) → refusal_of c ≡ o → passed_by o (reached c) ≡ Err r → refusal_of c ≡ Some r
      go None p q = absurd (cc)
      go (Some x) p q = p ∙ ap (λ (y : Refusal). Some y) (err_is x r q)
        where
          err_is : (a b : Refusal) → ◌≡◌ {A = Result (List Bool) Refusal} (Err a) (Err b) → a ≡ b
          err_is a b h = cc

  pub reached_long : length (reached c) ≡ length c.listing
  reached_long = length-map (slots c (length c.listing)) is_reached ∙ slots_long (length c.listing)
