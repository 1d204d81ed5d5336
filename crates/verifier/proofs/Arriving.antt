-- The slots cover what flows to them.
use Rattle.std.proofs.Common.{◌≡◌, ℕ, zero, suc, ◌+◌, ◌<◌, inl, inr, List, [], ◌∷◌, ◌++◌, length, Ok, Err, Option, Some, None, slice_get, Bool, true, false, nat_eq, ℤ, refl, sym, ap, subst, arith, if◌then◌else◌, length-append}
use Rattle.point_types.specs.declared.reading.Reading.{Reading}
use Rattle.point_types.specs.declared.reading.Reading.TheVariants as reading
use Rattle.point_types.specs.declared.variable.Var.{Var}
use Rattle.facts.specs.Span.{Between}
use Rattle.facts.specs.declared.fact.Fact.{Fact}
use Rattle.facts.specs.declared.refusal.RefusalKind.TheVariants.{Stack}
use Rattle.facts.specs.Flow.{Context, Way, Flow, TagRange}
use Rattle.scan_code.specs.Machine.{State}
use Rattle.facts.specs.Fit.{FitsDeferred, LiesIn, Fits, IfListed, HasOwnValue, reading_number}
use Rattle.facts.specs.Slots.{Slot, Unreached, Holds, Clash, meets, arriving, flow_of, ways_of, gathered, entry_fact, is_loop_head, address_of, head_slot, slots}
use Rattle.facts.specs.declared.refusal.Refusal.{Refusal}
use Rattle.facts.specs.declared.refusal.RefusedAt.TheVariants as spot
use Rattle.verifier.specs.Verdict.{first_refusal, refusal_of}
use Rattle.verifier.specs.Sound.{HasRange}
use Rattle.verifier.proofs.Made.{AreLoaded, IsLoaded, Within}
use Rattle.facts.proofs.Lists.{mapped_at, by_same}
use Rattle.facts.proofs.Covering.{Covers, met_covers_left, met_covers_right}
use Rattle.verifier.proofs.Steps.{AnyWay, none_wait}
use Rattle.point_types.specs.Value.{Value}

-- lists that grow at the end
get_front : {A : Type 0} (xs ys : List A) (i : ℕ) (x : A) → slice_get xs i ≡ Some x → slice_get (xs ++ ys) i ≡ Some x
get_front [] ys i x e = absurd (cc)
get_front (y ∷ xs) ys zero x e = e
get_front (y ∷ xs) ys (suc i) x e = get_front xs ys i x e

get_last : {A : Type 0} (xs : List A) (n : ℕ) (y : A) → length xs ≡ n → slice_get (xs ++ y ∷ []) n ≡ Some y
get_last [] zero y e = refl
get_last [] (suc n) y e = absurd (omega arith)
get_last (x ∷ xs) zero y e = absurd (omega arith)
get_last (x ∷ xs) (suc n) y e = get_last xs n y (omega arith)

meets_keeps : (rs : List Reading) (slot : Slot) (f : Fact) (s : State) → Covers rs slot s → Covers rs (meets slot f) s
meets_keeps rs Unreached f s h = absurd h
meets_keeps rs (Holds g) f s h = met_covers_left rs g f s h
meets_keeps rs Clash f s h = tt

meets_covers : (rs : List Reading) (slot : Slot) (f : Fact) (s : State) → Fits rs f s → Covers rs (meets slot f) s
meets_covers rs Unreached f s h = h
meets_covers rs (Holds g) f s h = met_covers_right rs g f s h
meets_covers rs Clash f s h = tt

arriving_keeps : (rs : List Reading) (n : ℕ) (ways : List Way) (slot : Slot) (s : State) → Covers rs slot s → Covers rs (arriving n ways slot) s
arriving_keeps rs n [] slot s h = h
arriving_keeps rs n (w ∷ ways) slot s h = arriving_keeps rs n ways _ s (go (nat_eq w.0 n))
  where
    go : (t : Bool) → Covers rs (if t then meets slot w.1 else slot) s
    go true = meets_keeps rs slot w.1 s h
    go false = h

pub same_yes : (m n : ℕ) → m ≡ n → nat_eq m n ≡ true
same_yes m n e = grind arith

arriving_covers : (rs : List Reading) (n : ℕ) (ways : List Way) (slot : Slot) (s : State) → AnyWay ways (λ w. (w.0 ≡ n) × Fits rs w.1 s) → Covers rs (arriving n ways slot) s
arriving_covers rs n [] slot s h = absurd h
arriving_covers rs n (w ∷ ways) slot s (inl h) = let e = same_yes w.0 n h.0 in rw e (arriving_keeps rs n ways (meets slot w.1) s (meets_covers rs slot w.1 s h.1))
arriving_covers rs n (w ∷ ways) slot s (inr h) = arriving_covers rs n ways _ s h

module _ (c : Context) (rs : List Reading) where
  pub gathered_keeps : (n at : ℕ) (ss : List Slot) (slot : Slot) (s : State) → Covers rs slot s → Covers rs (gathered c n at ss slot) s
  gathered_keeps n at [] slot s h = h
  gathered_keeps n at (x ∷ ss) slot s h = gathered_keeps n (at + 1) ss _ s (arriving_keeps rs n (ways_of (flow_of c at x (slice_get c.listing at))) slot s h)

  pub gathered_covers : (n at i : ℕ) (ss : List Slot) (slot x : Slot) (ways : List Way) (s : State) → slice_get ss i ≡ Some x → flow_of c (at + i) x (slice_get c.listing (at + i)) ≡ Ok ways → AnyWay ways (λ w. (w.0 ≡ n) × Fits rs w.1 s) → Covers rs (gathered c n at ss slot) s
  gathered_covers n at i [] slot x ways s e f h = absurd (cc)
  gathered_covers n at zero (y ∷ ss) slot x ways s e f h =
      let here : at + 0 ≡ at = omega arith in
      let p : y ≡ x = cc in
      let flows : flow_of c at y (slice_get c.listing at) ≡ Ok ways = rw p (subst (λ (k : ℕ). flow_of c k x (slice_get c.listing k) ≡ Ok ways) here f) in
      gathered_keeps n (at + 1) ss _ s (rw flows (arriving_covers rs n ways slot s h))
  gathered_covers n at (suc i) (y ∷ ss) slot x ways s e f h =
      let there : at + suc i ≡ at + 1 + i = omega arith in
      gathered_covers n (at + 1) i ss _ x ways s e (subst (λ (k : ℕ). flow_of c k x (slice_get c.listing k) ≡ Ok ways) there f) h

  -- before head_slot
  abbrev pub plain_slot : ℕ → Slot
  plain_slot n = gathered c n 0 (slots c n) (if nat_eq n 0 then Holds (entry_fact c) else Unreached)

  abbrev pub slot_at : ℕ → Slot
  slot_at n = if is_loop_head (address_of (slice_get c.listing n)) c.listing then head_slot c (plain_slot n) else plain_slot n

  slots_long : (n : ℕ) → length (slots c n) ≡ n
  slots_long zero = refl
  slots_long (suc n) = omega (arith, length-append (slots c n) (slot_at n ∷ []), slots_long n)

  pub slots_have : (n i : ℕ) → i < n → slice_get (slots c n) i ≡ Some (slot_at i)
  slots_have zero i h = absurd (omega arith)
  slots_have (suc n) i h = by_same {P = slice_get (slots c (suc n)) i ≡ Some (slot_at i)} i n
      (λ same. subst (λ (k : ℕ). slice_get (slots c (suc n)) k ≡ Some (slot_at k)) (sym same) (get_last (slots c n) n (slot_at n) (slots_long n)))
      (λ other. get_front (slots c n) (slot_at n ∷ []) i (slot_at i) (slots_have n i (omega arith)))

  accepted_step : (at : ℕ) (y : Slot) (ss : List Slot) → first_refusal c at (y ∷ ss) ≡ None → (ways : List Way) × (flow_of c at y (slice_get c.listing at) ≡ Ok ways) × (first_refusal c (at + 1) ss ≡ None)
  accepted_step at y ss a = go (flow_of c at y (slice_get c.listing at)) refl a
    where
      go : (r : Flow) → flow_of c at y (slice_get c.listing at) ≡ r → ◌≡◌ {A = Option Refusal} (elim r [ Err e ↦ Some (record { at = spot.Instruction at; kind = e }) | Ok ways ↦ first_refusal c (at + 1) ss ]) None → (ways : List Way) × (flow_of c at y (slice_get c.listing at) ≡ Ok ways) × (first_refusal c (at + 1) ss ≡ None)
      go (Err f) p b = absurd (cc)
      go (Ok ways) p b = (ways, p, b)

  accepted_at : (at : ℕ) (ss : List Slot) (i : ℕ) (x : Slot) → first_refusal c at ss ≡ None → slice_get ss i ≡ Some x → (ways : List Way) × (flow_of c (at + i) x (slice_get c.listing (at + i)) ≡ Ok ways)
  accepted_at at [] i x a e = absurd (cc)
  accepted_at at (y ∷ ss) zero x a e =
      let r = accepted_step at y ss a in
      let p : y ≡ x = cc in
      let here : at ≡ at + 0 = omega arith in
      (r.0, subst (λ (k : ℕ). flow_of c k x (slice_get c.listing k) ≡ Ok r.0) here (subst (λ (z : Slot). flow_of c at z (slice_get c.listing at) ≡ Ok r.0) p r.1))
  accepted_at at (y ∷ ss) (suc i) x a e =
      let r = accepted_step at y ss a in
      let q = accepted_at (at + 1) ss i x r.2 e in
      let there : at + 1 + i ≡ at + suc i = omega arith in
      (q.0, subst (λ (k : ℕ). flow_of c k x (slice_get c.listing k) ≡ Ok q.0) there q.1)

  pub entry_fits : (counters : ℕ) (s : State) → AreLoaded c rs → Within c counters s → s.deferred ≡ [] → Fits rs (entry_fact c) s
  entry_fits counters s readings ranges none = record {
    variables = λ i. mapped_at (λ o. LiesIn o (slice_get s.variables i)) (λ d. Between d.low d.high) c.variables i tt (λ d e. of_variable d (slice_get s.variables i) (subst (λ (o : Option Var). HasRange o (slice_get s.variables i)) e (ranges.variables i)));
    inputs = λ t. mapped_at (λ o. LiesIn o (reading_number (slice_get rs t))) (λ r. Between r.low r.high) c.tags t tt (λ r e. of_input r (slice_get rs t) (subst (λ (o : Option TagRange). IsLoaded o (slice_get rs t)) e (readings t)));
    present = λ t. mapped_at (λ o. IfListed o (HasOwnValue (slice_get rs t))) (λ r. false) c.tags t tt (λ r e. tt);
    deferred = subst (λ (vs : List Value). FitsDeferred s.variables rs [] vs) (sym none) tt;
    result = tt;
  }
    where
      of_variable : (d : Var) (o : Option ℤ) → HasRange (Some d) o → LiesIn (Some (Between d.low d.high)) o
      of_variable d None h = absurd h
      of_variable d (Some n) h = h

      of_input : (r : TagRange) (o : Option Reading) → IsLoaded (Some r) o → LiesIn (Some (Between r.low r.high)) (reading_number o)
      of_input r None h = absurd h
      of_input r (Some (reading.Value n)) h = h
      of_input r (Some (reading.Default n x)) h = h
      of_input r (Some (reading.Absent x)) h = tt

  -- the head of a counted loop
  pub head_any : (counters : ℕ) (s : State) (g : Slot) → AreLoaded c rs → Within c counters s → s.deferred ≡ [] → Covers rs (head_slot c g) s
  head_any counters s Clash readings ranges none = tt
  head_any counters s Unreached readings ranges none = entry_fits counters s readings ranges none
  head_any counters s (Holds f) readings ranges none = go (nat_eq (length f.deferred) 0)
    where
      go : (t : Bool) → Covers rs (if t then Holds (entry_fact c) else Clash) s
      go true = entry_fits counters s readings ranges none
      go false = tt

  head_covers : (counters : ℕ) (s : State) (g : Slot) → AreLoaded c rs → Within c counters s → Covers rs g s → Covers rs (head_slot c g) s
  head_covers counters s Clash readings ranges h = tt
  head_covers counters s Unreached readings ranges h = absurd h
  head_covers counters s (Holds f) readings ranges h = go (nat_eq (length f.deferred) 0) refl
    where
      go : (t : Bool) → nat_eq (length f.deferred) 0 ≡ t → Covers rs (if t then Holds (entry_fact c) else Clash) s
      go true e = entry_fits counters s readings ranges (none_wait c rs f.deferred s.deferred s.variables e h.deferred)
      go false e = tt

  pub slot_covers : (counters m : ℕ) (s : State) → AreLoaded c rs → Within c counters s → Covers rs (plain_slot m) s → Covers rs (slot_at m) s
  slot_covers counters m s readings ranges h = go (is_loop_head (address_of (slice_get c.listing m)) c.listing)
    where
      go : (t : Bool) → Covers rs (if t then head_slot c (plain_slot m) else plain_slot m) s
      go true = head_covers counters s (plain_slot m) readings ranges h
      go false = h

  -- what an accepted slot holds
  pub record SlotHolds (m : ℕ) (s : State) : Type 0 where
    pub fact : Fact
    pub slot : slot_at m ≡ Holds fact
    pub fits : Fits rs fact s
    pub ways : List Way
    pub flows : flow_of c m (slot_at m) (slice_get c.listing m) ≡ Ok ways

  pub covered_holds : (m : ℕ) (s : State) → refusal_of c ≡ None → m < length c.listing → Covers rs (slot_at m) s → SlotHolds m s
  covered_holds m s accepted within h =
      let a = accepted_at 0 (slots c (length c.listing)) m (slot_at m) accepted (slots_have (length c.listing) m within) in
      let p : 0 + m ≡ m = omega arith in
      let flows = subst (λ (k : ℕ). flow_of c k (slot_at m) (slice_get c.listing k) ≡ Ok a.0) p a.1 in
      go (slot_at m) refl h a.0 flows
    where
      go : (x : Slot) → slot_at m ≡ x → Covers rs x s → (ways : List Way) → flow_of c m (slot_at m) (slice_get c.listing m) ≡ Ok ways → SlotHolds m s
      go Unreached e h ways f = absurd h
      go Clash e h ways f = absurd (clash (flow_of c m (slot_at m) (slice_get c.listing m)) ways (ap (λ (y : Slot). flow_of c m y (slice_get c.listing m)) e) f)
        where
          clash : (r : Flow) (ways : List Way) → r ≡ Err Stack → r ≡ Ok ways → ⊥
          clash r ways p q = absurd (cc)
      go (Holds fact) e h ways f = record { fact = fact; slot = e; fits = h; ways = ways; flows = f }
