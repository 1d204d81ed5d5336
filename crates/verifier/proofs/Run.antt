-- A run of an accepted image, step by step.
use Rattle.std.proofs.Common.{◌≡◌, ℕ, zero, suc, ◌+◌, ◌<◌, ◌⊎◌, inl, inr, List, [], ◌∷◌, length, Ok, Option, Some, None, slice_get, Bool, true, false, ◌||◌, nat_eq, ℤ, refl, sym, ap, subst, arith, if◌then◌else◌}
use Rattle.std.proofs.lemmas.List.{length-replicate}
use Rattle.scan_code.specs.declared.op.Op.{Op}
use Rattle.scan_code.specs.declared.op.Op.TheVariants as does
use Rattle.point_types.specs.declared.reading.Reading.{Reading}
use Rattle.point_types.specs.declared.operator.Condition.{Condition}
use Rattle.facts.specs.Flow.{Context, Way, flow}
use Rattle.scan_code.specs.Image.{Image}
use Rattle.scan_code.specs.Machine.{State, Step, Goes, Ends, Traps, Ending, Ended, Trapped, Unfinished, step, after_step, run}
use Rattle.scan_code.specs.Table.{no_turns}
use Rattle.facts.specs.Fit.{Fits}
use Rattle.facts.specs.Slots.{Slot, Holds, flow_of, is_loop_head, head_slot, address_of, slots}
use Rattle.verifier.specs.Verdict.{refusal_of}
use Rattle.verifier.specs.Sound.{AreInRanges, OutputInRange}
use Rattle.scan_code.specs.Machine.{opening}
use Rattle.verifier.proofs.Made.{IsMadeFrom, AreLoaded, Within}
use Rattle.facts.proofs.Lists.{mapped_at, get_within}
use Rattle.verifier.proofs.Listings.{head_is, whole_starts, whole_stands}
use Rattle.facts.proofs.Covering.{Covers}
use Rattle.verifier.proofs.Steps.{AnyWay, IsAt, IsHead, Lands, instruction_lands}
use Rattle.verifier.proofs.Arriving.{slot_at, SlotHolds, covered_holds, slot_covers, head_any, gathered_covers, slots_have, entry_fits, plain_slot, same_yes}

head_more : (a : ℕ) (x : ℕ × Op) (es : List (ℕ × Op)) → is_loop_head a es ≡ true → is_loop_head a (x ∷ es) ≡ true
head_more a (here, does.Repeat condition k n to) es h = either (nat_eq a to) (is_loop_head a es) h
  where
    either : (s t : Bool) → t ≡ true → s || t ≡ true
    either true t e = refl
    either false t e = e
head_more a (here, other) es h = h

pub head_found : (es : List (ℕ × Op)) (n here k l a : ℕ) (condition : Condition) → slice_get es n ≡ Some (here, does.Repeat condition k l a) → is_loop_head a es ≡ true
head_found [] n here k l a condition e = absurd (cc)
head_found (x ∷ es) zero here k l a condition e = rw (head_is x (here, does.Repeat condition k l a) e) (first (nat_eq a a) _ (same_yes a a refl))
  where
    first : (s t : Bool) → s ≡ true → s || t ≡ true
    first true t e = refl
    first false t e = absurd (cc)
head_found (x ∷ es) (suc n) here k l a condition e = head_more a x es (head_found es n here k l a condition e)

pub any_picked : {R : Type 0} (ways : List Way) (P : Way → Type 0) → AnyWay ways P → ((w : Way) → P w → ((Q : Way → Type 0) → Q w → AnyWay ways Q) → R) → R
any_picked [] P h k = absurd h
any_picked (w ∷ ways) P (inl h) k = k w h (λ Q q. inl q)
any_picked (w ∷ ways) P (inr h) k = any_picked ways P h (λ v p up. k v p (λ Q q. inr (up Q q)))

module _ (image : Image) (counters : ℕ) (c : Context) (made : IsMadeFrom image counters c) (accepted : refusal_of c ≡ None) (rs : List Reading) (readings : AreLoaded c rs) where
  -- a state before instruction number m, covered by its slot
  pub record At (m : ℕ) (s : State) : Type 0 where
    pub instruction : Op
    pub listed : slice_get c.listing m ≡ Some (s.address, instruction)
    pub holds : SlotHolds c rs m s
    pub ranges : Within c counters s

  arrive : (n m : ℕ) (t : State) (x : Slot) (ways : List Way) → x ≡ slot_at c rs n → flow_of c n x (slice_get c.listing n) ≡ Ok ways → n < m → IsAt c m t.address → Within c counters t → AnyWay ways (λ w. (w.0 ≡ m) × Fits rs w.1 t) → At m t
  arrive n m t x ways is flows h is_at ranges any =
      let have = subst (λ (y : Slot). slice_get (slots c m) n ≡ Some y) (sym is) (slots_have c rs m n h) in
      let plain = gathered_covers c rs m 0 n (slots c m) _ x ways t have (subst (λ (k : ℕ). flow_of c k x (slice_get c.listing k) ≡ Ok ways) (omega arith) flows) any in
      record {
        instruction = is_at.0;
        listed = is_at.1;
        ranges = ranges;
        holds = covered_holds c rs m t accepted (get_within c.listing m (t.address, is_at.0) is_at.1) (slot_covers c rs counters m t readings ranges plain);
      }

  arrive_head : (m : ℕ) (t : State) → is_loop_head t.address c.listing ≡ true → IsAt c m t.address → Within c counters t → t.deferred ≡ [] → At m t
  arrive_head m t head is_at ranges none =
      let here : address_of (slice_get c.listing m) ≡ t.address = ap address_of is_at.1 in
      let test : is_loop_head (address_of (slice_get c.listing m)) c.listing ≡ true = rw here head in
      record {
        instruction = is_at.0;
        listed = is_at.1;
        ranges = ranges;
        holds = covered_holds c rs m t accepted (get_within c.listing m (t.address, is_at.0) is_at.1)
            (subst (λ (b : Bool). Covers rs (if b then head_slot c (plain_slot c rs m) else plain_slot c rs m) t) (sym test) (head_any c rs counters t (plain_slot c rs m) readings ranges none));
      }

  -- where a step leads, by a way of flow or back to the head of a counted loop
  abbrev pub Advances : ℕ → List ℕ → List Way → Step → Type 0
  Advances n taken ways (Goes t) = (m : ℕ) × At m t × (((n < m) × (t.taken ≡ taken) × AnyWay ways (λ w. w.0 ≡ m)) ⊎ IsHead image c rs counters taken t)
  Advances n taken ways (Ends t) = Within c counters t
  Advances n taken ways (Traps e) = ⊥

  pub flows_on : (n : ℕ) (s : State) (a : At n s) → flow c n a.instruction a.holds.fact ≡ Ok a.holds.ways
  flows_on n s a =
      let q = subst (λ (x : Slot). flow_of c n x (slice_get c.listing n) ≡ Ok a.holds.ways) a.holds.slot a.holds.flows in
      subst (λ (o : Option (ℕ × Op)). flow_of c n (Holds a.holds.fact) o ≡ Ok a.holds.ways) a.listed q

  lands_advances : (n : ℕ) (s : State) (a : At n s) (x : Step) → Lands image c rs counters n s.taken a.holds.ways x → Advances n s.taken a.holds.ways x
  lands_advances n s a (Goes t) (ranges, inl h) = any_picked {R = Advances n s.taken a.holds.ways (Goes t)} a.holds.ways _ h
      (λ w p up. (w.0, arrive n w.0 t (slot_at c rs n) a.holds.ways refl a.holds.flows p.forward p.is_at ranges (up (λ v. (v.0 ≡ w.0) × Fits rs v.1 t) (refl, p.fits)), inl (p.forward, p.kept, up (λ v. v.0 ≡ w.0) refl)))
  lands_advances n s a (Goes t) (ranges, inr h) =
      (h.0.number, arrive_head h.0.number t (head_found c.listing h.0.at h.0.here h.0.counter h.0.limit t.address h.0.condition h.0.listed) h.0.is_at ranges h.1, inr h.0)
  lands_advances n s a (Ends t) h = h
  lands_advances n s a (Traps e) h = h

  pub step_advances : (n : ℕ) (s : State) (a : At n s) → Advances n s.taken a.holds.ways (step image rs s)
  step_advances n s a =
      let e = whole_stands image.code 0 c.listing made.whole n (s.address, a.instruction) a.listed in
      let decoded = e.decoded in
      rw decoded (lands_advances n s a _ ((instruction_lands image c rs counters made readings n e.next a.instruction a.holds.fact s a.listed e.follows (made.placed n _ a.listed) a.ranges a.holds.fits).yields a.holds.ways (flows_on n s a)))

  -- nothing traps, and a run that goes on stands before an instruction
  abbrev pub IsKept : Ending → Type 0
  IsKept (Ended steps t) = Within c counters t
  IsKept (Trapped at e) = ⊥
  IsKept (Unfinished t) = (m : ℕ) × At m t

  -- by induction on the steps
  pub run_kept : (k before m : ℕ) (s : State) → At m s → IsKept (run image rs before k s)
  run_kept zero before m s a = (m, a)
  run_kept (suc k) before m s a = go (step image rs s) (step_advances m s a) (λ t n b. run_kept k (before + 1) n t b)
    where
      go : (x : Step) → Advances m s.taken a.holds.ways x → ((t : State) (n : ℕ) → At n t → IsKept (run image rs (before + 1) k t)) → IsKept (after_step (run image rs (before + 1) k) before x)
      go (Goes t) h on = on t h.0 h.1
      go (Ends t) h on = h
      go (Traps e) h on = absurd h

  pub starting_at : (s : State) → s.address ≡ 0 → s.deferred ≡ [] → Within c counters s → At 0 s
  starting_at s first none ranges =
      let starts = whole_starts image.code 0 c.listing made.whole in
      let fits = entry_fits c rs counters s readings ranges none in
      record {
        instruction = starts.0;
        listed = subst (λ (a : ℕ). slice_get c.listing 0 ≡ Some (a, starts.0)) (sym first) starts.1;
        ranges = ranges;
        holds = covered_holds c rs 0 s accepted (get_within c.listing 0 _ starts.1) (slot_covers c rs counters 0 s readings ranges fits);
      }

length-no_turns : length no_turns ≡ 256
unfolding no_turns
length-no_turns = length-replicate {A = ℕ} 256 0

pub opening_within : (image : Image) (c : Context) (variables : List ℤ) → AreInRanges c.variables variables → Within c 256 (opening image variables)
opening_within image c variables h = record {
  variables = h;
  counted = length-no_turns;
  deferred = omega arith;
  outputs = λ t. mapped_at (λ o. OutputInRange (slice_get c.tags t) o) (λ r. None) image.tags t tt (λ r e. tt);
}
