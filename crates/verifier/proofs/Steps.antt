-- One instruction: where flow doesn't refuse, the machine goes one of its ways.
use Rattle.std.proofs.Common.{◌≡◌, ℕ, suc, ◌+◌, ◌<◌, ◌≤◌, ◌⊎◌, inl, inr, List, [], ◌∷◌, ◌++◌, length, Result, Ok, Err, Option, Some, None, slice_get, slice_set, Bool, true, false, not, ◌&&◌, ◌||◌, nat_eq, nat_lt, nat_le, ℤ, pos, ◌≤ℤ◌, refl, sym, ap, subst, ◌∙◌, arith, if◌then◌else◌}
use Rattle.point_types.specs.declared.il_type.IlType.{IlType}
use Rattle.point_types.specs.declared.il_type.IlType.TheVariants as il
use Rattle.point_types.specs.declared.operator.Operator.{Operator}
use Rattle.point_types.specs.declared.operator.Condition.{Condition}
use Rattle.point_types.specs.declared.operator.Condition.TheVariants as when
use Rattle.scan_code.specs.declared.op.Op.{Op}
use Rattle.scan_code.specs.declared.op.Op.TheVariants as does
use Rattle.point_types.specs.declared.reading.Reading.{Reading}
use Rattle.point_types.specs.declared.reading.Reading.TheVariants as reading
use Rattle.point_types.specs.Value.{Value, Fault, truth, number_of, applied, inverted, int_eq, code_of, low_of, high_of, is_bool, is_within, ◌>>=◌}
use Rattle.point_types.specs.declared.variable.Var.{Var}
use Rattle.scan_code.specs.Table.{read_value, is_present, or_wrong, acts, absolute_of, converted, selected}
use Rattle.facts.specs.Span.{Span, Between, joined, only, has_member, lies_in}
use Rattle.facts.specs.declared.fact.Fact.{Fact}
use Rattle.facts.specs.declared.abstract_value.AbstractValue.{AbstractValue}
use Rattle.facts.specs.declared.abstract_value.Consequences.{Consequences}
use Rattle.facts.specs.declared.abstract_value.Origin.TheVariants.{OfVariable, OfInput}
use Rattle.facts.specs.Fact.{under, any_empty}
use Rattle.facts.specs.Flow.{on_result as flow_result, way_to, way_where, later, earlier, tested, number_at, inverted_known, absolute_known, converted_known, applied_known, selected_known, Context, bool_result, stored_fact, widened, Way, flow, need, check, goes_on, with_value, source_value, presence_value, TagRange}
use Rattle.facts.specs.declared.refusal.RefusalKind.TheVariants.{Jump, NoResult, WrongType, StoreRange}
use Rattle.facts.specs.declared.refusal.RefusalKind.{RefusalKind}
use Rattle.scan_code.specs.Image.{Image}
use Rattle.scan_code.specs.declared.image.Tag.{Tag}
use Rattle.scan_code.specs.Table.{input_kind, output_kind}
use Rattle.scan_code.specs.Machine.{on_result as step_result, State, Step, Goes, Ends, Traps, done, then_goes, on_place, with_result, put_variable, put_output, if_true, counted}
use Rattle.std.proofs.lemmas.Option.{slice_get-get_or}
use Rattle.std.proofs.lemmas.List.{length-set}
use Rattle.std.proofs.Common.{get_or}
use Rattle.std.proofs.lemmas.Int.{ints}
use Rattle.std.specs.Int.Signed.{≤ℤ_refl}
use Rattle.facts.specs.Fit.{IsIn, LiesIn, Hold, Fits, FitsValue, FitsResult, FitsDeferred, IfListed, HasOwnValue, reading_number}
use Rattle.verifier.specs.Sound.{HasRange, OutputInRange}
use Rattle.verifier.proofs.Made.{SameTag, IsMadeFrom, IsPlaced, IsTag, AreLoaded, IsLoaded, Within}
use Rattle.facts.proofs.Comparing.{and_left, and_right, both_true, le_true}
use Rattle.facts.proofs.Lists.{by_same, get_set_same, get_set_other, set_at, get_within}
use Rattle.facts.proofs.Spans.{lies_low, lies_high, in_joined_right, in_member, member_in}
use Rattle.verifier.proofs.Listings.{rising, number_found, lt_yes, le_yes, first_is}
use Rattle.facts.proofs.Values.{bit_test, bit_zero, presence_fits, number_in, applied_good, inverted_good, selected_good, absolute_good, converted_good, Yields, by_ok, by_need, by_check, by_then, by_first, Good, plain_fits, source_fits, bit_value}
use Rattle.facts.proofs.Covering.{joined_lies_left, stored_fits, widened_fits, under_fits, none_empty, lies_of, in_of, code_same}
use Rattle.point_types.proofs.Truths.{bool_kind}

abbrev pub IsAt : Context → ℕ → ℕ → Type 0
IsAt c n address = (i : Op) × (slice_get c.listing n ≡ Some (address, i))

abbrev pub AnyWay : List Way → (Way → Type 0) → Type 0
AnyWay [] P = ⊥
AnyWay (w ∷ ws) P = P w ⊎ AnyWay ws P

pub none_wait : (c : Context) (rs : List Reading) (ks : List (Option AbstractValue)) (ws : List Value) (vs : List ℤ) → nat_eq (length ks) 0 ≡ true → FitsDeferred vs rs ks ws → ws ≡ []
none_wait c rs [] [] vs e h = refl
none_wait c rs [] (w ∷ ws) vs e h = absurd h
none_wait c rs (k ∷ ks) ws vs e h = absurd (grind arith)

module _ (image : Image) (c : Context) (rs : List Reading) (counters : ℕ) where
  -- a counted jump to an instruction, that was taken once more; the counters before it
  pub record IsHead (taken : List ℕ) (t : State) : Type 0 where
    pub at : ℕ
    pub here : ℕ
    pub condition : Condition
    pub counter : ℕ
    pub limit : ℕ
    pub number : ℕ
    pub is_at : IsAt c number t.address
    pub listed : slice_get c.listing at ≡ Some (here, does.Repeat condition counter limit t.address)
    pub count : ℕ
    pub was : slice_get taken counter ≡ Some count
    pub below : count < limit
    pub now : t.taken ≡ slice_set taken counter (count + 1)

  -- a way that leads on from number at, and the state that goes it; the counters before it
  pub record Arrives (at : ℕ) (taken : List ℕ) (w : Way) (t : State) : Type 0 where
    pub forward : at < w.0
    pub kept : t.taken ≡ taken
    pub is_at : IsAt c w.0 t.address
    pub fits : Fits rs w.1 t

  abbrev pub Lands : ℕ → List ℕ → List Way → Step → Type 0
  Lands at taken ways (Goes t) = Within c counters t × (AnyWay ways (λ w. Arrives at taken w t) ⊎ (IsHead taken t × (t.deferred ≡ [])))
  Lands at taken ways (Ends t) = Within c counters t
  Lands at taken ways (Traps e) = ⊥

  module _ (made : IsMadeFrom image counters c) (readings : AreLoaded c rs) where
    on_some : {A : Type 0} (o : Option A) (a : A) (go : A → Step) (Q : Step → Type 0) → o ≡ Some a → Q (go a) → Q (on_place o go)
    on_some o a go Q e h = subst (λ (x : Option _). Q (on_place x go)) (sym e) h

    image_variable : (v : ℕ) (d : Var) → slice_get c.variables v ≡ Some d → slice_get image.vars v ≡ Some d
    image_variable v d e = rw made.variables e

    -- the image's tag of a range
    image_tag : (t : ℕ) (r : TagRange) → slice_get c.tags t ≡ Some r → (g : Tag) × (slice_get image.tags t ≡ Some g) × (g.output ≡ r.output) × (g.kind ≡ r.kind)
    image_tag t r e = go (slice_get image.tags t) refl (subst (λ (o : Option TagRange). SameTag (slice_get image.tags t) o) e (made.tags t))
      where
        go : (o : Option Tag) → slice_get image.tags t ≡ o → SameTag o (Some r) → (g : Tag) × (slice_get image.tags t ≡ Some g) × (g.output ≡ r.output) × (g.kind ≡ r.kind)
        go None p h = absurd h
        go (Some g) p h = (g, p, h.0, h.1)

    direction : (b : Bool) (t : ℕ) (r : TagRange) → slice_get c.tags t ≡ Some r → IsTag b (slice_get c.tags t) → r.output ≡ b
    direction b t r e p = subst (λ (x : Option TagRange). IsTag b x) e p

    input_there : (t : ℕ) (r : TagRange) → slice_get c.tags t ≡ Some r → IsTag false (slice_get c.tags t) → input_kind (slice_get image.tags t) ≡ Some r.kind
    input_there t r e p =
        let g = image_tag t r e in
        let there = g.1 in
        let o : g.0.output ≡ false = g.2 ∙ direction false t r e p in
        rw (there, o) (ap Some g.3)

    output_there : (t : ℕ) (r : TagRange) → slice_get c.tags t ≡ Some r → IsTag true (slice_get c.tags t) → output_kind (slice_get image.tags t) ≡ Some r.kind
    output_there t r e p =
        let g = image_tag t r e in
        let there = g.1 in
        let o : g.0.output ≡ true = g.2 ∙ direction true t r e p in
        rw (there, o) (ap Some g.3)

    variable_number : (v : ℕ) (d : Var) (s : State) → slice_get c.variables v ≡ Some d → Within c counters s → (n : ℤ) × (slice_get s.variables v ≡ Some n) × IsIn (Between d.low d.high) n
    variable_number v d s e r = go (slice_get s.variables v) refl (subst (λ (o : Option Var). HasRange o (slice_get s.variables v)) e (r.variables v))
      where
        go : (o : Option ℤ) → slice_get s.variables v ≡ o → HasRange (Some d) o → (n : ℤ) × (slice_get s.variables v ≡ Some n) × IsIn (Between d.low d.high) n
        go None e h = absurd h
        go (Some n) e h = (n, e, h)

    in_type : (low high : ℤ) (k : IlType) (n : ℤ) → (low_of k ≤ℤ low) × (high ≤ℤ high_of k) → IsIn (Between low high) n → IsIn (Between (low_of k) (high_of k)) n
    in_type low high k n b h = (omega (arith, ints, b.0, h.0), omega (arith, ints, b.1, h.1))

    -- a state that goes on with a new result
    value_goes : (at next : ℕ) (f : Fact) (s : State) (k : AbstractValue) (v : Value) → IsAt c (at + 1) next → Within c counters s → Fits rs f s → FitsValue s.variables rs k v → Lands at s.taken ((at + 1, with_value f k) ∷ []) (with_result next s v)
    value_goes at next f s k v follows ranges fits h = (
      record { variables = ranges.variables; outputs = ranges.outputs; deferred = ranges.deferred; counted = ranges.counted },
      inl (inl (record { forward = omega arith; kept = refl; is_at = follows; fits = record { variables = fits.variables; inputs = fits.inputs; present = fits.present; deferred = fits.deferred; result = h } })),
    )

    good_goes : (at next : ℕ) (f : Fact) (s : State) (k : AbstractValue) (r : Result Value Fault) → IsAt c (at + 1) next → Within c counters s → Fits rs f s → Good s.variables rs r k → Lands at s.taken ((at + 1, with_value f k) ∷ []) (then_goes r (with_result next s))
    good_goes at next f s k (Ok v) follows ranges fits h = value_goes at next f s k v follows ranges fits h
    good_goes at next f s k (Err e) follows ranges fits h = absurd h

    result_value : (vs : List ℤ) (o : Option AbstractValue) (r : Option Value) (k : AbstractValue) → o ≡ Some k → FitsResult vs rs o r → (v : Value) × (r ≡ Some v) × FitsValue vs rs k v
    result_value vs o None k e h = absurd (subst (λ (p : Option AbstractValue). FitsResult vs rs p None) e h)
    result_value vs o (Some v) k e h = (v, refl, subst (λ (p : Option AbstractValue). FitsResult vs rs p (Some v)) e h)

    deferred_value : (vs : List ℤ) (ds rest : List (Option AbstractValue)) (ws : List Value) (d : Option AbstractValue) → ds ≡ d ∷ rest → FitsDeferred vs rs ds ws → (w : Value) × (ws' : List Value) × (ws ≡ w ∷ ws') × FitsResult vs rs d (Some w) × FitsDeferred vs rs rest ws'
    deferred_value vs ds rest [] d e h = absurd (subst (λ (p : List (Option AbstractValue)). FitsDeferred vs rs p []) e h)
    deferred_value vs ds rest (w ∷ ws) d e h = let g = subst (λ (p : List (Option AbstractValue)). FitsDeferred vs rs p (w ∷ ws)) e h in (w, ws, refl, g.0, g.1)

    -- a fact says nothing of the address, the outputs and the counters
    moved_fits : (f : Fact) (s : State) (a : ℕ) (outputs : List (Option ℤ)) (taken : List ℕ) → Fits rs f s → Fits rs f (record s { address = a; outputs = outputs; taken = taken })
    moved_fits f s a outputs taken h = record { variables = h.variables; inputs = h.inputs; present = h.present; deferred = h.deferred; result = h.result }

    load_variable : (at next v : ℕ) (f : Fact) (s : State) → IsAt c (at + 1) next → Within c counters s → Fits rs f s → Yields (flow c at (does.LoadVariable v) f) (λ ways. Lands at s.taken ways (done image rs s.address next (does.LoadVariable v) s))
    load_variable at next v f s follows ranges fits = by_need _ (slice_get c.variables v) _ _ (λ d e. by_need _ (slice_get f.variables v) _ _ (λ p g. by_ok _ _ (
        let n = variable_number v d s e ranges in
        let i = in_of p n.0 (subst (λ (o : Option ℤ). LiesIn (Some p) o) n.1 (subst (λ (o : Option Span). LiesIn o (slice_get s.variables v)) g (fits.variables v))) in
        let here = image_variable v d e in
        let there = n.1 in
        rw (here, there) (value_goes at next f s (source_value c d.kind p (OfVariable v)) (record { kind = d.kind; number = n.0 }) follows ranges fits
        (source_fits c s.variables rs d.kind p (OfVariable v) n.0 i n.1 (in_type d.low d.high d.kind n.0 (made.of_variables v d e) n.2))))))

    -- a reading that is there
    reading_there : (r : TagRange) (o : Option Reading) (here : Bool) → r.output ≡ false → IsLoaded (Some r) o → r.has_default || here ≡ true → IfListed (Some here) (HasOwnValue o) → (n : ℤ) × (read_value (Some r.kind) o ≡ Ok (record { kind = r.kind; number = n })) × (reading_number o ≡ Some n) × IsIn (Between r.low r.high) n
    reading_there r None here out h e l = absurd h
    reading_there r (Some (reading.Value n)) here out h e l = (n, refl, refl, h)
    reading_there r (Some (reading.Default n cause)) here out h e l = (n, refl, refl, h)
    reading_there r (Some (reading.Absent cause)) true out h e l = absurd l
    reading_there r (Some (reading.Absent cause)) false out h e l = let k = h out in absurd (grind arith)

    load_input : (at next t : ℕ) (f : Fact) (s : State) → IsAt c (at + 1) next → IsTag false (slice_get c.tags t) → Within c counters s → Fits rs f s → Yields (flow c at (does.LoadInput t) f) (λ ways. Lands at s.taken ways (done image rs s.address next (does.LoadInput t) s))
    load_input at next t f s follows placed ranges fits = by_need _ (slice_get c.tags t) _ _ (λ r e. by_need _ (slice_get f.inputs t) _ _ (λ p g. by_need _ (slice_get f.present t) _ _ (λ here l. by_check _ _ (λ x. goes_on (at + 1) (with_value f (source_value c r.kind p (OfInput t)))) _ (λ q. by_ok _ _ (
        let n = reading_there r (slice_get rs t) here (direction false t r e placed) (subst (λ (o : Option TagRange). IsLoaded o (slice_get rs t)) e (readings t)) q (subst (λ (o : Option Bool). IfListed o (HasOwnValue (slice_get rs t))) l (fits.present t)) in
        let i = in_of p n.0 (subst (λ (o : Option ℤ). LiesIn (Some p) o) n.2 (subst (λ (o : Option Span). LiesIn o (reading_number (slice_get rs t))) g (fits.inputs t))) in
        let there = input_there t r e placed in
        let value = n.1 in
        rw (there, value) (value_goes at next f s (source_value c r.kind p (OfInput t)) (record { kind = r.kind; number = n.0 }) follows ranges fits
        (source_fits c s.variables rs r.kind p (OfInput t) n.0 i n.2 (in_type r.low r.high r.kind n.0 (made.of_tags t r e) n.3))))))))

    load_presence : (at next t : ℕ) (f : Fact) (s : State) → IsAt c (at + 1) next → IsTag false (slice_get c.tags t) → Within c counters s → Fits rs f s → Yields (flow c at (does.LoadPresence t) f) (λ ways. Lands at s.taken ways (done image rs s.address next (does.LoadPresence t) s))
    load_presence at next t f s follows placed ranges fits = go (slice_get c.tags t) refl
      where
        go : (o : Option TagRange) → slice_get c.tags t ≡ o → Yields (flow c at (does.LoadPresence t) f) (λ ways. Lands at s.taken ways (done image rs s.address next (does.LoadPresence t) s))
        go None e = absurd (subst (λ (o : Option TagRange). IsTag false o) e placed)
        go (Some r) e = let there = input_there t r e placed in
            by_ok _ _ (rw there (value_goes at next f s (presence_value c t) (truth (is_present (slice_get rs t))) follows ranges fits (presence_fits c s.variables rs t)))

    load_bool : (at next : ℕ) (b : Bool) (f : Fact) (s : State) → IsAt c (at + 1) next → Within c counters s → Fits rs f s → Yields (flow c at (does.LoadBool b) f) (λ ways. Lands at s.taken ways (done image rs s.address next (does.LoadBool b) s))
    load_bool at next b f s follows ranges fits = by_ok _ _ (value_goes at next f s _ (truth b) follows ranges fits (plain_fits c s.variables rs il.Bool (only (number_of b)) (truth b) refl (≤ℤ_refl (number_of b), ≤ℤ_refl (number_of b)) (number_in b)))

    load_number : (at next : ℕ) (k : IlType) (n : ℤ) (f : Fact) (s : State) → IsAt c (at + 1) next → IsIn (Between (low_of k) (high_of k)) n → Within c counters s → Fits rs f s → Yields (flow c at (does.LoadNumber k n) f) (λ ways. Lands at s.taken ways (done image rs s.address next (does.LoadNumber k n) s))
    load_number at next k n f s follows placed ranges fits = by_ok _ _ (value_goes at next f s _ (record { kind = k; number = n }) follows ranges fits (plain_fits c s.variables rs k (only n) _ refl (≤ℤ_refl n, ≤ℤ_refl n) placed))

    -- stores
    same_kinds : (k : IlType) (r : AbstractValue) (v : Value) → v.kind ≡ r.kind → nat_eq (code_of k) (code_of r.kind) ≡ true → nat_eq (code_of k) (code_of v.kind) ≡ true
    same_kinds k r v e h = rw e h

    ranges_written : (d : Var) (v : ℕ) (n : ℤ) (s : State) (a : ℕ) → slice_get c.variables v ≡ Some d → IsIn (Between d.low d.high) n → Within c counters s → Within c counters (record s { address = a; variables = slice_set s.variables v n })
    ranges_written d v n s a e h r = record {
      outputs = r.outputs;
      deferred = r.deferred;
      counted = r.counted;
      variables = λ i. by_same {P = HasRange (slice_get c.variables i) (slice_get (slice_set s.variables v n) i)} i v
          (λ same. subst (λ (m : ℕ). HasRange (slice_get c.variables m) (slice_get (slice_set s.variables v n) m)) (sym same)
          (subst (λ (o : Option Var). HasRange o (slice_get (slice_set s.variables v n) v)) (sym e) (subst (λ (o : Option ℤ). HasRange (Some d) o) (sym (get_set_same s.variables v n (get_within s.variables v there.0 there.1))) h)))
          (λ other. subst (λ (o : Option ℤ). HasRange (slice_get c.variables i) o) (sym (get_set_other s.variables v i n other)) (r.variables i));
    }
      where
        there : (m : ℤ) × (slice_get s.variables v ≡ Some m) × IsIn (Between d.low d.high) m
        there = variable_number v d s e r

    outputs_written : (g : TagRange) (t : ℕ) (n : ℤ) (s : State) (a : ℕ) → slice_get c.tags t ≡ Some g → IsIn (Between g.low g.high) n × (g.output ≡ true) → Within c counters s → Within c counters (record s { address = a; outputs = slice_set s.outputs t (Some n) })
    outputs_written g t n s a e h r = record {
      variables = r.variables;
      deferred = r.deferred;
      counted = r.counted;
      outputs = λ i. by_same {P = OutputInRange (slice_get c.tags i) (slice_get (slice_set s.outputs t (Some n)) i)} i t
          (λ same. subst (λ (m : ℕ). OutputInRange (slice_get c.tags m) (slice_get (slice_set s.outputs t (Some n)) m)) (sym same)
          (set_at (λ o. OutputInRange (slice_get c.tags t) o) s.outputs t (Some n) (subst (λ (o : Option TagRange). OutputInRange o (Some (Some n))) (sym e) h) tt))
          (λ other. subst (λ (o : Option (Option ℤ)). OutputInRange (slice_get c.tags i) o) (sym (get_set_other s.outputs t i (Some n) other)) (r.outputs i));
    }

    store_variable : (at next v : ℕ) (f : Fact) (s : State) → IsAt c (at + 1) next → Within c counters s → Fits rs f s → Yields (flow c at (does.StoreVariable v) f) (λ ways. Lands at s.taken ways (done image rs s.address next (does.StoreVariable v) s))
    store_variable at next v f s follows ranges fits = by_need _ (slice_get c.variables v) _ _ (λ d e. by_need _ f.result _ _ (λ r g. by_check _ _ (λ x. check StoreRange (lies_in r.span d.low d.high) >>= λ y. goes_on (at + 1) (stored_fact v r f)) _ (λ same. by_check _ _ (λ y. goes_on (at + 1) (stored_fact v r f)) _ (λ l. by_ok _ _ (
        let here = image_variable v d e in
        let w = result_value s.variables f.result s.result r g fits.result in
        let is = w.1 in
        let kinds = same_kinds d.kind r w.0 w.2.kind same in
        let low = lies_low r.span d.low d.high w.0.number l w.2.span in
        let high = lies_high r.span d.low d.high w.0.number l w.2.span in
        let within : is_within d.low d.high w.0.number ≡ true = both_true _ _ (le_true _ _ low) (le_true _ _ high) in
        let there = variable_number v d s e ranges in
        let goal = λ (x : Option Value). Lands at s.taken ((at + 1, stored_fact v r f) ∷ []) (on_place (slice_get image.vars v) (λ d. then_goes (or_wrong x) (λ y. put_variable image next v y s))) in
        subst goal (sym is) (rw (here, kinds, within) (
          ranges_written d v w.0.number s next e (low, high) ranges,
          inl (inl (record { forward = omega arith; kept = refl; is_at = follows; fits = stored_fits rs v f r w.0 s next (get_within s.variables v there.0 there.1) fits is w.2 })),
        )))))))

    store_output : (at next t : ℕ) (f : Fact) (s : State) → IsAt c (at + 1) next → IsTag true (slice_get c.tags t) → Within c counters s → Fits rs f s → Yields (flow c at (does.StoreOutput t) f) (λ ways. Lands at s.taken ways (done image rs s.address next (does.StoreOutput t) s))
    store_output at next t f s follows placed ranges fits = by_need _ (slice_get c.tags t) _ _ (λ d e. by_need _ f.result _ _ (λ r g. by_check _ _ (λ x. check StoreRange (lies_in r.span d.low d.high) >>= λ y. goes_on (at + 1) f) _ (λ same. by_check _ _ (λ y. goes_on (at + 1) f) _ (λ l. by_ok _ _ (
        let here = output_there t d e placed in
        let w = result_value s.variables f.result s.result r g fits.result in
        let is = w.1 in
        let kinds = same_kinds d.kind r w.0 w.2.kind same in
        let low = lies_low r.span d.low d.high w.0.number l w.2.span in
        let high = lies_high r.span d.low d.high w.0.number l w.2.span in
        let goal = λ (x : Option Value). Lands at s.taken ((at + 1, f) ∷ []) (on_place (output_kind (slice_get image.tags t)) (λ k. then_goes (or_wrong x) (λ y. put_output next t k y s))) in
        subst goal (sym is) (rw (here, kinds) (
          outputs_written d t w.0.number s next e ((low, high), direction true t d e placed) ranges,
          inl (inl (record { forward = omega arith; kept = refl; is_at = follows; fits = moved_fits f s next (slice_set s.outputs t (Some w.0.number)) s.taken fits })),
        )))))))

    -- set and reset
    by_bool : {B : Type 0} (f : Fact) (k : AbstractValue → Result B RefusalKind) (P : B → Type 0) → ((r : AbstractValue) → f.result ≡ Some r → is_bool r.kind ≡ true → Yields (k r) P) → Yields (bool_result f >>= k) P
    by_bool {B} f k P h = go f.result refl
      where
        tested : (r : AbstractValue) (t : Bool) → is_bool r.kind ≡ t → f.result ≡ Some r → Yields ((check WrongType t >>= λ x. Ok r) >>= k) P
        tested r true e g = h r g e
        tested r false e g = record { yields = λ b e. absurd (cc) }

        go : (o : Option AbstractValue) → f.result ≡ o → Yields ((need NoResult o >>= λ r. check WrongType (is_bool r.kind) >>= λ x. Ok r) >>= k) P
        go None e = record { yields = λ b e. absurd (cc) }
        go (Some r) e = tested r (is_bool r.kind) refl e

    -- what a condition's test says of a BOOL
    bool_tested : (k : IlType) (x : Option Value) (r : AbstractValue) (w : Value) → is_bool k ≡ true → is_bool r.kind ≡ true → x ≡ Some w → w.kind ≡ r.kind → (or_wrong x >>= λ y. if is_bool y.kind && is_bool k then Ok (int_eq y.number (pos 1)) else Err Fault.WrongType) ≡ Ok (int_eq w.number (pos 1))
    bool_tested k x r w e g is h =
        let t : is_bool w.kind ≡ true = rw h g in
        rw (is, t, e) refl

    -- a BOOL's range has both truths
    takes_truths : (v : ℕ) (d : Var) (b : Bool) → slice_get c.variables v ≡ Some d → is_bool d.kind ≡ true → is_within d.low d.high (number_of b) ≡ true
    takes_truths v d b e k = let ends = made.of_bools v d e k in rw (ends.0, ends.1) (go b)
      where
        go : (b : Bool) → is_within (pos 0) (pos 1) (number_of b) ≡ true
        go true = refl
        go false = refl

    set_lands : (at next v : ℕ) (b x : Bool) (f : Fact) (s : State) (d : Var) → IsAt c (at + 1) next → slice_get c.variables v ≡ Some d → is_bool d.kind ≡ true → Within c counters s → Fits rs f s → Lands at s.taken ((at + 1, widened v (number_of b) (slice_get f.variables v) f) ∷ []) (if x then put_variable image next v (truth b) s else Goes (record s { address = next }))
    set_lands at next v b false f s d follows e k ranges fits = (
      record { variables = ranges.variables; outputs = ranges.outputs; deferred = ranges.deferred; counted = ranges.counted },
      inl (inl (record {
        forward = omega arith;
        kept = refl;
        is_at = follows;
        fits = widened_fits rs v (number_of b) f s s.variables next (λ j n. refl) fits
            (λ p g. joined_lies_left p (only (number_of b)) (slice_get s.variables v) (subst (λ (o : Option Span). LiesIn o (slice_get s.variables v)) g (fits.variables v)));
      })),
    )
    set_lands at next v b true f s d follows e k ranges fits =
        let here = image_variable v d e in
        let kinds : nat_eq (code_of d.kind) (code_of il.Bool) ≡ true = code_same d.kind il.Bool (bool_kind d.kind k) in
        let within = takes_truths v d b e k in
        let i = in_member (Between d.low d.high) (number_of b) within in
        let there = variable_number v d s e ranges in
        let written = get_set_same s.variables v (number_of b) (get_within s.variables v there.0 there.1) in
        rw (here, kinds, within) (
          ranges_written d v (number_of b) s next e i ranges,
          inl (inl (record {
            forward = omega arith;
            kept = refl;
            is_at = follows;
            fits = widened_fits rs v (number_of b) f s (slice_set s.variables v (number_of b)) next (λ j n. get_set_other s.variables v j (number_of b) n) fits
                (λ p g. subst (λ (o : Option ℤ). LiesIn (Some (joined p (only (number_of b)))) o) (sym written) (lies_of (joined p (only (number_of b))) (number_of b) (in_joined_right p (only (number_of b)) (number_of b) (≤ℤ_refl (number_of b), ≤ℤ_refl (number_of b)))));
          })),
        )

    set_variable : (at next v : ℕ) (f : Fact) (s : State) → IsAt c (at + 1) next → Within c counters s → Fits rs f s → Yields (flow c at (does.SetVariable v) f) (λ ways. Lands at s.taken ways (done image rs s.address next (does.SetVariable v) s))
    set_variable at next v f s follows ranges fits = by_need _ (slice_get c.variables v) _ _ (λ d e. by_bool f (λ r. check WrongType (is_bool d.kind) >>= λ y. goes_on (at + 1) (widened v (pos 1) (slice_get f.variables v) f)) _ (λ r g q. by_check _ _ (λ y. goes_on (at + 1) (widened v (pos 1) (slice_get f.variables v) f)) _ (λ k. by_ok _ _ (
        let here = image_variable v d e in
        let w = result_value s.variables f.result s.result r g fits.result in
        let test = bool_tested d.kind s.result r w.0 k q w.1 w.2.kind in
        on_some (slice_get image.vars v) d (λ d. if_true d.kind next s (put_variable image next v (truth true) s)) (Lands at s.taken ((at + 1, widened v (pos 1) (slice_get f.variables v) f) ∷ [])) here
        (rw test (set_lands at next v true (int_eq w.0.number (pos 1)) f s d follows e k ranges fits))))))

    reset_variable : (at next v : ℕ) (f : Fact) (s : State) → IsAt c (at + 1) next → Within c counters s → Fits rs f s → Yields (flow c at (does.ResetVariable v) f) (λ ways. Lands at s.taken ways (done image rs s.address next (does.ResetVariable v) s))
    reset_variable at next v f s follows ranges fits = by_need _ (slice_get c.variables v) _ _ (λ d e. by_bool f (λ r. check WrongType (is_bool d.kind) >>= λ y. goes_on (at + 1) (widened v (pos 0) (slice_get f.variables v) f)) _ (λ r g q. by_check _ _ (λ y. goes_on (at + 1) (widened v (pos 0) (slice_get f.variables v) f)) _ (λ k. by_ok _ _ (
        let here = image_variable v d e in
        let w = result_value s.variables f.result s.result r g fits.result in
        let test = bool_tested d.kind s.result r w.0 k q w.1 w.2.kind in
        on_some (slice_get image.vars v) d (λ d. if_true d.kind next s (put_variable image next v (truth false) s)) (Lands at s.taken ((at + 1, widened v (pos 0) (slice_get f.variables v) f) ∷ [])) here
        (rw test (set_lands at next v false (int_eq w.0.number (pos 1)) f s d follows e k ranges fits))))))

    output_lands : (at next t : ℕ) (b x : Bool) (f : Fact) (s : State) (d : TagRange) → IsAt c (at + 1) next → slice_get c.tags t ≡ Some d → d.output ≡ true → is_bool d.kind ≡ true → has_member (number_of b) (Between d.low d.high) ≡ true → Within c counters s → Fits rs f s → Lands at s.taken ((at + 1, f) ∷ []) (if x then put_output next t d.kind (truth b) s else Goes (record s { address = next }))
    output_lands at next t b false f s d follows e o k m ranges fits = (
      record { variables = ranges.variables; outputs = ranges.outputs; deferred = ranges.deferred; counted = ranges.counted },
      inl (inl (record { forward = omega arith; kept = refl; is_at = follows; fits = moved_fits f s next s.outputs s.taken fits })),
    )
    output_lands at next t b true f s d follows e o k m ranges fits =
        let kinds : nat_eq (code_of d.kind) (code_of il.Bool) ≡ true = code_same d.kind il.Bool (bool_kind d.kind k) in
        let i = in_member (Between d.low d.high) (number_of b) m in
        rw kinds (
          outputs_written d t (number_of b) s next e (i, o) ranges,
          inl (inl (record { forward = omega arith; kept = refl; is_at = follows; fits = moved_fits f s next (slice_set s.outputs t (Some (number_of b))) s.taken fits })),
        )

    set_output : (at next t : ℕ) (f : Fact) (s : State) → IsAt c (at + 1) next → IsTag true (slice_get c.tags t) → Within c counters s → Fits rs f s → Yields (flow c at (does.SetOutput t) f) (λ ways. Lands at s.taken ways (done image rs s.address next (does.SetOutput t) s))
    set_output at next t f s follows placed ranges fits = by_need _ (slice_get c.tags t) _ _ (λ d e. by_bool f (λ r. check WrongType (is_bool d.kind) >>= λ x. check StoreRange (has_member (pos 1) (Between d.low d.high)) >>= λ y. goes_on (at + 1) f) _ (λ r g q. by_check _ _ (λ x. check StoreRange (has_member (pos 1) (Between d.low d.high)) >>= λ y. goes_on (at + 1) f) _ (λ k. by_check _ _ (λ y. goes_on (at + 1) f) _ (λ m. by_ok _ _ (
        let here = output_there t d e placed in
        let w = result_value s.variables f.result s.result r g fits.result in
        let test = bool_tested d.kind s.result r w.0 k q w.1 w.2.kind in
        on_some (output_kind (slice_get image.tags t)) d.kind (λ k. if_true k next s (put_output next t k (truth true) s)) (Lands at s.taken ((at + 1, f) ∷ [])) here
        (rw test (output_lands at next t true (int_eq w.0.number (pos 1)) f s d follows e (direction true t d e placed) k m ranges fits)))))))

    reset_output : (at next t : ℕ) (f : Fact) (s : State) → IsAt c (at + 1) next → IsTag true (slice_get c.tags t) → Within c counters s → Fits rs f s → Yields (flow c at (does.ResetOutput t) f) (λ ways. Lands at s.taken ways (done image rs s.address next (does.ResetOutput t) s))
    reset_output at next t f s follows placed ranges fits = by_need _ (slice_get c.tags t) _ _ (λ d e. by_bool f (λ r. check WrongType (is_bool d.kind) >>= λ x. check StoreRange (has_member (pos 0) (Between d.low d.high)) >>= λ y. goes_on (at + 1) f) _ (λ r g q. by_check _ _ (λ x. check StoreRange (has_member (pos 0) (Between d.low d.high)) >>= λ y. goes_on (at + 1) f) _ (λ k. by_check _ _ (λ y. goes_on (at + 1) f) _ (λ m. by_ok _ _ (
        let here = output_there t d e placed in
        let w = result_value s.variables f.result s.result r g fits.result in
        let test = bool_tested d.kind s.result r w.0 k q w.1 w.2.kind in
        on_some (output_kind (slice_get image.tags t)) d.kind (λ k. if_true k next s (put_output next t k (truth false) s)) (Lands at s.taken ((at + 1, f) ∷ [])) here
        (rw test (output_lands at next t false (int_eq w.0.number (pos 1)) f s d follows e (direction true t d e placed) k m ranges fits)))))))

    -- values that wait
    deferred_long : (vs : List ℤ) (ks : List (Option AbstractValue)) (ws : List Value) → FitsDeferred vs rs ks ws → length ws ≡ length ks
    deferred_long vs [] [] h = refl
    deferred_long vs [] (w ∷ ws) h = absurd h
    deferred_long vs (k ∷ ks) [] h = absurd h
    deferred_long vs (k ∷ ks) (w ∷ ws) h = ap suc (deferred_long vs ks ws h.1)

    less_out : (m n : ℕ) → nat_lt m n ≡ true → m < n
    less_out m n e = grind arith

    push : (at next : ℕ) (f : Fact) (s : State) → IsAt c (at + 1) next → Within c counters s → Fits rs f s → Yields (flow c at does.Push f) (λ ways. Lands at s.taken ways (done image rs s.address next does.Push s))
    push at next f s follows ranges fits = by_check _ _ _ _ (λ room. by_need _ f.result _ _ (λ r g. by_ok _ _ (
        let w = result_value s.variables f.result s.result r g fits.result in
        let is = w.1 in
        let less : nat_lt (length s.deferred) 128 ≡ true = rw (deferred_long s.variables f.deferred s.deferred fits.deferred) (and_right (nat_lt (length f.deferred) c.depth) _ room) in
        let deep = less_out (length f.deferred) c.depth (and_left (nat_lt (length f.deferred) c.depth) _ room) in
        rw (less, is) (
          record { variables = ranges.variables; outputs = ranges.outputs; deferred = omega (arith, deep, deferred_long s.variables f.deferred s.deferred fits.deferred); counted = ranges.counted },
          inl (inl (record { forward = omega arith; kept = refl; is_at = follows; fits = record { variables = fits.variables; inputs = fits.inputs; present = fits.present; deferred = (w.2, fits.deferred); result = tt } })),
        ))))

    -- operations
    one_lands : (at next : ℕ) (f : Fact) (s : State) (make : AbstractValue → Result AbstractValue RefusalKind) (act : Value → Result Value Fault) → IsAt c (at + 1) next → Within c counters s → Fits rs f s → ((k : AbstractValue) (v : Value) → FitsValue s.variables rs k v → Yields (make k) (Good s.variables rs (act v))) → Yields (flow_result f make (at + 1)) (λ ways. Lands at s.taken ways (step_result s act next))
    one_lands at next f s make act follows ranges fits h = by_then (need NoResult f.result >>= make) _ (Good s.variables rs (or_wrong s.result >>= act)) _
        (by_need _ f.result make _ (λ r g.
        let w = result_value s.variables f.result s.result r g fits.result in
        let is = w.1 in
        rw is (h r w.0 w.2)))
        (λ k good. by_ok _ _ (good_goes at next f s k (or_wrong s.result >>= act) follows ranges fits good))

    not_lands : (at next : ℕ) (f : Fact) (s : State) → IsAt c (at + 1) next → Within c counters s → Fits rs f s → Yields (flow c at does.Not f) (λ ways. Lands at s.taken ways (done image rs s.address next does.Not s))
    not_lands at next f s follows ranges fits = one_lands at next f s (λ r. check WrongType (is_bool r.kind) >>= λ x. Ok (inverted_known r)) inverted follows ranges fits
        (λ k v h. by_check _ _ (λ x. Ok (inverted_known k)) _ (λ e. by_ok _ _ (inverted_good c s.variables rs k v h e)))

    absolute_lands : (at next : ℕ) (f : Fact) (s : State) → IsAt c (at + 1) next → Within c counters s → Fits rs f s → Yields (flow c at does.Absolute f) (λ ways. Lands at s.taken ways (done image rs s.address next does.Absolute s))
    absolute_lands at next f s follows ranges fits = one_lands at next f s (absolute_known c) absolute_of follows ranges fits (absolute_good c s.variables rs)

    convert_lands : (at next : ℕ) (from to : IlType) (f : Fact) (s : State) → IsAt c (at + 1) next → Within c counters s → Fits rs f s → Yields (flow c at (does.Convert from to) f) (λ ways. Lands at s.taken ways (done image rs s.address next (does.Convert from to) s))
    convert_lands at next from to f s follows ranges fits = one_lands at next f s (converted_known c from to) (converted from to) follows ranges fits (converted_good c s.variables rs from to)

    operands_go : (at next : ℕ) (f : Fact) (s : State) (k : AbstractValue) (rest : List (Option AbstractValue)) (ws : List Value) (r : Result Value Fault) → IsAt c (at + 1) next → Within c counters s → length ws ≤ c.depth → Fits rs f s → FitsDeferred s.variables rs rest ws → Good s.variables rs r k → Lands at s.taken ((at + 1, record f { result = Some k; deferred = rest }) ∷ []) (then_goes r (λ v. Goes (record s { address = next; result = Some v; deferred = ws })))
    operands_go at next f s k rest ws (Ok v) follows ranges short fits waits h = (
      record { variables = ranges.variables; outputs = ranges.outputs; deferred = short; counted = ranges.counted },
      inl (inl (record { forward = omega arith; kept = refl; is_at = follows; fits = record { variables = fits.variables; inputs = fits.inputs; present = fits.present; deferred = waits; result = h } })),
    )
    operands_go at next f s k rest ws (Err e) follows ranges short fits waits h = absurd h

    apply_lands : (at next : ℕ) (o : Operator) (f : Fact) (s : State) → IsAt c (at + 1) next → Within c counters s → Fits rs f s → Yields (flow c at (does.Apply o) f) (λ ways. Lands at s.taken ways (done image rs s.address next (does.Apply o) s))
    apply_lands at next o f s follows ranges fits = by_first f.deferred _ _ (λ top rest e. by_need _ top _ _ (λ d g. by_need _ f.result _ _ (λ r q.
        let w = result_value s.variables f.result s.result r q fits.result in
        let is = w.1 in
        let x = deferred_value s.variables f.deferred rest s.deferred top e fits.deferred in
        let waits = x.2 in
        let y : FitsValue s.variables rs d x.0 = subst (λ (o : Option AbstractValue). FitsResult s.variables rs o (Some x.0)) g x.3 in
        let short : length x.1 ≤ c.depth = omega (arith, ap length waits, ranges.deferred) in
        by_then (applied_known c o d r) _ (Good s.variables rs (applied o x.0 w.0)) _ (applied_good c s.variables rs o d r x.0 w.0 y w.2)
        (λ k good. by_ok _ _ (rw (waits, is) (operands_go at next f s k rest x.1 (applied o x.0 w.0) follows ranges short fits x.4 good))))))

    select_lands : (at next : ℕ) (f : Fact) (s : State) → IsAt c (at + 1) next → Within c counters s → Fits rs f s → Yields (flow c at does.Select f) (λ ways. Lands at s.taken ways (done image rs s.address next does.Select s))
    select_lands at next f s follows ranges fits = by_first f.deferred _ _ (λ top under' e. by_first under' _ _ (λ below rest e'. by_need _ below _ _ (λ chooser p. by_need _ top _ _ (λ a g. by_need _ f.result _ _ (λ b q.
        let w = result_value s.variables f.result s.result b q fits.result in
        let is = w.1 in
        let x = deferred_value s.variables f.deferred under' s.deferred top e fits.deferred in
        let z = deferred_value s.variables under' rest x.1 below e' x.4 in
        let waits = x.2 ∙ ap (λ (us : List Value). x.0 ∷ us) z.2 in
        let y : FitsValue s.variables rs a x.0 = subst (λ (o : Option AbstractValue). FitsResult s.variables rs o (Some x.0)) g x.3 in
        let y' : FitsValue s.variables rs chooser z.0 = subst (λ (o : Option AbstractValue). FitsResult s.variables rs o (Some z.0)) p z.3 in
        let short : length z.1 ≤ c.depth = omega (arith, ap length waits, ranges.deferred) in
        by_then (selected_known c chooser a b) _ (Good s.variables rs (selected z.0 x.0 w.0)) _ (selected_good c s.variables rs chooser a b z.0 x.0 w.0 y' y w.2)
        (λ k good. by_ok _ _ (rw (waits, is) (operands_go at next f s k rest z.1 (selected z.0 x.0 w.0) follows ranges short fits z.4 good))))))))

    -- ways
    any_left : (as' bs : List Way) (P : Way → Type 0) → AnyWay as' P → AnyWay (as' ++ bs) P
    any_left [] bs P h = absurd h
    any_left (a ∷ as') bs P (inl h) = inl h
    any_left (a ∷ as') bs P (inr h) = inr (any_left as' bs P h)

    any_right : (as' bs : List Way) (P : Way → Type 0) → AnyWay bs P → AnyWay (as' ++ bs) P
    any_right [] bs P h = h
    any_right (a ∷ as') bs P h = inr (any_right as' bs P h)

    -- the way on which the result is its truth is there
    way_lands : (at m a : ℕ) (x : Bool) (r : AbstractValue) (w : Value) (f : Fact) (s : State) → at < m → IsAt c m a → s.result ≡ Some w → FitsValue s.variables rs r w → w.number ≡ number_of x → Fits rs f s → AnyWay (way_to m (way_where x r f)) (λ way. Arrives at s.taken way (record s { address = a }))
    way_lands at m a x r w f s forward is_at is value bit fits = go
      where
        set : Consequences
        set = if x then r.where_true else r.where_false

        holds : (y : Bool) → w.number ≡ number_of y → Hold s.variables rs (if y then r.where_true else r.where_false)
        holds true e = value.where_true e
        holds false e = value.where_false e

        fact : Fits rs (under set f) s
        fact = under_fits rs set f s fits (holds x bit)

        member : has_member (number_of x) r.span ≡ true
        member = member_in r.span (number_of x) (subst (λ (n : ℤ). IsIn r.span n) bit value.span)

        full : any_empty (under set f).variables ≡ false
        full = none_empty (under set f).variables (slice_get s.variables) fact.variables

        full' : any_empty (under set f).inputs ≡ false
        full' = none_empty (under set f).inputs (λ i. reading_number (slice_get rs i)) fact.inputs

        known : FitsValue s.variables rs (record r { span = only (number_of x) }) w
        known = record { kind = value.kind; span = subst (λ (n : ℤ). IsIn (only (number_of x)) n) (sym bit) (≤ℤ_refl (number_of x), ≤ℤ_refl (number_of x)); of_type = value.of_type; origin = value.origin; where_true = value.where_true; where_false = value.where_false }

        go : AnyWay (way_to m (way_where x r f)) (λ way. Arrives at s.taken way (record s { address = a }))
        go = rw (member, full, full') (inl (record {
          forward = forward;
          kept = refl;
          is_at = is_at;
          fits = record {
            variables = fact.variables;
            inputs = fact.inputs;
            present = fact.present;
            deferred = fact.deferred;
            result = subst (λ (o : Option Value). FitsResult s.variables rs (Some (record r { span = only (number_of x) })) o) (sym is) known;
          };
        }))

    by_later : {B : Type 0} (at : ℕ) (o : Option ℕ) (k : ℕ → Result B RefusalKind) (P : B → Type 0) → ((n : ℕ) → o ≡ Some n → at < n → Yields (k n) P) → Yields (later at o >>= k) P
    by_later at None k P h = record { yields = λ b e. absurd (cc) }
    by_later {B} at (Some n) k P h = go (nat_lt at n) refl
      where
        go : (t : Bool) → nat_lt at n ≡ t → Yields ((if t then Ok n else Err Jump) >>= k) P
        go true e = h n refl (grind arith)
        go false e = record { yields = λ b e. absurd (cc) }

    found_at : (to n : ℕ) → number_at c.listing 0 to ≡ Some n → IsAt c n to
    found_at to n e = let r = number_found c.listing 0 to n e in let p : n ≡ r.0 = omega (arith, r.1) in subst (λ (m : ℕ). IsAt c m to) (sym p) r.2

    ahead : (at n to : ℕ) (s : State) (i : Op) → slice_get c.listing at ≡ Some (s.address, i) → IsAt c n to → at < n → nat_lt s.address to ≡ true
    ahead at n to s i e is_at h = let r = rising image.code 0 c.listing made.whole at n (s.address, i) (to, is_at.0) h e is_at.1 in lt_yes s.address to r

    jump_always : (at next to : ℕ) (f : Fact) (s : State) → ((i : Op) × (slice_get c.listing at ≡ Some (s.address, i))) → IsAt c (at + 1) next → Within c counters s → Fits rs f s → Yields (flow c at (does.Jump when.Always to) f) (λ ways. Lands at s.taken ways (done image rs s.address next (does.Jump when.Always to) s))
    jump_always at next to f s here follows ranges fits = by_later at (number_at c.listing 0 to) _ _ (λ n e h. by_ok _ _ (
        let is_at = found_at to n e in
        let less = ahead at n to s here.0 here.1 is_at h in
        rw less (
          record { variables = ranges.variables; outputs = ranges.outputs; deferred = ranges.deferred; counted = ranges.counted },
          inl (inl (record { forward = h; kept = refl; is_at = is_at; fits = moved_fits f s to s.outputs s.taken fits })),
        )))

    acts_true : (o : Option Value) (r : AbstractValue) (w : Value) (x : Bool) → o ≡ Some w → is_bool r.kind ≡ true → w.kind ≡ r.kind → w.number ≡ number_of x → acts when.IfTrue o ≡ Ok x
    acts_true o r w x is q e bit =
        let t : is_bool w.kind ≡ true = rw e q in
        let y : int_eq w.number (pos 1) ≡ x = ap (λ (n : ℤ). int_eq n (pos 1)) bit ∙ bit_test x in
        rw (is, t, y) refl

    acts_false : (o : Option Value) (r : AbstractValue) (w : Value) (x : Bool) → o ≡ Some w → is_bool r.kind ≡ true → w.kind ≡ r.kind → w.number ≡ number_of x → acts when.IfFalse o ≡ Ok (not x)
    acts_false o r w x is q e bit =
        let t : is_bool w.kind ≡ true = rw e q in
        let y : int_eq w.number (pos 0) ≡ not x = ap (λ (n : ℤ). int_eq n (pos 0)) bit ∙ bit_zero x in
        rw (is, t, y) refl

    stays_in : (s : State) (a : ℕ) → Within c counters s → Within c counters (record s { address = a })
    stays_in s a r = record { variables = r.variables; outputs = r.outputs; deferred = r.deferred; counted = r.counted }

    jump_true : (at next to : ℕ) (f : Fact) (s : State) → ((i : Op) × (slice_get c.listing at ≡ Some (s.address, i))) → IsAt c (at + 1) next → Within c counters s → Fits rs f s → Yields (flow c at (does.Jump when.IfTrue to) f) (λ ways. Lands at s.taken ways (done image rs s.address next (does.Jump when.IfTrue to) s))
    jump_true at next to f s here follows ranges fits = by_bool f (λ r. later at (number_at c.listing 0 to) >>= λ n. Ok (way_to (at + 1) (way_where false r f) ++ way_to n (way_where true r f))) _ (λ r g q. by_later at (number_at c.listing 0 to) (λ n. Ok (way_to (at + 1) (way_where false r f) ++ way_to n (way_where true r f))) _ (λ n e h. by_ok _ _ (
        let is_at = found_at to n e in
        let less = ahead at n to s here.0 here.1 is_at h in
        let w = result_value s.variables f.result s.result r g fits.result in
        let b = bit_value c s.variables rs r w.0 q w.2 in
        let test = acts_true s.result r w.0 b.0 w.1 q w.2.kind b.1 in
        rw (less, test) (lands r w.0 w.1 w.2 n h is_at b.0 b.1))))
      where
        lands : (r : AbstractValue) (w : Value) → s.result ≡ Some w → FitsValue s.variables rs r w → (n : ℕ) → at < n → IsAt c n to → (x : Bool) → w.number ≡ number_of x → Lands at s.taken (way_to (at + 1) (way_where false r f) ++ way_to n (way_where true r f)) (Goes (record s { address = if x then to else next }))
        lands r w is value n h is_at true bit = (stays_in s to ranges, inl (any_right (way_to (at + 1) (way_where false r f)) (way_to n (way_where true r f)) _ (way_lands at n to true r w f s h is_at is value bit fits)))
        lands r w is value n h is_at false bit = (stays_in s next ranges, inl (any_left (way_to (at + 1) (way_where false r f)) (way_to n (way_where true r f)) _ (way_lands at (at + 1) next false r w f s (omega arith) follows is value bit fits)))

    jump_false : (at next to : ℕ) (f : Fact) (s : State) → ((i : Op) × (slice_get c.listing at ≡ Some (s.address, i))) → IsAt c (at + 1) next → Within c counters s → Fits rs f s → Yields (flow c at (does.Jump when.IfFalse to) f) (λ ways. Lands at s.taken ways (done image rs s.address next (does.Jump when.IfFalse to) s))
    jump_false at next to f s here follows ranges fits = by_bool f (λ r. later at (number_at c.listing 0 to) >>= λ n. Ok (way_to (at + 1) (way_where true r f) ++ way_to n (way_where false r f))) _ (λ r g q. by_later at (number_at c.listing 0 to) (λ n. Ok (way_to (at + 1) (way_where true r f) ++ way_to n (way_where false r f))) _ (λ n e h. by_ok _ _ (
        let is_at = found_at to n e in
        let less = ahead at n to s here.0 here.1 is_at h in
        let w = result_value s.variables f.result s.result r g fits.result in
        let b = bit_value c s.variables rs r w.0 q w.2 in
        let test = acts_false s.result r w.0 b.0 w.1 q w.2.kind b.1 in
        rw (less, test) (lands r w.0 w.1 w.2 n h is_at b.0 b.1))))
      where
        lands : (r : AbstractValue) (w : Value) → s.result ≡ Some w → FitsValue s.variables rs r w → (n : ℕ) → at < n → IsAt c n to → (x : Bool) → w.number ≡ number_of x → Lands at s.taken (way_to (at + 1) (way_where true r f) ++ way_to n (way_where false r f)) (Goes (record s { address = if not x then to else next }))
        lands r w is value n h is_at false bit = (stays_in s to ranges, inl (any_right (way_to (at + 1) (way_where true r f)) (way_to n (way_where false r f)) _ (way_lands at n to false r w f s h is_at is value bit fits)))
        lands r w is value n h is_at true bit = (stays_in s next ranges, inl (any_left (way_to (at + 1) (way_where true r f)) (way_to n (way_where false r f)) _ (way_lands at (at + 1) next true r w f s (omega arith) follows is value bit fits)))

    return_true : (at next : ℕ) (f : Fact) (s : State) → IsAt c (at + 1) next → Within c counters s → Fits rs f s → Yields (flow c at (does.Return when.IfTrue) f) (λ ways. Lands at s.taken ways (done image rs s.address next (does.Return when.IfTrue) s))
    return_true at next f s follows ranges fits = by_bool f (λ r. Ok (way_to (at + 1) (way_where false r f))) _ (λ r g q. by_ok _ _ (
        let w = result_value s.variables f.result s.result r g fits.result in
        let b = bit_value c s.variables rs r w.0 q w.2 in
        let test = acts_true s.result r w.0 b.0 w.1 q w.2.kind b.1 in
        rw test (lands r w.0 w.1 w.2 b.0 b.1)))
      where
        lands : (r : AbstractValue) (w : Value) → s.result ≡ Some w → FitsValue s.variables rs r w → (x : Bool) → w.number ≡ number_of x → Lands at s.taken (way_to (at + 1) (way_where false r f)) (if x then Ends s else Goes (record s { address = next }))
        lands r w is value true bit = ranges
        lands r w is value false bit = (stays_in s next ranges, inl (way_lands at (at + 1) next false r w f s (omega arith) follows is value bit fits))

    return_false : (at next : ℕ) (f : Fact) (s : State) → IsAt c (at + 1) next → Within c counters s → Fits rs f s → Yields (flow c at (does.Return when.IfFalse) f) (λ ways. Lands at s.taken ways (done image rs s.address next (does.Return when.IfFalse) s))
    return_false at next f s follows ranges fits = by_bool f (λ r. Ok (way_to (at + 1) (way_where true r f))) _ (λ r g q. by_ok _ _ (
        let w = result_value s.variables f.result s.result r g fits.result in
        let b = bit_value c s.variables rs r w.0 q w.2 in
        let test = acts_false s.result r w.0 b.0 w.1 q w.2.kind b.1 in
        rw test (lands r w.0 w.1 w.2 b.0 b.1)))
      where
        lands : (r : AbstractValue) (w : Value) → s.result ≡ Some w → FitsValue s.variables rs r w → (x : Bool) → w.number ≡ number_of x → Lands at s.taken (way_to (at + 1) (way_where true r f)) (if not x then Ends s else Goes (record s { address = next }))
        lands r w is value false bit = ranges
        lands r w is value true bit = (stays_in s next ranges, inl (way_lands at (at + 1) next true r w f s (omega arith) follows is value bit fits))

    -- counted jumps
    by_earlier : {B : Type 0} (at : ℕ) (o : Option ℕ) (k : ℕ → Result B RefusalKind) (P : B → Type 0) → ((n : ℕ) → o ≡ Some n → n ≤ at → Yields (k n) P) → Yields (earlier at o >>= k) P
    by_earlier at None k P h = record { yields = λ b e. absurd (cc) }
    by_earlier {B} at (Some n) k P h = go (nat_lt at n) refl
      where
        go : (t : Bool) → nat_lt at n ≡ t → Yields ((if t then Err Jump else Ok n) >>= k) P
        go true e = record { yields = λ b e. absurd (cc) }
        go false e = h n refl (grind arith)

    by_tested : {B : Type 0} (condition : Condition) (f : Fact) (s : State) (k : Bool → Result B RefusalKind) (P : B → Type 0) → FitsResult s.variables rs f.result s.result → ((b : Bool) → acts condition s.result ≡ Ok b → Yields (k true) P) → Yields (tested condition f >>= k) P
    by_tested when.Always f s k P fits h = h true refl
    by_tested when.IfTrue f s k P fits h = by_then (bool_result f >>= λ r. Ok true) k (λ t. (t ≡ true) × ((b : Bool) × (acts when.IfTrue s.result ≡ Ok b))) P
        (by_bool f (λ r. Ok true) _ (λ r g q. by_ok true _ (
        let w = result_value s.variables f.result s.result r g fits in
        let b = bit_value c s.variables rs r w.0 q w.2 in
        (refl, (b.0, acts_true s.result r w.0 b.0 w.1 q w.2.kind b.1)))))
        (λ a x. subst (λ (t : Bool). Yields (k t) P) (sym x.0) (h x.1.0 x.1.1))
    by_tested when.IfFalse f s k P fits h = by_then (bool_result f >>= λ r. Ok true) k (λ t. (t ≡ true) × ((b : Bool) × (acts when.IfFalse s.result ≡ Ok b))) P
        (by_bool f (λ r. Ok true) _ (λ r g q. by_ok true _ (
        let w = result_value s.variables f.result s.result r g fits in
        let b = bit_value c s.variables rs r w.0 q w.2 in
        (refl, (not b.0, acts_false s.result r w.0 b.0 w.1 q w.2.kind b.1)))))
        (λ a x. subst (λ (t : Bool). Yields (k t) P) (sym x.0) (h x.1.0 x.1.1))

    behind : (at n to : ℕ) (s : State) (i : Op) → slice_get c.listing at ≡ Some (s.address, i) → IsAt c n to → n ≤ at → nat_le to s.address ≡ true
    behind at n to s i e is_at h = le_yes to s.address (by_same {P = to ≤ s.address} n at
        (λ same. let p : ◌≡◌ {A = Option (ℕ × Op)} (Some (to, is_at.0)) (Some (s.address, i)) = sym is_at.1 ∙ ap (slice_get c.listing) same ∙ e in omega (arith, first_is _ _ _ _ p))
        (λ other. let l : n < at = omega arith in let r = rising image.code 0 c.listing made.whole n at (to, is_at.0) (s.address, i) l is_at.1 e in omega arith))

    repeat_lands : (at next : ℕ) (condition : Condition) (k limit to : ℕ) (f : Fact) (s : State) → slice_get c.listing at ≡ Some (s.address, does.Repeat condition k limit to) → IsAt c (at + 1) next → (image.version ≡ 2) × (k < counters) → Within c counters s → Fits rs f s → Yields (flow c at (does.Repeat condition k limit to) f) (λ ways. Lands at s.taken ways (done image rs s.address next (does.Repeat condition k limit to) s))
    repeat_lands at next condition k limit to f s here follows placed ranges fits =
        by_check _ _ (λ x. tested condition f >>= λ y. earlier at (number_at c.listing 0 to) >>= λ z. goes_on (at + 1) f) _ (λ empty.
        by_tested condition f s (λ y. earlier at (number_at c.listing 0 to) >>= λ z. goes_on (at + 1) f) _ fits.result (λ b acting.
        by_earlier at (number_at c.listing 0 to) (λ z. goes_on (at + 1) f) _ (λ n e h. by_ok _ _ (
        let is_at = found_at to n e in
        let new : nat_eq image.version 2 ≡ true = rw placed.0 refl in
        let back = behind at n to s _ here is_at h in
        let count = slice_get-get_or s.taken k 0 (omega (arith, placed.1, ranges.counted)) in
        rw (new, back, acting, count) (lands n is_at (none_wait c rs f.deferred s.deferred s.variables empty fits.deferred) b (get_or s.taken k 0) count)))))
      where
        on : Lands at s.taken ((at + 1, f) ∷ []) (Goes (record s { address = next }))
        on = (stays_in s next ranges, inl (inl (record { forward = omega arith; kept = refl; is_at = follows; fits = moved_fits f s next s.outputs s.taken fits })))

        less : (m : ℕ) → nat_lt m limit ≡ true → m < limit
        less m e = grind arith

        taken : (n : ℕ) → IsAt c n to → s.deferred ≡ [] → (m : ℕ) → slice_get s.taken k ≡ Some m → (t : Bool) → nat_lt m limit ≡ t → Lands at s.taken ((at + 1, f) ∷ []) (if t then Goes (record s { address = to; taken = slice_set s.taken k (m + 1) }) else Goes (record s { address = next }))
        taken n is_at none m was true under' = (
          record { variables = ranges.variables; outputs = ranges.outputs; deferred = ranges.deferred; counted = length-set s.taken k (m + 1) ∙ ranges.counted },
          inr (record { at = at; here = s.address; condition = condition; counter = k; limit = limit; number = n; is_at = is_at; listed = here; count = m; was = was; below = less m under'; now = refl }, none),
        )
        taken n is_at none m was false under' = on

        lands : (n : ℕ) → IsAt c n to → s.deferred ≡ [] → (b : Bool) (m : ℕ) → slice_get s.taken k ≡ Some m → Lands at s.taken ((at + 1, f) ∷ []) (counted next k limit to s b (Some m))
        lands n is_at none false m was = on
        lands n is_at none true m was = taken n is_at none m was (nat_lt m limit) refl

    next_is : (at next : ℕ) (i : Op) → (i ≡ does.End → ⊥) → (i ≡ does.End) ⊎ IsAt c (suc at) next → IsAt c (at + 1) next
    next_is at next i n (inl e) = absurd (n e)
    next_is at next i n (inr h) = let p : suc at ≡ at + 1 = omega arith in subst (λ (m : ℕ). IsAt c m next) p h

    -- the heart: where flow doesn't refuse, the machine goes on one of its ways, or ends
    pub instruction_lands : (at next : ℕ) (i : Op) (f : Fact) (s : State) → slice_get c.listing at ≡ Some (s.address, i) → (i ≡ does.End) ⊎ IsAt c (suc at) next → IsPlaced image c counters i → Within c counters s → Fits rs f s → Yields (flow c at i f) (λ ways. Lands at s.taken ways (done image rs s.address next i s))
    instruction_lands at next does.End f s here follows placed ranges fits = by_ok _ _ ranges
    instruction_lands at next (does.LoadVariable v) f s here follows placed ranges fits = load_variable at next v f s (next_is at next _ (λ e. cc) follows) ranges fits
    instruction_lands at next (does.LoadInput t) f s here follows placed ranges fits = load_input at next t f s (next_is at next _ (λ e. cc) follows) placed ranges fits
    instruction_lands at next (does.LoadPresence t) f s here follows placed ranges fits = load_presence at next t f s (next_is at next _ (λ e. cc) follows) placed ranges fits
    instruction_lands at next (does.LoadBool b) f s here follows placed ranges fits = load_bool at next b f s (next_is at next _ (λ e. cc) follows) ranges fits
    instruction_lands at next (does.LoadNumber k n) f s here follows placed ranges fits = load_number at next k n f s (next_is at next _ (λ e. cc) follows) placed ranges fits
    instruction_lands at next (does.StoreVariable v) f s here follows placed ranges fits = store_variable at next v f s (next_is at next _ (λ e. cc) follows) ranges fits
    instruction_lands at next (does.StoreOutput t) f s here follows placed ranges fits = store_output at next t f s (next_is at next _ (λ e. cc) follows) placed ranges fits
    instruction_lands at next (does.SetVariable v) f s here follows placed ranges fits = set_variable at next v f s (next_is at next _ (λ e. cc) follows) ranges fits
    instruction_lands at next (does.ResetVariable v) f s here follows placed ranges fits = reset_variable at next v f s (next_is at next _ (λ e. cc) follows) ranges fits
    instruction_lands at next (does.SetOutput t) f s here follows placed ranges fits = set_output at next t f s (next_is at next _ (λ e. cc) follows) placed ranges fits
    instruction_lands at next (does.ResetOutput t) f s here follows placed ranges fits = reset_output at next t f s (next_is at next _ (λ e. cc) follows) placed ranges fits
    instruction_lands at next does.Push f s here follows placed ranges fits = push at next f s (next_is at next _ (λ e. cc) follows) ranges fits
    instruction_lands at next does.Not f s here follows placed ranges fits = not_lands at next f s (next_is at next _ (λ e. cc) follows) ranges fits
    instruction_lands at next (does.Apply o) f s here follows placed ranges fits = apply_lands at next o f s (next_is at next _ (λ e. cc) follows) ranges fits
    instruction_lands at next does.Select f s here follows placed ranges fits = select_lands at next f s (next_is at next _ (λ e. cc) follows) ranges fits
    instruction_lands at next does.Absolute f s here follows placed ranges fits = absolute_lands at next f s (next_is at next _ (λ e. cc) follows) ranges fits
    instruction_lands at next (does.Convert from to) f s here follows placed ranges fits = convert_lands at next from to f s (next_is at next _ (λ e. cc) follows) ranges fits
    instruction_lands at next (does.Jump when.Always to) f s here follows placed ranges fits = jump_always at next to f s (does.Jump when.Always to, here) (next_is at next _ (λ e. cc) follows) ranges fits
    instruction_lands at next (does.Jump when.IfTrue to) f s here follows placed ranges fits = jump_true at next to f s (does.Jump when.IfTrue to, here) (next_is at next _ (λ e. cc) follows) ranges fits
    instruction_lands at next (does.Jump when.IfFalse to) f s here follows placed ranges fits = jump_false at next to f s (does.Jump when.IfFalse to, here) (next_is at next _ (λ e. cc) follows) ranges fits
    instruction_lands at next (does.Return when.Always) f s here follows placed ranges fits = by_ok _ _ ranges
    instruction_lands at next (does.Return when.IfTrue) f s here follows placed ranges fits = return_true at next f s (next_is at next _ (λ e. cc) follows) ranges fits
    instruction_lands at next (does.Return when.IfFalse) f s here follows placed ranges fits = return_false at next f s (next_is at next _ (λ e. cc) follows) ranges fits
    instruction_lands at next (does.Repeat condition k limit to) f s here follows placed ranges fits = repeat_lands at next condition k limit to f s here (next_is at next _ (λ e. cc) follows) placed ranges fits
