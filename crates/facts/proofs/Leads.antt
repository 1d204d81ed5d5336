-- Where flow leads: to the next instruction, or to a jump's target.
use Rattle.std.proofs.Common.{◌≡◌, ℕ, ◌+◌, ◌⊎◌, inl, inr, List, [], ◌∷◌, ◌++◌, length, Result, Ok, Err, Option, Some, None, slice_get, Bool, true, false, ◌&&◌, nat_eq, nat_lt, pos, refl, if◌then◌else◌}
use Rattle.point_types.specs.declared.operator.Condition.TheVariants as when
use Rattle.scan_code.specs.declared.op.Op.{Op}
use Rattle.scan_code.specs.declared.op.Op.TheVariants as does
use Rattle.point_types.specs.Value.{is_bool, ◌>>=◌}
use Rattle.facts.specs.Span.{Between, has_member, lies_in}
use Rattle.facts.specs.Fact.{Fact, AbstractValue, OfInput}
use Rattle.facts.specs.Flow.{on_result, Context, Way, Flow, flow, need, check, goes_on, with_value, source_value, stored_fact, widened, selected_known, applied_known, absolute_known, converted_known, inverted_known, bool_result, later, earlier, tested, number_at, way_to, way_where}
use Rattle.facts.specs.declared.refusal.RefusalKind.{RefusalKind}
use Rattle.facts.specs.declared.refusal.RefusalKind.TheVariants.{Jump, NoResult, WrongType, StoreRange, Stack}
use Rattle.facts.proofs.Values.{Yields, by_ok, by_bind, by_need, by_check, by_first}

abbrev pub Leads : Context → ℕ → Op → ℕ → Type 0
Leads c at does.End m = ⊥
Leads c at (does.Return when.Always) m = ⊥
Leads c at (does.Jump when.Always to) m = number_at c.listing 0 to ≡ Some m
Leads c at (does.Jump other to) m = (m ≡ at + 1) ⊎ (number_at c.listing 0 to ≡ Some m)
Leads c at other m = m ≡ at + 1

abbrev pub AllWays : List Way → (ℕ → Type 0) → Type 0
AllWays [] P = Unit {0}
AllWays (w ∷ ways) P = P w.0 × AllWays ways P

all_append : (as' bs : List Way) (P : ℕ → Type 0) → AllWays as' P → AllWays bs P → AllWays (as' ++ bs) P
all_append [] bs P h k = k
all_append (a ∷ as') bs P h k = (h.0, all_append as' bs P h.1 k)

all_to : (m : ℕ) (f : Option Fact) (P : ℕ → Type 0) → P m → AllWays (way_to m f) P
all_to m None P h = tt
all_to m (Some f) P h = (h, tt)

module _ (c : Context) where
  -- one way, to the next instruction
  on : (at : ℕ) (f : Fact) → Yields {E = RefusalKind} (Ok ((at + 1, f) ∷ [])) (λ ways. AllWays ways (λ m. m ≡ at + 1))
  on at f = by_ok _ _ (refl, tt)

  by_later : (at : ℕ) (o : Option ℕ) (k : ℕ → Flow) (P : List Way → Type 0) → ((n : ℕ) → o ≡ Some n → Yields (k n) P) → Yields (later at o >>= k) P
  by_later at o k P h = by_bind (later at o) k P (λ a e. h a (from o e))
    where
      from : {a : ℕ} (p : Option ℕ) → later at p ≡ Ok a → p ≡ Some a
      from None e = absurd (cc)
      from {a} (Some n) e = go (nat_lt at n) e
        where
          go : (t : Bool) → (if t then Ok n else Err Jump) ≡ Ok a → Some n ≡ Some a
          go true f = cc
          go false f = absurd (cc)

  one : (at : ℕ) (f : Fact) (make : AbstractValue → Result AbstractValue RefusalKind) → Yields (on_result f make (at + 1)) (λ ways. AllWays ways (λ m. m ≡ at + 1))
  one at f make = by_bind (need NoResult f.result >>= make) _ _ (λ v e. on at (with_value f v))

  pub flow_leads : (at : ℕ) (i : Op) (f : Fact) → Yields (flow c at i f) (λ ways. AllWays ways (Leads c at i))
  flow_leads at does.End f = by_ok _ _ tt
  flow_leads at (does.LoadVariable v) f = by_need _ (slice_get c.variables v) _ _ (λ d e. by_need _ (slice_get f.variables v) _ _ (λ p g. on at _))
  flow_leads at (does.LoadInput t) f = by_need _ (slice_get c.tags t) _ _ (λ r e. by_need _ (slice_get f.inputs t) _ _ (λ p g. by_need _ (slice_get f.present t) _ _ (λ here l. by_check _ _ (λ x. goes_on (at + 1) (with_value f (source_value c r.kind p (OfInput t)))) _ (λ q. on at _))))
  flow_leads at (does.LoadPresence t) f = on at _
  flow_leads at (does.LoadBool b) f = on at _
  flow_leads at (does.LoadNumber k n) f = on at _
  flow_leads at (does.StoreVariable v) f = by_need _ (slice_get c.variables v) _ _ (λ d e. by_need _ f.result _ _ (λ r g. by_check _ _ (λ x. check StoreRange (lies_in r.span d.low d.high) >>= λ y. goes_on (at + 1) (stored_fact v r f)) _ (λ p. by_check _ _ (λ y. goes_on (at + 1) (stored_fact v r f)) _ (λ q. on at _))))
  flow_leads at (does.StoreOutput t) f = by_need _ (slice_get c.tags t) _ _ (λ d e. by_need _ f.result _ _ (λ r g. by_check _ _ (λ x. check StoreRange (lies_in r.span d.low d.high) >>= λ y. goes_on (at + 1) f) _ (λ p. by_check _ _ (λ y. goes_on (at + 1) f) _ (λ q. on at _))))
  flow_leads at (does.SetVariable v) f = by_need _ (slice_get c.variables v) _ _ (λ d e. by_bind (bool_result f) (λ r. check WrongType (is_bool d.kind) >>= λ y. goes_on (at + 1) (widened v (pos 1) (slice_get f.variables v) f)) _ (λ r g. by_check _ _ (λ y. goes_on (at + 1) (widened v (pos 1) (slice_get f.variables v) f)) _ (λ q. on at _)))
  flow_leads at (does.ResetVariable v) f = by_need _ (slice_get c.variables v) _ _ (λ d e. by_bind (bool_result f) (λ r. check WrongType (is_bool d.kind) >>= λ y. goes_on (at + 1) (widened v (pos 0) (slice_get f.variables v) f)) _ (λ r g. by_check _ _ (λ y. goes_on (at + 1) (widened v (pos 0) (slice_get f.variables v) f)) _ (λ q. on at _)))
  flow_leads at (does.SetOutput t) f = by_need _ (slice_get c.tags t) _ _ (λ d e. by_bind (bool_result f) (λ r. check WrongType (is_bool d.kind) >>= λ x. check StoreRange (has_member (pos 1) (Between d.low d.high)) >>= λ y. goes_on (at + 1) f) _ (λ r g. by_check _ _ (λ x. check StoreRange (has_member (pos 1) (Between d.low d.high)) >>= λ y. goes_on (at + 1) f) _ (λ p. by_check _ _ (λ y. goes_on (at + 1) f) _ (λ q. on at _))))
  flow_leads at (does.ResetOutput t) f = by_need _ (slice_get c.tags t) _ _ (λ d e. by_bind (bool_result f) (λ r. check WrongType (is_bool d.kind) >>= λ x. check StoreRange (has_member (pos 0) (Between d.low d.high)) >>= λ y. goes_on (at + 1) f) _ (λ r g. by_check _ _ (λ x. check StoreRange (has_member (pos 0) (Between d.low d.high)) >>= λ y. goes_on (at + 1) f) _ (λ p. by_check _ _ (λ y. goes_on (at + 1) f) _ (λ q. on at _))))
  flow_leads at does.Push f = by_check Stack (nat_lt (length f.deferred) c.depth && nat_lt (length f.deferred) 128) (λ x. need NoResult f.result >>= λ r. goes_on (at + 1) (record f { result = None; deferred = Some r ∷ f.deferred })) _ (λ p. by_need NoResult f.result (λ r. goes_on (at + 1) (record f { result = None; deferred = Some r ∷ f.deferred })) _ (λ r g. on at (record f { result = None; deferred = Some r ∷ f.deferred })))
  flow_leads at does.Not f = one at f (λ r. check WrongType (is_bool r.kind) >>= λ x. Ok (inverted_known r))
  flow_leads at (does.Apply o) f = by_first f.deferred _ _ (λ top rest e. by_need _ top _ _ (λ d g. by_need _ f.result _ _ (λ r q. by_bind (applied_known c o d r) _ _ (λ v p. on at _))))
  flow_leads at does.Select f = by_first f.deferred _ _ (λ top under e. by_first under _ _ (λ below rest e'. by_need _ below _ _ (λ chooser q. by_need _ top _ _ (λ a p. by_need _ f.result _ _ (λ b l. by_bind (selected_known c chooser a b) _ _ (λ v k. on at _))))))
  flow_leads at does.Absolute f = one at f (absolute_known c)
  flow_leads at (does.Convert from to) f = one at f (converted_known c from to)
  flow_leads at (does.Jump when.Always to) f = by_later at (number_at c.listing 0 to) _ _ (λ n e. by_ok _ _ (e, tt))
  flow_leads at (does.Jump when.IfTrue to) f = by_bind (bool_result f) (λ r. later at (number_at c.listing 0 to) >>= λ n. Ok (way_to (at + 1) (way_where false r f) ++ way_to n (way_where true r f))) _ (λ r g. by_later at (number_at c.listing 0 to) (λ n. Ok (way_to (at + 1) (way_where false r f) ++ way_to n (way_where true r f))) _ (λ n e. by_ok _ _
      (all_append (way_to (at + 1) (way_where false r f)) (way_to n (way_where true r f)) _ (all_to (at + 1) (way_where false r f) _ (inl refl)) (all_to n (way_where true r f) _ (inr e)))))
  flow_leads at (does.Jump when.IfFalse to) f = by_bind (bool_result f) (λ r. later at (number_at c.listing 0 to) >>= λ n. Ok (way_to (at + 1) (way_where true r f) ++ way_to n (way_where false r f))) _ (λ r g. by_later at (number_at c.listing 0 to) (λ n. Ok (way_to (at + 1) (way_where true r f) ++ way_to n (way_where false r f))) _ (λ n e. by_ok _ _
      (all_append (way_to (at + 1) (way_where true r f)) (way_to n (way_where false r f)) _ (all_to (at + 1) (way_where true r f) _ (inl refl)) (all_to n (way_where false r f) _ (inr e)))))
  flow_leads at (does.Return when.Always) f = by_ok _ _ tt
  flow_leads at (does.Return when.IfTrue) f = by_bind (bool_result f) (λ r. Ok (way_to (at + 1) (way_where false r f))) _ (λ r g. by_ok _ _ (all_to (at + 1) (way_where false r f) _ refl))
  flow_leads at (does.Return when.IfFalse) f = by_bind (bool_result f) (λ r. Ok (way_to (at + 1) (way_where true r f))) _ (λ r g. by_ok _ _ (all_to (at + 1) (way_where true r f) _ refl))
  flow_leads at (does.Repeat condition k n to) f = by_check Stack (nat_eq (length f.deferred) 0) (λ x. tested condition f >>= λ y. earlier at (number_at c.listing 0 to) >>= λ z. goes_on (at + 1) f) _ (λ q. by_bind (tested condition f) (λ y. earlier at (number_at c.listing 0 to) >>= λ z. goes_on (at + 1) f) _ (λ x p. by_bind (earlier at (number_at c.listing 0 to)) (λ z. goes_on (at + 1) f) _ (λ z l. on at f)))
