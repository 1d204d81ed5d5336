-- The order of the writes of a scan, one turn more.
use Rattle.std.proofs.Common.{◌≡◌, ℕ, zero, suc, ◌+◌, ◌<◌, ◌≤◌, Bool, true, false, List, [], ◌∷◌, ◌++◌, length, map, take, drop, get_or, Option, None, Some, Result, refl, sym, ap, ◌∙◌, subst, arith, append_assoc, length-append}
use Rattle.std.specs.Prelude.{⊤, if◌then◌else◌, slice_get, count_by}
use Rattle.std.specs.Option.{option_map_or, option_to_list}
use Rattle.std.proofs.lemmas.List.{append-nil, drop_all, length-map}
use Rattle.modbus_frame.specs.declared.link.LinkFault.{LinkFault}
use Rattle.site_model.specs.declared.site.Site.{Site}
use Rattle.site_model.specs.declared.tag.SiteTag.{SiteTag}
use Rattle.site_model.specs.TagView.{companion_at}
use Rattle.point_writer.specs.declared.write.Write.{Write}
use Rattle.point_writer.specs.declared.write.NoWrite.{NoWrite}
use Rattle.gateway.specs.declared.poller.outcome.Outcome.{Outcome}
use Rattle.gateway.specs.poller.LinkRun.{Exchange}
use Rattle.gateway.specs.poller.Polling.{Polling, Talks}
use Rattle.gateway.specs.poller.Cycle.{Turn, ArePlans, StopsAt, StopsWriting, TakesTurns, WritesBy, WritesPoint, WritesUpTo, after_turn, first_order, going_with, is_refusal, is_refused, is_taken, is_taken_by, most_outputs, outputs_with, same_tag, write_of}
use Rattle.gateway.proofs.Blocks.{counted_by, count_by-append, take_one_more}
use Rattle.gateway.proofs.Talking.{talks_none, talks_behind}

-- ---- lists that are cut

module _ {X : Type 0} where
  -- nothing more where there is no room
  pub take_beyond : (n : ℕ) (xs ys : List X) → length xs ≡ n → xs ≡ take n (xs ++ ys)
  take_beyond zero [] ys full = refl
  take_beyond zero (x ∷ xs) ys full = absurd (omega (arith, full))
  take_beyond (suc n) [] ys full = absurd (omega (arith, full))
  take_beyond (suc n) (x ∷ xs) ys full = ap (λ l. x ∷ l) (take_beyond n xs ys (omega (arith, full)))

  -- what was cut may be cut again
  take_twice : (n : ℕ) (xs ys : List X) → take n (take n xs ++ ys) ≡ take n (xs ++ ys)
  take_twice zero xs ys = refl
  take_twice (suc n) [] ys = refl
  take_twice (suc n) (x ∷ xs) ys = ap (λ l. x ∷ l) (take_twice n xs ys)

  -- one more, to the second of two lists
  pub take_more : (n : ℕ) (xs ys : List X) (x : X) → take n (take n (xs ++ ys) ++ x ∷ []) ≡ take n (xs ++ (ys ++ x ∷ []))
  take_more n xs ys x = take_twice n (xs ++ ys) (x ∷ []) ∙ ap (take n) (append_assoc xs ys (x ∷ []))

  pub length_take : (n : ℕ) (xs : List X) → length (take n xs) ≤ n
  length_take zero xs = omega arith
  length_take (suc n) [] = omega arith
  length_take (suc n) (x ∷ xs) = omega (arith, length_take n xs)

  length-take_within : (xs : List X) (i : ℕ) → i < length xs → length (take i xs) ≡ i
  length-take_within xs zero within = refl
  length-take_within [] (suc i) within = absurd (omega (arith, within))
  length-take_within (x ∷ xs) (suc i) within = ap suc (length-take_within xs i (omega (arith, within)))

-- ---- who goes with whom

module _ (tags : List SiteTag) (leader : Option ℕ) where
  abbrev goes : ℕ → Bool
  goes n = same_tag leader (companion_at tags n)

  abbrev if_goes : Bool → ℕ → List ℕ
  if_goes b i = if b then i ∷ [] else []

  going_cons : (b : Bool) (a : ℕ) (xs ys zs : List ℕ) → ys ≡ xs ++ zs → (if b then a ∷ ys else ys) ≡ (if b then a ∷ xs else xs) ++ zs
  going_cons true a xs ys zs h = ap (λ l. a ∷ l) h
  going_cons false a xs ys zs h = h

  pub going_more : (a : ℕ) (ns : List ℕ) (n : ℕ) → going_with tags leader a (ns ++ n ∷ []) ≡ going_with tags leader a ns ++ if_goes (goes n) (a + length ns)
  going_more a [] n =
      let same : a ≡ a + 0 = omega arith in
      ap (λ k. if_goes (goes n) k) same
  going_more a (m ∷ ms) n =
      let same : (a + 1) + length ms ≡ a + suc (length ms) = omega arith in
      going_cons (goes m) a (going_with tags leader (a + 1) ms) (going_with tags leader (a + 1) (ms ++ n ∷ [])) (if_goes (goes n) (a + suc (length ms)))
      (going_more (a + 1) ms n ∙ ap (λ k. going_with tags leader (a + 1) ms ++ if_goes (goes n) k) same)

  -- the same in their place
  pub going_at : (ns : List ℕ) (i n : ℕ) → i < length ns → n ≡ get_or ns i n → (b : Bool) → goes n ≡ b → going_with tags leader 0 (take (i + 1) ns) ≡ going_with tags leader 0 (take i ns) ++ if_goes b i
  going_at ns i n within is b same =
      let here : 0 + length (take i ns) ≡ i = omega (arith, length-take_within ns i within) in
      ap (going_with tags leader 0) (take_one_more ns i n within is) ∙ going_more 0 (take i ns) n ∙ ap (λ k. going_with tags leader 0 (take i ns) ++ if_goes (goes n) k) here ∙ ap (λ x. going_with tags leader 0 (take i ns) ++ if_goes x i) same

-- ---- which outputs there are

-- each is below this number
abbrev pub AreBelow : ℕ → List ℕ → Type 0
AreBelow n [] = ⊤
AreBelow n (x ∷ xs) = (x < n) × AreBelow n xs

below_append : (n : ℕ) (xs ys : List ℕ) → AreBelow n xs → AreBelow n ys → AreBelow n (xs ++ ys)
below_append n [] ys a b = b
below_append n (x ∷ xs) ys a b = (a.0, below_append n xs ys a.1 b)

below_take : (n k : ℕ) (xs : List ℕ) → AreBelow n xs → AreBelow n (take k xs)
below_take n zero xs h = tt
below_take n (suc k) [] h = tt
below_take n (suc k) (x ∷ xs) h = (h.0, below_take n k xs h.1)

pub below_at : (n : ℕ) (xs : List ℕ) (k x : ℕ) → AreBelow n xs → slice_get xs k ≡ Some x → x < n
below_at n [] k x h e = absurd (cc)
below_at n (y ∷ ys) zero x h e =
    let same : y ≡ x = cc in
    subst (λ z. z < n) same h.0
below_at n (y ∷ ys) (suc k) x h e = below_at n ys k x h.1 e

pub none_past : (xs : List ℕ) (k : ℕ) → slice_get xs k ≡ None → length xs ≤ k
none_past [] k e = omega arith
none_past (x ∷ xs) zero e = absurd (cc)
none_past (x ∷ xs) (suc k) e = omega (arith, none_past xs k e)

going_below : (tags : List SiteTag) (leader : Option ℕ) (n a : ℕ) (ns : List ℕ) → a + length ns ≤ n → AreBelow n (going_with tags leader a ns)
going_below tags leader n a [] h = tt
going_below tags leader n a (m ∷ ms) h = go (same_tag leader (companion_at tags m)) (going_below tags leader n (a + 1) ms (omega (arith, h)))
  where
    go : (b : Bool) → AreBelow n (going_with tags leader (a + 1) ms) → AreBelow n (if b then a ∷ going_with tags leader (a + 1) ms else going_with tags leader (a + 1) ms)
    go true rest = (omega (arith, h), rest)
    go false rest = rest

module _ (site : Site) where
  abbrev AreOutputs : List ℕ → Type 0
  AreOutputs = AreBelow (length site.outs)

  outputs_below : (leader : Option ℕ) → AreOutputs (outputs_with site leader)
  outputs_below leader = going_below site.tags leader (length site.outs) 0 site.outs (omega arith)

  first_below : AreOutputs (first_order site)
  first_below = below_take (length site.outs) most_outputs (outputs_with site None) (outputs_below None)

  after_few : (order : List ℕ) (output : ℕ) (taken : Bool) → length order ≤ most_outputs → length (after_turn site order output taken) ≤ most_outputs
  after_few order output false h = h
  after_few order output true h = go (slice_get site.outs output)
    where
      go : (o : Option ℕ) → length (option_map_or (λ number. take most_outputs (order ++ outputs_with site (Some number))) o order) ≤ most_outputs
      go None = h
      go (Some number) = length_take most_outputs (order ++ outputs_with site (Some number))

  after_below : (order : List ℕ) (output : ℕ) (taken : Bool) → AreOutputs order → AreOutputs (after_turn site order output taken)
  after_below order output false h = h
  after_below order output true h = go (slice_get site.outs output)
    where
      go : (o : Option ℕ) → AreOutputs (option_map_or (λ number. take most_outputs (order ++ outputs_with site (Some number))) o order)
      go None = h
      go (Some number) = below_take (length site.outs) most_outputs (order ++ outputs_with site (Some number)) (below_append (length site.outs) order (outputs_with site (Some number)) h (outputs_below (Some number)))

  -- ---- turns

  -- the order after some turns
  abbrev pub order_by : List ℕ → List Turn → List ℕ
  order_by order [] = order
  order_by order (turn ∷ turns) = order_by (after_turn site order turn.output (is_taken turn.calls)) turns

  order_more : (order : List ℕ) (turns : List Turn) (turn : Turn) → order_by order (turns ++ turn ∷ []) ≡ after_turn site (order_by order turns) turn.output (is_taken turn.calls)
  order_more order [] turn = refl
  order_more order (t ∷ ts) turn = order_more (after_turn site order t.output (is_taken t.calls)) ts turn

  turns_more : (order : List ℕ) (k : ℕ) (turns : List Turn) (es : List Exchange) (left : List ℕ) (turn : Turn) (now : ℕ) → TakesTurns site order k turns es left → now ≡ k + length turns
      → slice_get (order_by order turns) now ≡ Some turn.output → WritesBy (write_of site.devices turn.plan) turn.calls
      → TakesTurns site order k (turns ++ turn ∷ []) (es ++ turn.calls) (drop (now + 1) (order_by order (turns ++ turn ∷ [])))
  turns_more order k [] es left turn now so_far here next goes =
      let same : now ≡ k = omega (arith, here) in (
        [],
        ap (λ l. l ++ turn.calls) so_far.0 ∙ sym (append-nil turn.calls),
        subst (λ n. slice_get order n ≡ Some turn.output) same next,
        goes,
        (refl, ap (λ n. drop (n + 1) (after_turn site order turn.output (is_taken turn.calls))) same),
      )
  turns_more order k (t ∷ ts) es left turn now (others, all, is, went, rest) here next goes =
      (others ++ turn.calls, ap (λ l. l ++ turn.calls) all ∙ append_assoc t.calls others turn.calls, is, went, turns_more (after_turn site order t.output (is_taken t.calls)) (k + 1) ts others left turn now rest (omega (arith, here)) next goes)

-- the next in its place
pub drop_at : (order : List ℕ) (k output : ℕ) → slice_get order k ≡ Some output → drop k order ≡ output ∷ drop (suc k) order
drop_at [] k output e = absurd (cc)
drop_at (x ∷ xs) zero output e =
    let same : x ≡ output = cc in
    ap (λ y. y ∷ xs) same
drop_at (x ∷ xs) (suc k) output e = drop_at xs k output e

-- what came of a turn
same_taken : (es : List Exchange) (o : Option Outcome) → map (λ (e : Exchange). e.outcome) es ≡ option_to_list o → is_taken es ≡ is_taken_by o
same_taken [] None h = refl
same_taken [] (Some o) h = absurd (cc)
same_taken (e ∷ es) None h = absurd (cc)
same_taken (e ∷ es) (Some o) h =
    let same : e.outcome ≡ o = cc in
    ap (λ x. if is_refusal x then false else true) same

-- ---- the turns so far

-- `Plans` says what is to be written for each output. So many of the outputs in this order had their turn.
module _ {S : Type 0} (Plans : S → ℕ → Result Write NoWrite → Type 0) where
  plans_more : (site : Site) (t : S) (turns : List Turn) (turn : Turn) → ArePlans Plans site t turns → turn.output < length site.outs → Plans t turn.output turn.plan → ArePlans Plans site t (turns ++ turn ∷ [])
  plans_more site t [] turn so_far within next = (within, next, tt)
  plans_more site t (x ∷ xs) turn so_far within next = (so_far.0, so_far.1, plans_more site t xs turn so_far.2 within next)

  pub record TookTurns (site : Site) (k : ℕ) (order : List ℕ) (t : S) (p q : Polling) (writes refused : ℕ) : Type 0 where
    pub turns : List Turn
    pub planned : ArePlans Plans site t turns
    pub es : List Exchange
    pub in_turn : TakesTurns site (first_order site) 0 turns es (drop k order)
    pub ordered : order ≡ order_by site (first_order site) turns
    pub had : length turns ≡ k
    pub talks : Talks p es q
    pub sent : writes ≡ length es
    pub unacknowledged : refused ≡ count_by is_refused es
    pub below : AreBelow (length site.outs) order
    pub few : length order ≤ most_outputs

  -- none so far
  pub turns_none : (site : Site) (order : List ℕ) (t : S) (p : Polling) → p.fault ≡ None → order ≡ first_order site → TookTurns site 0 order t p p 0 0
  turns_none site order t p works first = record {
    turns = [];
    planned = tt;
    es = [];
    in_turn = (refl, first);
    ordered = first;
    had = refl;
    talks = talks_none p works;
    sent = refl;
    unacknowledged = refl;
    below = subst (AreBelow (length site.outs)) (sym first) (first_below site);
    few = subst (λ l. length l ≤ most_outputs) (sym first) (length_take most_outputs (outputs_with site None));
  }

  -- whose turn it is
  pub turn_within : (site : Site) (k : ℕ) (order : List ℕ) (t : S) (p q : Polling) (writes refused output : ℕ) → TookTurns site k order t p q writes refused → slice_get order k ≡ Some output → output < length site.outs
  turn_within site k order t p q writes refused output so_far next = below_at (length site.outs) order k output so_far.below next

  -- one more
  pub turns_then : (site : Site) (k : ℕ) (order new : List ℕ) (t : S) (p m q : Polling) (writes refused output : ℕ) (plan : Result Write NoWrite) (o : Option Outcome) (sent unacknowledged : ℕ)
      → TookTurns site k order t p m writes refused → slice_get order k ≡ Some output → Plans t output plan → WritesPoint (write_of site.devices plan) m o q
      → new ≡ after_turn site order output (is_taken_by o)
      → sent ≡ writes + length (option_to_list o) → unacknowledged ≡ refused + count_by is_refusal (option_to_list o)
      → TookTurns site (k + 1) new t p q sent unacknowledged
  turns_then site k order new t p m q writes refused output plan o sent unacknowledged so_far next planned one after are not =
      let turn : Turn = record { output = output; plan = plan; calls = one.0 } in
      let ordered : new ≡ order_by site (first_order site) (so_far.turns ++ turn ∷ []) =
      after ∙ ap (λ b. after_turn site order output b) (sym (same_taken one.0 o one.2)) ∙ ap (λ l. after_turn site l output (is_taken one.0)) so_far.ordered ∙ sym (order_more site (first_order site) so_far.turns turn) in
      record {
        turns = so_far.turns ++ turn ∷ [];
        planned = plans_more site t so_far.turns turn so_far.planned (turn_within site k order t p m writes refused output so_far next) planned;
        es = so_far.es ++ one.0;
        in_turn = subst (λ l. TakesTurns site (first_order site) 0 (so_far.turns ++ turn ∷ []) (so_far.es ++ one.0) (drop (k + 1) l)) (sym ordered)
            (turns_more site (first_order site) 0 so_far.turns so_far.es (drop k order) turn k so_far.in_turn (omega (arith, so_far.had)) (subst (λ l. slice_get l k ≡ Some output) so_far.ordered next) one.1);
        ordered = ordered;
        had = length-append so_far.turns (turn ∷ []) ∙ ap (λ n. n + 1) so_far.had;
        talks = talks_behind p m q so_far.es one.0 so_far.talks one.3;
        sent = are ∙ ap (λ n. n + length (option_to_list o)) so_far.sent ∙ ap (λ n. length so_far.es + n) (sym (ap length one.2) ∙ length-map one.0 (λ (e : Exchange). e.outcome)) ∙ sym (length-append so_far.es one.0);
        unacknowledged = not ∙ ap (λ n. n + count_by is_refusal (option_to_list o)) so_far.unacknowledged ∙ ap (λ n. count_by is_refused so_far.es + n) (sym (ap (count_by is_refusal) one.2) ∙ counted_by one.0) ∙ sym (count_by-append is_refused so_far.es one.0);
        below = subst (AreBelow (length site.outs)) (sym after) (after_below site order output (is_taken_by o) so_far.below);
        few = subst (λ l. length l ≤ most_outputs) (sym after) (after_few site order output (is_taken_by o) so_far.few);
      }

  up_to : (site : Site) (k : ℕ) (order left : List ℕ) (t : S) (p q : Polling) (writes refused : ℕ) → TookTurns site k order t p q writes refused → drop k order ≡ left → WritesUpTo Plans site left t p q writes refused
  up_to site k order left t p q writes refused so_far is = record {
    turns = so_far.turns;
    planned = so_far.planned;
    es = so_far.es;
    in_turn = subst (λ l. TakesTurns site (first_order site) 0 so_far.turns so_far.es l) is so_far.in_turn;
    talks = so_far.talks;
    sent = so_far.sent;
    unacknowledged = so_far.unacknowledged;
  }

  -- all had theirs
  pub turns_over : (site : Site) (k : ℕ) (order : List ℕ) (t : S) (p q : Polling) (writes refused : ℕ) → TookTurns site k order t p q writes refused → length order ≤ k → WritesUpTo Plans site [] t p q writes refused
  turns_over site k order t p q writes refused so_far over = up_to site k order [] t p q writes refused so_far (drop_all k order over)

  -- the link failed at one
  pub turns_stop : (site : Site) (k : ℕ) (order : List ℕ) (t : S) (p m q : Polling) (writes refused output : ℕ) (plan : Result Write NoWrite) (fault : LinkFault)
      → TookTurns site k order t p m writes refused → slice_get order k ≡ Some output → Plans t output plan → StopsAt (write_of site.devices plan) m fault q → StopsWriting Plans site t p fault q
  turns_stop site k order t p m q writes refused output plan fault so_far next planned stops = record {
    output = output;
    within = turn_within site k order t p m writes refused output so_far next;
    left = drop (suc k) order;
    middle = m;
    writes = writes;
    refused = refused;
    written = up_to site k order (output ∷ drop (suc k) order) t p m writes refused so_far (drop_at order k output next);
    plan = plan;
    planned = planned;
    stops = stops;
  }
