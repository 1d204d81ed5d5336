-- One wanted block more.
use Rattle.std.proofs.Common.{◌≡◌, ℕ, suc, ◌+◌, ◌<◌, Bool, List, [], ◌∷◌, ◌++◌, length, map, take, drop, get_or, Option, None, Some, refl, sym, ap, ◌∙◌, subst, append_assoc, take-append-drop}
use Rattle.std.proofs.Math.Seq.{drop-cons, take-add}
use Rattle.std.proofs.lemmas.List.{append-nil}
use Rattle.std.proofs.lemmas.List.Sums.{sum_by-append}
use Rattle.std.specs.Prelude.{count_by, cond}
use Rattle.modbus_frame.specs.declared.link.LinkFault.{LinkFault}
use Rattle.modbus_frame.specs.declared.message.Request.{Request}
use Rattle.register_map.specs.Layout.{Layout}
use Rattle.site_model.specs.declared.site.Site.{Site}
use Rattle.site_model.specs.declared.want.Want.{Want}
use Rattle.gateway.specs.declared.event_core.event.Event.{Event}
use Rattle.gateway.specs.declared.event_core.event.Answer.{Answer}
use Rattle.gateway.specs.declared.poller.outcome.Outcome.{Outcome}
use Rattle.gateway.specs.declared.poller.cycle.Call.{Call}
use Rattle.gateway.specs.poller.LinkRun.{Exchange}
use Rattle.gateway.specs.poller.Polling.{Polling, Decides, Talks}
use Rattle.gateway.specs.poller.Cycle.{read_of, event_by, is_lost, is_refused, is_refusal, ReadsBlock, ReadsBlocks, TakesBlock, TakesBlocks, StopsAt, StopsTaking, WritesPoint, RunsTo}
use Rattle.gateway.proofs.Talking.{talks_none, talks_first, talks_behind, exchange_of}

-- ---- one call

-- one request alone
pub talks_once : (p q : Polling) (unit : ℕ) (request : Request) (o : Outcome) (one : Decides p unit request o q) → Talks p (exchange_of p unit request o q one ∷ []) q
talks_once p q unit request o one = talks_first p q q unit request o [] one (talks_none q one.fault)

-- a wanted block that was asked for
pub takes_call : (want : Want) (call : Call) (p q : Polling) (o : Outcome) → Decides p call.unit call.request o q → TakesBlock want (Some call) p (event_by want o) q
takes_call want call p q o one =
    (exchange_of p call.unit call.request o q one ∷ [], (exchange_of p call.unit call.request o q one, refl, (refl, refl), refl), talks_once p q call.unit call.request o one)

pub writes_call : (call : Call) (p q : Polling) (o : Outcome) → Decides p call.unit call.request o q → WritesPoint (Some call) p (Some o) q
writes_call call p q o one =
    (exchange_of p call.unit call.request o q one ∷ [], (exchange_of p call.unit call.request o q one, refl, (refl, refl)), refl, talks_once p q call.unit call.request o one)

-- ---- lists

module _ {X : Type 0} where
  from_place : (xs : List X) (i : ℕ) (x : X) → i < length xs → x ≡ get_or xs i x → drop i xs ≡ x ∷ drop (suc i) xs
  from_place xs i x within is = drop-cons xs i x within ∙ ap (λ d. d ∷ drop (suc i) xs) (sym is)

  pub take_one_more : (xs : List X) (i : ℕ) (x : X) → i < length xs → x ≡ get_or xs i x → take (i + 1) xs ≡ take i xs ++ x ∷ []
  take_one_more xs i x within is = take-add i 1 xs ∙ ap (λ l. take i xs ++ take 1 l) (from_place xs i x within is)

  pub split_here : (xs : List X) (i : ℕ) (x : X) → i < length xs → x ≡ get_or xs i x → xs ≡ take i xs ++ x ∷ drop (suc i) xs
  split_here xs i x within is = sym (take-append-drop i xs) ∙ ap (λ l. take i xs ++ l) (from_place xs i x within is)

  pub count_by-append : (p : X → Bool) (xs ys : List X) → count_by p (xs ++ ys) ≡ count_by p xs + count_by p ys
  count_by-append p xs ys = sum_by-append (λ x. cond (p x) 1 0) xs ys

pub counted_by : (es : List Exchange) → count_by is_refusal (map (λ (e : Exchange). e.outcome) es) ≡ count_by is_refused es
counted_by [] = refl
counted_by (e ∷ es) =
    count_by-append is_refusal (e.outcome ∷ []) (map (λ (x : Exchange). x.outcome) es) ∙ ap (λ n. count_by is_refused (e ∷ []) + n) (counted_by es) ∙ sym (count_by-append is_refused (e ∷ []) es)

-- ---- wanted blocks

blocks_more : (site : Site) (maps : List (Option Layout)) (wants : List Want) (es : List Exchange) (events : List Event) (want : Want) (own : List Exchange) (happens : Event)
    → ReadsBlocks site maps wants es events → ReadsBlock want (read_of site maps want) own happens → ReadsBlocks site maps (wants ++ want ∷ []) (es ++ own) (events ++ happens ∷ [])
blocks_more site maps [] es events want own happens so_far one =
    (own, [], happens, [], ap (λ l. l ++ own) so_far.0 ∙ sym (append-nil own), ap (λ l. l ++ happens ∷ []) so_far.1, one, (refl, refl))
blocks_more site maps (w ∷ ws) es events want own happens (first, others, this, more, all, each, is, rest) one =
    (first, others ++ own, this, more ++ happens ∷ [], ap (λ l. l ++ own) all ∙ append_assoc first others own, ap (λ l. l ++ happens ∷ []) each, is, blocks_more site maps ws others more want own happens rest one)

module _ {S : Type 0} (Steps : S → Event → Answer → S → Type 0) where
  runs_more : (s t u : S) (events : List Event) (happens : Event) (answer : Answer) → RunsTo Steps s events t → Steps t happens answer u → RunsTo Steps s (events ++ happens ∷ []) u
  runs_more s t u [] happens answer run step = (answer, u, subst (λ x. Steps x happens answer u) (sym run) step, refl)
  runs_more s t u (e ∷ es) happens answer run step = (run.0, run.1, run.2, runs_more run.1 t u es happens answer run.3 step)

  -- before the first wanted block
  pub takes_none : (site : Site) (maps : List (Option Layout)) (p : Polling) (s : S) → p.fault ≡ None → TakesBlocks Steps site maps [] p s p s 0
  takes_none site maps p s works = record { es = []; events = []; blocks = (refl, refl); talks = talks_none p works; runs = refl; counted = refl }

  -- one more
  pub takes_more : (site : Site) (maps : List (Option Layout)) (i : ℕ) (want : Want) (p m q : Polling) (s t u : S) (lost : ℕ) (happens : Event) (answer : Answer)
      → i < length site.wants → want ≡ get_or site.wants i want → TakesBlocks Steps site maps (take i site.wants) p s m t lost
      → TakesBlock want (read_of site maps want) m happens q → Steps t happens answer u → (now : ℕ) → now ≡ lost + count_by is_lost (happens ∷ [])
      → TakesBlocks Steps site maps (take (i + 1) site.wants) p s q u now
  takes_more site maps i want p m q s t u lost happens answer within is so_far one step now counted =
      let W : List Want → Type 0 = λ ws. TakesBlocks Steps site maps ws p s q u now in
      subst W (sym (take_one_more site.wants i want within is))
      (record {
        es = so_far.es ++ one.0;
        events = so_far.events ++ happens ∷ [];
        blocks = blocks_more site maps (take i site.wants) so_far.es so_far.events want one.0 happens so_far.blocks one.1;
        talks = talks_behind p m q so_far.es one.0 so_far.talks one.2;
        runs = runs_more s t u so_far.events happens answer so_far.runs step;
        counted = counted ∙ ap (λ n. n + count_by is_lost (happens ∷ [])) so_far.counted ∙ sym (count_by-append is_lost so_far.events (happens ∷ []));
      })

  -- the link failed at one
  pub stops_taking : (site : Site) (maps : List (Option Layout)) (i : ℕ) (want : Want) (p m q : Polling) (s t : S) (lost : ℕ) (fault : LinkFault)
      → i < length site.wants → want ≡ get_or site.wants i want → TakesBlocks Steps site maps (take i site.wants) p s m t lost
      → StopsAt (read_of site maps want) m fault q → StopsTaking Steps site maps p s fault q t
  stops_taking site maps i want p m q s t lost fault within is so_far stops = record {
    before = take i site.wants;
    want = want;
    behind = drop (suc i) site.wants;
    split = split_here site.wants i want within is;
    middle = m;
    lost = lost;
    taken = so_far;
    stops = stops;
  }
