-- The reads of a search over a line are requests.
use Rattle.std.proofs.Common.{◌≡◌, inl, inr, ℕ, ◌-◌, ◌<◌, List, [], ◌∷◌, ◌++◌, Option, None, Some, Result, Ok, Err, refl, sym, ap, ◌∙◌, subst, arith}
use Rattle.std.specs.Prelude.{◌⊎◌}
use Rattle.modbus_frame.specs.declared.link.LinkFault.{LinkFault}
use Rattle.modbus_frame.specs.declared.link.LinkFault.TheVariants as link
use Rattle.modbus_frame.specs.declared.message.Request.{Request}
use Rattle.modbus_frame.specs.declared.message.Request.TheVariants.{Read}
use Rattle.modbus_frame.specs.Link.{CountsBy}
use Rattle.modbus_frame.proofs.Sending.{CountsBy-none, CountsBy-trans}
use Rattle.register_map.specs.declared.access.ReadFault.TheVariants.{Failed}
use Rattle.register_map.specs.declared.layout.MapFault.{MapFault}
use Rattle.register_map.specs.declared.layout.MapFault.TheVariants as map
use Rattle.register_map.specs.Layout.{Layout}
use Rattle.register_map.specs.Reads.{Answer, RegisterRead, Runs, TakesNext}
use Rattle.register_map.specs.Search.{IsSearch, all_registers}
use Rattle.gateway.specs.declared.poller.outcome.Outcome.{Outcome}
use Rattle.gateway.specs.poller.LinkRun.{Exchange}
use Rattle.gateway.specs.poller.Polling.{Polling, Decides, Fails, Talks}
use Rattle.gateway.specs.poller.Asking.{Asking, AsksOnce, AsksUnless, Turned}
use Rattle.gateway.specs.poller.Finding.{ReadsLine, AreReadsBy, answer_by, bases_by, Searches, StopsSearch}
use Rattle.gateway.proofs.Searched.{AreSent, search_sent}
use Rattle.gateway.proofs.Talking.{talks_none, talks_first, exchange_of}

-- ---- the reads and writes of a call

pub turned_none : (s : Asking) → Turned s s
turned_none s = record {
  calls = subst (λ n. CountsBy n (s.polling).calls (s.polling).calls) (omega arith) (CountsBy-none (s.polling).calls);
  within = omega arith;
  used = λ is. inl is;
}

used_both : (s u t : Asking) → Turned s u → Turned u t → (t.polling).fault ≡ Some link.Turns → ((s.polling).fault ≡ Some link.Turns) ⊎ (t.turns ≡ 0)
used_both s u t first second is = used_first (second.used is) where
  used_first : ((u.polling).fault ≡ Some link.Turns) ⊎ (t.turns ≡ 0) → ((s.polling).fault ≡ Some link.Turns) ⊎ (t.turns ≡ 0)
  used_first (inr zero) = inr zero
  used_first (inl was) = used_second (first.used was) where
    used_second : ((s.polling).fault ≡ Some link.Turns) ⊎ (u.turns ≡ 0) → ((s.polling).fault ≡ Some link.Turns) ⊎ (t.turns ≡ 0)
    used_second (inl was) = inl was
    used_second (inr zero) = inr (omega (arith, zero, second.within))

pub turned_both : (s u t : Asking) → Turned s u → Turned u t → Turned s t
turned_both s u t first second = record {
  calls = CountsBy-trans (s.turns - u.turns) (u.turns - t.turns) (s.turns - t.turns) (s.polling).calls (u.polling).calls (t.polling).calls first.calls second.calls (omega (arith, first.within, second.within));
  within = omega (arith, first.within, second.within);
  used = used_both s u t first second;
}

-- another unit is asked
pub turned_to : (s t : Asking) (unit : ℕ) → Turned (record s { unit = unit }) t → Turned s t
turned_to s t unit turned = record { calls = turned.calls; within = turned.within; used = turned.used }

used_once : (s u : Asking) (request : Request) (result : Result Outcome LinkFault) → AsksOnce s request result u → (u.polling).fault ≡ Some link.Turns → u.turns ≡ 0
used_once s u request (Ok o) one is = let none = (one.asks).fault in absurd (cc)
used_once s u request (Err fault) one is =
    let kept = (one.asks).kept in
    let same : fault ≡ link.Turns = (cc) in
    one.used (ap Err same)

turned_once : (fault : Option LinkFault) (s u : Asking) (request : Request) (result : Result Outcome LinkFault) → AsksUnless fault s request result u → Turned s u
turned_once None s u request result one = record { calls = one.calls; within = one.within; used = λ is. inr (used_once s u request result one is) }
turned_once (Some fault) s u request result one = subst (Turned s) (sym one.1) (turned_none s)

turned_read : (s u : Asking) (address count : ℕ) (answer : Answer) → ReadsLine s address count answer u → Turned s u
turned_read s u address count answer (inl p) = turned_once (s.polling).fault s u (Read address count) p.0 p.1
turned_read s u address count answer (inr p) = subst (Turned s) (sym p.2) (turned_none s)

pub turned_runs : (s t : Asking) (reads : List RegisterRead) → Runs ReadsLine s reads t → Turned s t
turned_runs s t [] run = subst (Turned s) run (turned_none s)
turned_runs s t (r ∷ rs) run = turned_both s run.0 t (turned_read s run.0 r.address r.count r.answer run.1) (turned_runs run.0 t rs run.2)

-- ---- the requests

-- all reads were decided
abbrev pub AllDecided : Asking → Asking → List RegisterRead → Type 0
AllDecided s t reads = (es : List Exchange) × AreReadsBy s.unit reads es × Talks s.polling es t.polling

-- the link failed at the last one
pub record LastFailed (s t : Asking) (reads : List RegisterRead) (result : Result Layout MapFault) : Type 0 where
  pub front : List RegisterRead
  pub es : List Exchange
  pub address : ℕ
  pub count : ℕ
  pub fault : LinkFault
  pub middle : Polling
  pub all : reads ≡ front ++ record { address = address; count = count; answer = Err Failed } ∷ []
  pub asked : AreReadsBy s.unit front es
  pub talks : Talks s.polling es middle
  pub fails : Fails middle s.unit (Read address count) fault t.polling
  pub unread : result ≡ Err map.Read

decided_more : (s u t : Asking) (r : RegisterRead) (rs : List RegisterRead) (o : Outcome) → Decides s.polling s.unit (Read r.address r.count) o u.polling → u.unit ≡ s.unit → r.answer ≡ answer_by o
    → AllDecided u t rs → AllDecided s t (r ∷ rs)
decided_more s u t r rs o one unit answer rest =
    let A : ℕ → Type 0 = λ n. AreReadsBy n rs rest.0 in (
      exchange_of s.polling s.unit (Read r.address r.count) o u.polling one ∷ rest.0,
      ((refl, refl, answer), subst A unit rest.1),
      talks_first s.polling u.polling t.polling s.unit (Read r.address r.count) o rest.0 one rest.2,
    )

failed_later : (s u t : Asking) (r : RegisterRead) (rs : List RegisterRead) (o : Outcome) (result : Result Layout MapFault) → Decides s.polling s.unit (Read r.address r.count) o u.polling → u.unit ≡ s.unit → r.answer ≡ answer_by o
    → LastFailed u t rs result → LastFailed s t (r ∷ rs) result
failed_later s u t r rs o result one unit answer rest =
    let A : ℕ → Type 0 = λ n. AreReadsBy n rest.front rest.es in
    let F : ℕ → Type 0 = λ n. Fails rest.middle n (Read rest.address rest.count) rest.fault t.polling in
    record {
      front = r ∷ rest.front;
      es = exchange_of s.polling s.unit (Read r.address r.count) o u.polling one ∷ rest.es;
      address = rest.address;
      count = rest.count;
      fault = rest.fault;
      middle = rest.middle;
      all = ap (λ l. r ∷ l) rest.all;
      asked = ((refl, refl, answer), subst A unit rest.asked);
      talks = talks_first s.polling u.polling rest.middle s.unit (Read r.address r.count) o rest.es one rest.talks;
      fails = subst F unit rest.fails;
      unread = rest.unread;
    }

failed_now : (s u t : Asking) (r : RegisterRead) (rs : List RegisterRead) (fault : LinkFault) (result : Result Layout MapFault) → Fails s.polling s.unit (Read r.address r.count) fault u.polling
    → (s.polling).fault ≡ None → r.answer ≡ Err Failed → rs ≡ [] → result ≡ Err map.Read → u ≡ t → LastFailed s t (r ∷ rs) result
failed_now s u t r rs fault result fails works answer last unread same = record {
  front = [];
  es = [];
  address = r.address;
  count = r.count;
  fault = fault;
  middle = s.polling;
  all = ap (λ l. r ∷ l) last ∙ ap (λ (a : Answer). record { address = r.address; count = r.count; answer = a } ∷ []) answer;
  asked = tt;
  talks = talks_none s.polling works;
  fails = subst (λ (x : Asking). Fails s.polling s.unit (Read r.address r.count) fault x.polling) same fails;
  unread = unread;
}

works_once : (fault : Option LinkFault) (s u : Asking) (request : Request) (result : Result Outcome LinkFault) → AsksUnless fault s request result u → fault ≡ None → AsksOnce s request result u
works_once None s u request result one none = one
works_once (Some fault) s u request result one none = absurd (cc)

no_reads : (u t : Asking) (rs : List RegisterRead) → Runs ReadsLine u rs t → rs ≡ [] → u ≡ t
no_reads u t [] run none = run
no_reads u t (r ∷ rs) run none = absurd (cc)

told_more : (s u t : Asking) (r : RegisterRead) (rs : List RegisterRead) (o : Outcome) (result : Result Layout MapFault) → Decides s.polling s.unit (Read r.address r.count) o u.polling → u.unit ≡ s.unit → r.answer ≡ answer_by o
    → AllDecided u t rs ⊎ LastFailed u t rs result → AllDecided s t (r ∷ rs) ⊎ LastFailed s t (r ∷ rs) result
told_more s u t r rs o result one unit answer (inl rest) = inl (decided_more s u t r rs o one unit answer rest)
told_more s u t r rs o result one unit answer (inr rest) = inr (failed_later s u t r rs o result one unit answer rest)

pub told : (s t : Asking) (reads : List RegisterRead) (result : Result Layout MapFault) → Runs ReadsLine s reads t → AreSent reads result → (s.polling).fault ≡ None
    → AllDecided s t reads ⊎ LastFailed s t reads result
told s t [] result run sent works =
    inl ([], tt, subst (λ (x : Asking). Talks s.polling [] x.polling) run (talks_none s.polling works))
told s t (r ∷ rs) result (u, inr p, rest) sent works = absurd (no_count p.0) where
  no_count : (r.count ≡ 0) ⊎ (125 < r.count) → ⊥
  no_count (inl none) = absurd (omega (arith, none, sent.0.0))
  no_count (inr many) = absurd (omega (arith, many, sent.0.1))
told s t (r ∷ rs) result (u, inl (Ok o, asks, answer), rest) sent works =
    let one = works_once (s.polling).fault s u (Read r.address r.count) (Ok o) asks works in
    told_more s u t r rs o result one.asks one.unit answer (told u t rs result rest sent.2 (one.asks).fault)
told s t (r ∷ rs) result (u, inl (Err fault, asks, answer), rest) sent works =
    let one = works_once (s.polling).fault s u (Read r.address r.count) (Err fault) asks works in
    let last = sent.1 answer in
    inr (failed_now s u t r rs fault result one.asks works answer last.0 last.1 (no_reads u t rs rest last.0))

-- ---- one unit

searches_told : (s t : Asking) (base : Option ℕ) (result : Result Layout MapFault) (reads : List RegisterRead)
    → IsSearch TakesNext all_registers reads (bases_by base) [] result → (t.polling).fault ≡ None
    → AllDecided s t reads ⊎ LastFailed s t reads result → Searches s.unit base s.polling result t.polling
searches_told s t base result reads search works (inl all) = (all.0, record { reads = reads; asked = all.1; search = search }, all.2)
searches_told s t base result reads search works (inr last) = let kept = (last.fails).kept in absurd (cc)

pub searches : (s t : Asking) (base : Option ℕ) (result : Result Layout MapFault) (reads : List RegisterRead) → (s.polling).fault ≡ None
    → Runs ReadsLine s reads t → IsSearch TakesNext all_registers reads (bases_by base) [] result → (t.polling).fault ≡ None
    → Searches s.unit base s.polling result t.polling
searches s t base result reads works run search after =
    searches_told s t base result reads search after (told s t reads result run (search_sent all_registers reads (bases_by base) result search) works)

stops_told : (s t : Asking) (base : Option ℕ) (result : Result Layout MapFault) (reads : List RegisterRead) (fault : LinkFault)
    → IsSearch TakesNext all_registers reads (bases_by base) [] result → (t.polling).fault ≡ Some fault
    → AllDecided s t reads ⊎ LastFailed s t reads result → StopsSearch s.unit base s.polling fault t.polling
stops_told s t base result reads fault search after (inl all) = let none = (all.2).fault in absurd (cc)
stops_told s t base result reads fault search after (inr last) =
    let kept = (last.fails).kept in
    let same : last.fault ≡ fault = (cc) in
    let S : List RegisterRead → Result Layout MapFault → Type 0 = λ l r. IsSearch TakesNext all_registers l (bases_by base) [] r in
    record {
      es = last.es;
      address = last.address;
      count = last.count;
      next = record {
        reads = last.front;
        asked = last.asked;
        search = subst (λ l. S l (Err map.Read)) last.all (subst (S reads) last.unread search);
      };
      middle = last.middle;
      talks = last.talks;
      fails = subst (λ f. Fails last.middle s.unit (Read last.address last.count) f t.polling) same last.fails;
    }

pub stops_search : (s t : Asking) (base : Option ℕ) (result : Result Layout MapFault) (reads : List RegisterRead) (fault : LinkFault) → (s.polling).fault ≡ None
    → Runs ReadsLine s reads t → IsSearch TakesNext all_registers reads (bases_by base) [] result → (t.polling).fault ≡ Some fault
    → StopsSearch s.unit base s.polling fault t.polling
stops_search s t base result reads fault works run search after =
    stops_told s t base result reads fault search after (told s t reads result run (search_sent all_registers reads (bases_by base) result search) works)
