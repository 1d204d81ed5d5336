-- Each scan is of what was told last.
use Rattle.std.proofs.Common.{◌≡◌, ◌≢◌, ◌⊎◌, inl, inr, ℕ, zero, suc, ◌+◌, ◌<◌, ◌≤◌, Bool, true, false, eqb, List, [], ◌∷◌, length, get_or, map, slice_get, slice_set, Option, None, Some, Result, Ok, Err, refl, sym, ap, subst, ◌∙◌, arith}
use Rattle.std.specs.Prelude.{option_and_then}
use Rattle.std.proofs.lemmas.Bool.Decides.{eqb_tells}
use Rattle.std.proofs.lemmas.List.{length-set}
use Rattle.std.proofs.lemmas.Option.{slice_get-get_or, slice_get_within}
use Rattle.modbus_frame.specs.declared.message.Request.{Request}
use Rattle.modbus_frame.specs.declared.message.Request.TheVariants as request
use Rattle.modbus_frame.specs.declared.message.Exception.{Exception}
use Rattle.modbus_frame.specs.Message.{request_of}
use Rattle.site_model.specs.declared.site.Site.{Site}
use Rattle.site_model.specs.declared.want.Want.{Want}
use Rattle.site_model.specs.Readings.{known_at}
use Rattle.gateway.specs.declared.event_core.event.Event.TheVariants as event
use Rattle.gateway.specs.declared.poller.outcome.Outcome.TheVariants as outcome
use Rattle.gateway.specs.event_core.Core.{Gateway}
use Rattle.gateway.specs.event_core.SiteRun.{Replies, Standing, none_of, told, with_block}
use Rattle.service_requests.specs.declared.request_end.RequestEnd.{RequestEnd}
use Rattle.service_requests.specs.declared.request_end.RequestEnd.TheVariants as fate
use Rattle.service.specs.declared.last_told.LastTold.{LastTold}
use Rattle.service.specs.declared.round.Turn.{Turn}
use Rattle.service.specs.Rounds.{AsksWrite, ClosesWrite, OpensWrite, Progress, device_told, device_wanted, event_of, most_scans, older, told_at, told_now, used}
use Rattle.service.specs.Stages as stages
use Rattle.service.specs.Stages.{Adopts, AnyStep, CourseBy, IsFirst, IsReached, RoundStep, Scans, Stage, TakesEvent, Tells, TimeStep}
use Rattle.service.specs.Blocks as blocks
use Rattle.service.specs.Blocks.{Entry, IsOfWhatWasTold, ScansAreOfWhatWasTold, Telling, block_by, last_of, scans_since}
use Rattle.service.proofs.Courses.{taken_site}
use Rattle.service.proofs.Known.{place_of}
use Rattle.service_parts.proofs.Frames.{set_other}
use Rattle.service.proofs.Marks.{map_at}

-- ---- what an event does to the blocks

replied_blocks : (site : Site) (s t : Standing) (pdu : List ℕ) (o : Result Request Exception) (reply : List ℕ) → Replies site s pdu o reply t → t.blocks ≡ s.blocks
replied_blocks site s t pdu (Err e) reply is = ap (λ (x : Standing). x.blocks) is.1
replied_blocks site s t pdu (Ok (request.Read addr qty)) reply (r, does, said) = ap (λ (x : Standing). x.blocks) does.1
replied_blocks site s t pdu (Ok (request.WriteOne addr value)) reply (r, does, said) = ap (λ (x : Standing). x.blocks) does.1
replied_blocks site s t pdu (Ok (request.WriteMany addr words)) reply (r, does, said) = ap (λ (x : Standing). x.blocks) does.1

asked_blocks : (g h : Gateway) (pdu : List ℕ) → TakesEvent (event.Client pdu) g h → h.standing.blocks ≡ g.standing.blocks
asked_blocks g h pdu (a, happens) =
    let (reply, is, replies) = ((happens.1).0).0 in
    replied_blocks g.site g.standing h.standing pdu (request_of pdu) reply replies

waited_blocks : (g h : Gateway) (ms : ℕ) → TakesEvent (event.Time ms) g h → h.standing.blocks ≡ g.standing.blocks
waited_blocks g h ms (a, happens) = ap (λ (x : Standing). x.blocks) (((happens.1).0).0).1

scanned_blocks : (g h : Gateway) → TakesEvent event.Scan g h → h.standing.blocks ≡ g.standing.blocks
scanned_blocks g h (a, happens) =
    let (is, scan) = ((happens.1).0).0 in
    ap (λ (x : Standing). x.blocks) scan.after

lost_blocks : (g h : Gateway) (want : Want) → TakesEvent (event.Lost want) g h → h.standing.blocks ≡ with_block g.site.wants want None g.standing.blocks
lost_blocks g h want (a, happens) = ap (λ (x : Standing). x.blocks) (((happens.1).0).0).1

block_blocks : (g h : Gateway) (want : Want) (words : List ℕ) → TakesEvent (event.Block want words) g h → h.standing.blocks ≡ with_block g.site.wants want (told want.model words) g.standing.blocks
block_blocks g h want words (a, happens) = ap (λ (x : Standing). x.blocks) (((happens.1).0).0).1

-- an outcome tells of the block, or that it is lost
told_blocks : (g h : Gateway) (want : Want) (f : RequestEnd) → TakesEvent (event_of want f) g h → h.standing.blocks ≡ with_block g.site.wants want (block_by (Some (event_of want f))) g.standing.blocks
told_blocks g h want (fate.Told (outcome.Words words)) takes = block_blocks g h want words takes
told_blocks g h want (fate.Told outcome.Wrote) takes = lost_blocks g h want takes
told_blocks g h want (fate.Told (outcome.Exception e)) takes = lost_blocks g h want takes
told_blocks g h want (fate.Told outcome.Mismatch) takes = lost_blocks g h want takes
told_blocks g h want (fate.Told outcome.Stale) takes = lost_blocks g h want takes
told_blocks g h want fate.Lost takes = lost_blocks g h want takes

-- ---- what holds along the way

-- there is a block for each want, each is what was told of it last, and the program ran since at most as often as is kept
record Holds (log : List Entry) (s : Stage) : Type 0 where
  sized : length s.core.standing.blocks ≡ length s.core.site.wants
  known : (i : ℕ) → i < length s.core.site.wants → known_at s.core.standing.blocks i ≡ block_by (last_of i log)
  aged : (i : ℕ) (t : LastTold) → slice_get s.round.told i ≡ Some t → scans_since i log ≤ t.scans
  room : length s.round.told ≡ length s.core.site.wants

-- a stage of the same site, with the same blocks and times
module _ (log : List Entry) (s t : Stage) (site : t.core.site ≡ s.core.site) (same : t.core.standing.blocks ≡ s.core.standing.blocks) (times : t.round.told ≡ s.round.told) where
  stays_so : Holds log s → Holds log t
  stays_so holds = record {
    sized = ap (λ (l : List (Option (List ℕ))). length l) same ∙ (holds.sized ∙ ap (λ (x : Site). length x.wants) (sym site));
    known = λ i within. ap (λ (l : List (Option (List ℕ))). known_at l i) same ∙ holds.known i (subst (λ (x : Site). i < length x.wants) site within);
    aged = λ i u at. holds.aged i u (ap (λ (l : List LastTold). slice_get l i) (sym times) ∙ at);
    room = ap (λ (l : List LastTold). length l) times ∙ (holds.room ∙ ap (λ (x : Site). length x.wants) (sym site));
  }

same_so : (log : List Entry) (s t : Stage) → t.core ≡ s.core → t.round.told ≡ s.round.told → Holds log s → Holds log t
same_so log s t core times holds = stays_so log s t (ap (λ (g : Gateway). g.site) core) (ap (λ (g : Gateway). g.standing.blocks) core) times holds

-- ---- one event more

set_here : (xs : List (Option (List ℕ))) (i : ℕ) (entry : Option (List ℕ)) → i < length xs → known_at (slice_set xs i entry) i ≡ entry
set_here [] i entry within = absurd (omega (arith, within))
set_here (x ∷ xs) zero entry within = same entry
  where
    same : (e : Option (List ℕ)) → known_at (e ∷ xs) 0 ≡ e
    same e = refl
set_here (x ∷ xs) (suc i) entry within = set_here xs i entry (omega (arith, within))

module _ (site : Site) (j : ℕ) (want : Want) (at : slice_get site.wants j ≡ Some want) (entry : Option (List ℕ)) (xs : List (Option (List ℕ))) where
  with_is : with_block site.wants want entry xs ≡ slice_set xs j entry
  with_is = rw (place_of site j want at) refl

told_other : (told : List LastTold) (j i : ℕ) (is_new : Bool) → j ≢ i → slice_get (told_at j is_new told) i ≡ slice_get told i
told_other told j i is_new other = go (slice_get told j) refl
  where
    go : (o : Option LastTold) → slice_get told j ≡ o → slice_get (told_at j is_new told) i ≡ slice_get told i
    go None is = rw is refl
    go (Some u) is = rw is (set_other told j i (told_now is_new u) (λ same. other (sym same)))

told_long : (told : List LastTold) (j : ℕ) (is_new : Bool) → length (told_at j is_new told) ≡ length told
told_long told j is_new = go (slice_get told j) refl
  where
    go : (o : Option LastTold) → slice_get told j ≡ o → length (told_at j is_new told) ≡ length told
    go None is = rw is refl
    go (Some u) is = rw is (length-set told j (told_now is_new u))

module _ (log : List Entry) (s t : Stage) (j : ℕ) (f : RequestEnd) (is_new : Bool) (is : Tells j f is_new s t) (holds : Holds log s) where
  abbrev more : List Entry
  more = blocks.block j (event_of is.want f) ∷ log

  site_same : t.core.site ≡ s.core.site
  site_same = taken_site (event_of is.want f) s.core t.core is.told

  blocks_now : t.core.standing.blocks ≡ slice_set s.core.standing.blocks j (block_by (Some (event_of is.want f)))
  blocks_now = told_blocks s.core t.core is.want f is.told ∙ with_is s.core.site j is.want is.wanted (block_by (Some (event_of is.want f))) s.core.standing.blocks

  inside : j < length s.core.standing.blocks
  inside = subst (λ n. j < n) (sym holds.sized) (slice_get_within s.core.site.wants j is.want is.wanted)

  last_here : (i : ℕ) → eqb j i ≡ true → last_of i more ≡ Some (event_of is.want f)
  last_here i same = rw same refl

  last_there : (i : ℕ) → eqb j i ≡ false → last_of i more ≡ last_of i log
  last_there i other = rw other refl

  since_here : (i : ℕ) → eqb j i ≡ true → scans_since i more ≡ 0
  since_here i same = rw same refl

  since_there : (i : ℕ) → eqb j i ≡ false → scans_since i more ≡ scans_since i log
  since_there i other = rw other refl

  known_now : (i : ℕ) → i < length s.core.site.wants → ((eqb j i ≡ true) × (j ≡ i)) ⊎ ((eqb j i ≡ false) × (j ≢ i)) → known_at t.core.standing.blocks i ≡ block_by (last_of i more)
  known_now i within (inl same) =
      ap (λ (l : List (Option (List ℕ))). known_at l i) blocks_now
      ∙ (ap (known_at (slice_set s.core.standing.blocks j (block_by (Some (event_of is.want f))))) (sym same.1)
      ∙ (set_here s.core.standing.blocks j (block_by (Some (event_of is.want f))) inside ∙ ap block_by (sym (last_here i same.0))))
  known_now i within (inr other) =
      ap (λ (l : List (Option (List ℕ))). known_at l i) blocks_now
      ∙ (ap (option_and_then (λ (o : Option (List ℕ)). o)) (set_other s.core.standing.blocks j i (block_by (Some (event_of is.want f))) (λ same. other.1 (sym same))) ∙ (holds.known i within ∙ ap block_by (sym (last_there i other.0))))

  no_more : (n m : ℕ) → n ≡ 0 → n ≤ m
  no_more n m none = omega (arith, none)

  same_less : (n k m : ℕ) → n ≡ k → k ≤ m → n ≤ m
  same_less n k m same less = omega (arith, same, less)

  aged_by : (i : ℕ) (u : LastTold) → slice_get t.round.told i ≡ Some u → ((eqb j i ≡ true) × (j ≡ i)) ⊎ ((eqb j i ≡ false) × (j ≢ i)) → scans_since i more ≤ u.scans
  aged_by i u at (inl same) = no_more (scans_since i more) u.scans (since_here i same.0)
  aged_by i u at (inr other) =
      let was : slice_get s.round.told i ≡ Some u = sym (told_other s.round.told j i is_new other.1) ∙ (ap (λ (p : Progress). slice_get p.told i) (sym is.round) ∙ at) in
      same_less (scans_since i more) (scans_since i log) u.scans (since_there i other.0) (holds.aged i u was)

  told_so : Holds more t
  told_so = record {
    sized = ap (λ (l : List (Option (List ℕ))). length l) blocks_now ∙ (length-set s.core.standing.blocks j (block_by (Some (event_of is.want f))) ∙ (holds.sized ∙ ap (λ (x : Site). length x.wants) (sym site_same)));
    known = λ i within. known_now i (subst (λ (x : Site). i < length x.wants) site_same within) (eqb_tells j i);
    aged = λ i u at. aged_by i u at (eqb_tells j i);
    room = ap (λ (p : Progress). length p.told) is.round ∙ (told_long s.round.told j is_new ∙ (holds.room ∙ ap (λ (x : Site). length x.wants) (sym site_same)));
  }

-- ---- a scan

mapped_long : (f : LastTold → LastTold) (told : List LastTold) → length (map f told) ≡ length told
mapped_long f [] = refl
mapped_long f (t ∷ told) = ap suc (mapped_long f told)

older_scans : (told : List LastTold) (i : ℕ) (u : LastTold) → slice_get (map older (map (used told) told)) i ≡ Some u → (t : LastTold) × (slice_get told i ≡ Some t) × (u.scans ≡ t.scans + 1)
older_scans told i u at =
    let (x, was, is) = map_at older (map (used told) told) i u at in
    let (t, first, so) = map_at (used told) told i x was in
    (t, first, ap (λ (y : LastTold). y.scans) (sym is) ∙ ap (λ (y : LastTold). y.scans + 1) (sym so))

one_more : (n k m : ℕ) → n ≤ k → m ≡ k + 1 → n + 1 ≤ m
one_more n k m less is = omega (arith, less, is)

scan_so : (log : List Entry) (s t : Stage) (now : ℕ) → Scans now s t → Holds log s → Holds (blocks.ran ∷ log) t
scan_so log s t now scans holds =
    let site = taken_site event.Scan scans.waited t.core scans.runs ∙ taken_site (event.Time _) s.core scans.waited scans.waits in
    let same = scanned_blocks scans.waited t.core scans.runs ∙ waited_blocks s.core scans.waited _ scans.waits in
    record {
      sized = ap (λ (l : List (Option (List ℕ))). length l) same ∙ (holds.sized ∙ ap (λ (x : Site). length x.wants) (sym site));
      known = λ i within. ap (λ (l : List (Option (List ℕ))). known_at l i) same ∙ holds.known i (subst (λ (x : Site). i < length x.wants) site within);
      aged = λ i u at. (
          let (x, was, is) = older_scans s.round.told i u (ap (λ (p : Progress). slice_get p.told i) (sym scans.same) ∙ at) in
          one_more (scans_since i log) x.scans u.scans (holds.aged i x was) is);
      room = ap (λ (p : Progress). length p.told) scans.same ∙ (mapped_long older (map (used s.round.told) s.round.told) ∙ (mapped_long (used s.round.told) s.round.told ∙ (holds.room ∙ ap (λ (x : Site). length x.wants) (sym site))));
    }

-- ---- what is written changes nothing of that

closes_told : (o : Option ℕ) (old new : Progress) → ClosesWrite o old new → new.told ≡ old.told
closes_told None old new closes = ap (λ (p : Progress). p.told) closes
closes_told (Some i) old new closes = ap (λ (p : Progress). p.told) closes

opens_told : (g : Gateway) (device : ℕ) (o : Option ℕ) (old : Progress) (next : Turn) (new : Progress) → OpensWrite g device o old next new → new.told ≡ old.told
opens_told g device None old next new opens = ap (λ (p : Progress). p.told) opens.1
opens_told g device (Some i) old next new (plan, planned, asks) = by_call _ asks
  where
    by_call : (call : Option _) → AsksWrite i call old next new → new.told ≡ old.told
    by_call None asks = ap (λ (p : Progress). p.told) asks.1
    by_call (Some call) asks = ap (λ (p : Progress). p.told) asks.1

-- ---- all steps

-- what was told on the way, and what holds there
record Logged (first s : Stage) : Type 0 where
  log : List Entry
  course : Telling first log s
  holds : Holds log s

round_logged : (first s t : Stage) → RoundStep s t → Logged first s → Logged first t
round_logged first s t (stages.loses i is) before = record { log = _; course = blocks.tells before.course i fate.Lost false t is; holds = told_so before.log s t i fate.Lost false is before.holds }
round_logged first s t (stages.lacks i is) before = record { log = _; course = blocks.tells before.course i fate.Lost true t is.told; holds = told_so before.log s t i fate.Lost true is.told before.holds }
round_logged first s t (stages.opens device next is) before = record { log = before.log; course = blocks.opens before.course device next t is; holds = same_so before.log s t is.core (opens_told s.core device _ s.round next t.round is.opens) before.holds }
round_logged first s t (stages.ends device is) before = record { log = before.log; course = blocks.ends before.course device t is; holds = same_so before.log s t is.core (closes_told _ s.round t.round is.closes) before.holds }
round_logged first s t (stages.skips device is) before = record { log = before.log; course = blocks.skips before.course device t is; holds = same_so before.log s t (ap (λ (x : Stage). x.core) is) (ap (λ (x : Stage). x.round.told) is) before.holds }
round_logged first s t (stages.learns device found is) before = record {
  log = before.log;
  course = blocks.learns before.course device found t is;
  holds = stays_so before.log s t (ap (λ (x : Stage). x.core.site) is.same) (ap (λ (x : Stage). x.core.standing.blocks) is.same) (ap (λ (x : Stage). x.round.told) is.same) before.holds;
}

time_logged : (first s t : Stage) → TimeStep s t → Logged first s → Logged first t
time_logged first s t (stages.scans now is) before = record { log = _; course = blocks.scans before.course now t is; holds = scan_so before.log s t now is before.holds }
time_logged first s t (stages.waits ms is) before = record {
  log = before.log;
  course = blocks.waits before.course ms t is;
  holds = stays_so before.log s t (taken_site (event.Time ms) s.core t.core is.told) (waited_blocks s.core t.core ms is.told) (ap (λ (p : Progress). p.told) is.round) before.holds;
}

any_logged : (first s t : Stage) → AnyStep s t → Logged first s → Logged first t
any_logged first s t (inl (inl (inl step))) before = round_logged first s t step before
any_logged first s t (inl (inl (inr (i, o, is)))) before = record { log = _; course = blocks.tells before.course i (fate.Told o) true t is; holds = told_so before.log s t i (fate.Told o) true is before.holds }
any_logged first s t (inl (inr (inr step))) before = time_logged first s t step before
any_logged first s t (inl (inr (inl (pdu, is)))) before = record {
  log = before.log;
  course = blocks.asks before.course pdu t is;
  holds = stays_so before.log s t (taken_site (event.Client pdu) s.core t.core is.told) (asked_blocks s.core t.core pdu is.told) (ap (λ (p : Progress). p.told) is.round) before.holds;
}
any_logged first s t (inr (machine, is)) before = record {
  log = before.log;
  course = blocks.adopts before.course machine t is;
  holds = stays_so before.log s t (ap (λ (x : Stage). x.core.site) is.same) (ap (λ (x : Stage). x.core.standing.blocks) is.same) (ap (λ (x : Stage). x.round.told) is.same) before.holds;
}

-- before the first step nothing is known
none_known : (wants : List Want) (i : ℕ) → known_at {T = List ℕ} (none_of wants) i ≡ None
none_known [] i = refl
none_known (w ∷ wants) zero = refl
none_known (w ∷ wants) (suc i) = none_known wants i

none_sized : (wants : List Want) → length {A = Option (List ℕ)} (none_of wants) ≡ length wants
none_sized [] = refl
none_sized (w ∷ wants) = ap suc (none_sized wants)

sized_told : (wants : List Want) (told : List LastTold) → map device_told told ≡ map device_wanted wants → length told ≡ length wants
sized_told [] [] same = refl
sized_told [] (t ∷ told) same = absurd (cc)
sized_told (w ∷ wants) [] same = absurd (cc)
sized_told (w ∷ wants) (t ∷ told) same = ap suc (sized_told wants told cc)

first_holds : (first : Stage) → IsFirst first → Holds [] first
first_holds first opening =
    let new = opening.core in
    let site : first.core.site ≡ new.site = ap (λ (g : Gateway). g.site) new.opened in
    let same : first.core.standing.blocks ≡ none_of (new.site).wants = ap (λ (g : Gateway). g.standing.blocks) new.opened in
    record {
      sized = ap (λ (l : List (Option (List ℕ))). length l) same ∙ (none_sized (new.site).wants ∙ ap (λ (x : Site). length x.wants) (sym site));
      known = λ i within. ap (λ (l : List (Option (List ℕ))). known_at l i) same ∙ none_known (new.site).wants i;
      aged = λ i t at. omega arith;
      room = sized_told first.core.site.wants first.round.told (opening.round).told;
    }

course_logged : (first s : Stage) → IsFirst first → CourseBy AnyStep first s → Logged first s
course_logged first s opening (stages.stays x) = record { log = []; course = blocks.begins; holds = first_holds first opening }
course_logged first s opening (stages.goes {t = middle} course u step) = any_logged first middle s step (course_logged first middle opening course)

-- ---- the law

below : (n k m : ℕ) → n ≤ k → k < m → n < m
below n k m less under = omega (arith, less, under)

some_last : LastTold
some_last = record { device = 0; scans = 0; is_new = false; is_used = false }

pub scans_are_of_what_was_told : ScansAreOfWhatWasTold
scans_are_of_what_was_told s t now reached scans =
    let logged = course_logged reached.first s reached.opening reached.course in
    let holds = logged.holds in
    record {
      first = reached.first;
      opening = reached.opening;
      log = logged.log;
      course = logged.course;
      known = holds.known;
      recent = λ i within. (
          let inside : i < length s.round.told = subst (λ n. i < n) (sym holds.room) within in
          let u = get_or s.round.told i some_last in
          below (scans_since i logged.log) u.scans most_scans (holds.aged i u (slice_get-get_or s.round.told i some_last inside)) (scans.recent i some_last inside));
    }
