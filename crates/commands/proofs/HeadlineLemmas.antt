-- The parts of the headline, put together again: they are a site run.
use Rattle.std.proofs.Common.{◌⊎◌, ◌≡◌, ℕ, zero, suc, ◌+◌, ◌≤◌, inl, inr, Bool, true, false, not, List, [], ◌∷◌, ◌++◌, length, map, arith, Option, Some, None, Result, Ok, Err, slice_get, nat_eq, refl, sym, ap, subst, ◌∙◌, if◌then◌else◌}
use Rattle.point_types.specs.Value.{code_of, ◌>>=◌}
use Rattle.modbus_frame.specs.declared.link.LinkFault.{LinkFault}
use Rattle.register_map.specs.Layout.{Layout}
use Rattle.scan_code.specs.Image.{Image, IsProper}
use Rattle.scan_code.specs.Machine.{Ended, State, Unfinished}
use Rattle.scan_code.specs.declared.image.Tag.{Tag}
use Rattle.scan_vm.specs.Machine.{opened}
use Rattle.site_model.specs.Readings.{AreReadings, AreSettings}
use Rattle.site_model.specs.declared.site.Site.{Site}
use Rattle.site_model.specs.declared.tag.SiteTag.{SiteTag}
use Rattle.il_assemble.proofs.Elaborating.{what_elaborates_is_well}
use Rattle.il_assemble.proofs.Lines.{code_does_what_the_program_means, each_end_is_the_meaning}
use Rattle.il_assemble.proofs.Rules.{images_are_proper}
use Rattle.il_reader.proofs.Bytes.{reading_is_exact}
use Rattle.il_assemble.specs.Code.{image_of}
use Rattle.il_assemble.specs.Correct.{DoesWhatItMeans, IsWell}
use Rattle.il_assemble.specs.Meaning.{Program}
use Rattle.facts.specs.Fact.{same_bool}
use Rattle.facts.specs.declared.refusal.Refusal.{Refusal}
use Rattle.facts.specs.declared.refusal.RefusalKind.{RefusalKind}
use Rattle.facts.specs.declared.refusal.RefusalKind.TheVariants.{TagType, TagAccess}
use Rattle.verifier.specs.declared.tag_link.TagLink.{TagLink}
use Rattle.verifier.specs.Judging.{linked_frame}
use Rattle.verifier.specs.Links.{allowed, found, is_stored, link_of, links_from, number_of, refused_at, there}
use Rattle.verifier.specs.Listing.{listing_of}
use Rattle.verifier.specs.Safe.{NeverGoesWrong}
use Rattle.verifier.specs.Verdict.{budgeted, judged, refusal_of}
use Rattle.verifier.specs.Verified.{Acceptance, HasAlike, HasLinks, IsAlike, IsVerified}
use Rattle.verifier.proofs.Images.{by_both, ok_is}
use Rattle.gateway.specs.event_core.Control.{IsPlanned, steps_of, after_wait}
use Rattle.gateway.specs.event_core.Core.{Gateway, IsSame, gateway_of, numbers_of}
use Rattle.gateway.specs.event_core.Driving.{TakesEvent}
use Rattle.gateway.specs.poller.Cycle.{RunsTo, Scans, TakesBlocks, WritesUpTo}
use Rattle.gateway.specs.poller.Cycle as gateway
use Rattle.gateway.specs.poller.Polling.{Polling}
use Rattle.gateway.specs.event_core.SiteRun.{none_of, stored_at}
use Rattle.gateway.specs.declared.poller.cycle.Report.{Report}
use Rattle.gateway.specs.declared.event_core.event.Answer.TheVariants as reply
use Rattle.gateway.specs.declared.event_core.event.Event.{Event}
use Rattle.gateway.specs.declared.event_core.event.Event.TheVariants as event
use Rattle.gateway.proofs.Parts.{same_then}
use Rattle.commands.specs.Accepted.{Accepts, most_deferred}
use Rattle.commands.specs.Headline.{DoesRun, DoesScan, StopsAfter, Tells}
use Rattle.commands.specs.Printed.{EndsEarly, LineLost, LinkDown}
use Rattle.commands.specs.Scans.{AreScans, DoesScans, End, IsBroken, PartsAreTheRun, RunsScans, series_of}
use Rattle.commands.specs.Clients.{ClientsAsk}
use Rattle.commands.specs.Series.{AreInOrder, Moment, Scan, at_core, waited}
use Rattle.commands.specs.declared.pace.RunPace.{RunPace}
use Rattle.commands.specs.Sources.{AreTextsOf, HasTexts}
use Rattle.commands.specs.Stopped.{StopsScan}
use Rattle.commands.proofs.ClientLemmas.{held_asked, same_asked}
use Rattle.commands.proofs.MeaningLemmas.{all_meant}
use Rattle.commands.proofs.RunLemmas.{scans_from_opening}
use Rattle.commands.proofs.ScanLemmas.{follows_all, same_self}
use Rattle.commands.proofs.StepLemmas.{IsHeld, ending_on, held_all, held_behind, planned_all, planned_one, scanned_so, takes_blocks}

-- ---- the links are to the site's own tags

alike_self : (s : SiteTag) → IsAlike s s
alike_self s = record { name = refl; access = refl; kind = refl; low = refl; high = refl; default = refl }

allowed_same : (tag : Tag) (link l : TagLink) → allowed tag link ≡ Ok l → link ≡ l
allowed_same tag link l e = kinds (nat_eq (code_of tag.kind) (code_of link.site.kind)) e
  where
    access : (t : Bool) → ◌≡◌ {A = Result TagLink RefusalKind} (if not t then Err TagAccess else Ok link) (Ok l) → link ≡ l
    access true f = ok_is link l f
    access false f = absurd (cc)

    kinds : (t : Bool) → ◌≡◌ {A = Result TagLink RefusalKind} (if not t then Err TagType else (if not (same_bool tag.output (is_stored link.site.access)) then Err TagAccess else Ok link)) (Ok l) → link ≡ l
    kinds true f = access (same_bool tag.output (is_stored link.site.access)) f
    kinds false f = absurd (cc)

found_alike : (site : List SiteTag) (tag : Tag) (o : Option ℕ) (l : TagLink) → found site tag o ≡ Ok l → HasAlike (slice_get site l.number) l.site
found_alike site tag None l e = absurd (cc)
found_alike site tag (Some n) l e = in_site (slice_get site n) refl e
  where
    in_site : (o : Option SiteTag) → slice_get site n ≡ o → there tag n o ≡ Ok l → HasAlike (slice_get site l.number) l.site
    in_site None p f = absurd (cc)
    in_site (Some s) p f =
        subst (λ (x : TagLink). HasAlike (slice_get site x.number) x.site) (allowed_same tag (record { number = n; site = s }) l f)
        (subst (λ (o : Option SiteTag). HasAlike o s) (sym p) (alike_self s))

unrefused : (n : ℕ) (r : Result TagLink RefusalKind) (l : TagLink) → refused_at n r ≡ Ok l → r ≡ Ok l
unrefused n (Ok k) l e = ap Ok (ok_is k l e)
unrefused n (Err x) l e = absurd (cc)

links_match : (site : List SiteTag) (n : ℕ) (tags : List Tag) (links : List TagLink) → links_from site n tags ≡ Ok links → HasLinks site links
links_match site n [] [] e = tt
links_match site n [] (l ∷ ls) e = absurd (cc)
links_match site n (t ∷ ts) links e = by_both (refused_at n (link_of site t)) (λ link. links_from site (n + 1) ts >>= λ others. Ok (link ∷ others)) links e
    (λ link p f. by_both (links_from site (n + 1) ts) (λ others. Ok (link ∷ others)) links f
    (λ others q g. subst (λ (ls : List TagLink). HasLinks site ls) (ok_is (link ∷ others) links g) (found_alike site t (number_of site t.name) link (unrefused n (link_of site t) link p), links_match site (n + 1) ts others q)))

-- the verdict hangs on the image and the links alone
abbrev judged_by : Image → ℕ → Result (List TagLink) Refusal → Result ℕ Refusal
judged_by image depth r = (r >>= λ links. listing_of image >>= λ listing. Ok (linked_frame image links depth listing)) >>= λ c. budgeted c (refusal_of c)

judged_here : (depth : ℕ) (a : Acceptance) (site : List SiteTag) → IsVerified depth a → links_from site 0 a.image.tags ≡ Ok a.links → judged a.image site depth ≡ Ok a.budget
judged_here depth a site h linked = ap (judged_by a.image depth) (linked ∙ sym h.linked) ∙ h.judged

-- ---- a scan

same_to : (s : Gateway) (es : List Event) (t : Gateway) → RunsTo (TakesEvent most_deferred) s es t → IsSame s t
same_to s [] t run = subst (IsSame s) run (same_self s)
same_to s (e ∷ es) t run = same_then s run.1 t run.2.0.1 (same_to run.1 es t run.3)

module _ (site : Site) (a : Acceptance) (p : Program) where
  -- a core of this site and this program
  record IsOf (g : Gateway) : Type 0 where
    pub on_site : g.site ≡ site
    pub on_program : g.machine.accepted ≡ a
    pub held : IsHeld g

  module _ (left : List ℕ) (scan : Scan) (of : IsOf (scan.before).core) (h : DoesScan site a p left scan) where
    abbrev before : Gateway
    before = (scan.taken).core

    abbrev behind : Gateway
    behind = (scan.behind).core

    took : TakesBlocks (TakesEvent most_deferred) ((scan.before).core).site ((scan.before).core).maps (((scan.before).core).site).wants (scan.before).link (scan.before).core (scan.taken).link before (scan.report).lost
    took =
        let blocks = takes_blocks most_deferred site ((scan.before).core).maps site.wants (scan.before).link (scan.before).core (scan.taken).link before (scan.report).lost h.takes in
        subst (λ (x : Site). TakesBlocks (TakesEvent most_deferred) x ((scan.before).core).maps x.wants (scan.before).link (scan.before).core (scan.taken).link before (scan.report).lost) (sym of.on_site) blocks

    to_before : IsSame (scan.before).core before
    to_before = same_to (scan.before).core took.events before took.runs

    on_site : before.site ≡ site
    on_site = to_before.site ∙ of.on_site

    on_program : before.machine.accepted ≡ a
    on_program = to_before.accepted ∙ of.on_program

    stepped : TakesEvent most_deferred before event.Scan (reply.Writes (length before.site.outs)) behind
    stepped =
        scanned_so most_deferred before behind scan.readings (scan.report).steps scan.end (held_all (scan.before).core (h.takes).events before (h.takes).runs of.held) h.leaves
        (subst (λ (x : Site). length scan.readings ≡ length x.tags) (sym on_site) (h.means).each)
        (subst (λ (x : Site). AreReadings x.tags x.wants before.standing.blocks before.standing.sets before.standing.elapsed scan.readings) (sym on_site) (h.means).read)
        (subst (λ (x : Acceptance). ending_on x scan.readings before.standing.variables x.budget ≡ Ended (scan.report).steps scan.end) (sym on_program) (h.safe).ended)
        (subst (λ (x : Acceptance). (scan.report).steps ≤ x.budget) (sym on_program) (h.safe).bounded)
        (subst (λ (x : Acceptance). (k : ℕ) (y : State) → ending_on x scan.readings before.standing.variables k ≡ Unfinished y → length y.deferred ≤ most_deferred) (sym on_program) h.shallow)

    of_behind : IsOf behind
    of_behind = record {
      on_site = stepped.0.1.site ∙ on_site;
      on_program = stepped.0.1.accepted ∙ on_program;
      held = held_behind before behind scan.readings (scan.report).steps scan.end h.leaves;
    }

    counted : (scan.report).steps ≡ steps_of behind
    counted = sym (ap (λ (g : Gateway). (g.standing.last).steps) h.leaves)

    ranged : AreSettings behind.site.tags (behind.standing.last).outputs
    ranged =
        subst (λ (g : Gateway). AreSettings g.site.tags (g.standing.last).outputs) (sym h.leaves)
        (subst (λ (x : Site). AreSettings x.tags (stored_at (numbers_of before.machine.accepted) (scan.end).outputs (none_of x.tags))) (sym on_site)
        (subst (λ (x : Acceptance). AreSettings site.tags (stored_at (numbers_of x) (scan.end).outputs (none_of site.tags))) (sym on_program) (h.safe).outputs))

    written : WritesUpTo IsPlanned site left behind (scan.taken).link (scan.behind).link (scan.report).writes (scan.report).refused
    written = record {
      turns = (h.writes).turns;
      planned = planned_all site behind (h.writes).turns ranged (h.writes).set_points;
      es = (h.writes).calls;
      in_turn = (h.writes).in_turn;
      talks = (h.writes).went;
      sent = (h.writes).sent;
      unacknowledged = (h.writes).refused;
    }

  -- a whole scan from this moment on, with the time that went by before it
  abbrev IsWholeFrom : RunPace → Scan → Moment → Type 0
  IsWholeFrom pace scan m =
      (own : List Event) × (whole : Scans (TakesEvent most_deferred) IsPlanned steps_of (m.core).site (m.core).maps m.link m.core (scan.behind).link (scan.behind).core scan.report)
      × (own ≡ event.Time pace.every ∷ ((whole.taken).events ++ event.Scan ∷ []))

  whole_again : (pace : RunPace) (scan : Scan) → IsOf (scan.before).core → DoesScan site a p [] scan → IsWholeFrom pace scan scan.before
  whole_again pace scan of h =
      let whole : Scans (TakesEvent most_deferred) IsPlanned steps_of ((scan.before).core).site ((scan.before).core).maps (scan.before).link (scan.before).core (scan.behind).link (scan.behind).core scan.report = record {
        middle = (scan.taken).link;
        before = (scan.taken).core;
        taken = took [] scan of h;
        answer = reply.Writes (length ((scan.taken).core).site.outs);
        scan = stepped [] scan of h;
        written = subst (λ (x : Site). WritesUpTo IsPlanned x [] (scan.behind).core (scan.taken).link (scan.behind).link (scan.report).writes (scan.report).refused) (sym of.on_site) (written [] scan of h);
        steps = counted [] scan of h;
      } in
      (event.Time pace.every ∷ ((whole.taken).events ++ event.Scan ∷ []), whole, refl)

  abbrev reports_of : List Scan → List Report
  reports_of scans = map (λ (scan : Scan). scan.report) scans

  -- time that went by changes neither site nor program
  waited_of : (pace : RunPace) (m : Moment) → IsOf m.core → IsOf (waited pace.every m).core
  waited_of pace m of = record { on_site = of.on_site; on_program = of.on_program; held = of.held }

  asked_of : (asked : Bool) (g h : Gateway) → ClientsAsk asked g h → IsOf g → IsOf h
  asked_of asked g h asks of =
      let same = same_asked asked g h asks in
      record { on_site = same.site ∙ of.on_site; on_program = same.accepted ∙ of.on_program; held = held_asked asked g h asks of.held }

  scans_again : (pace : RunPace) (first : Moment) (scans : List Scan) (last : Moment) → IsOf first.core → AreInOrder pace (DoesScan site a p []) first scans last
      → ((events : List Event) × AreScans (TakesEvent most_deferred) pace first.link first.core (reports_of scans) events last.link last.core) × IsOf last.core
  scans_again pace first [] last of h = (([], (refl, ap (λ (m : Moment). m.link) h, ap (λ (m : Moment). m.core) h)), subst (λ (m : Moment). IsOf m.core) (sym h) of)
  scans_again pace first (scan ∷ scans) last of (heard, asks, here, does, rest) =
      let there = subst (λ (m : Moment). IsOf m.core) (sym here) (waited_of pace (at_core first heard) (asked_of pace.asked first.core heard asks of)) in
      let (own, whole, is) = subst (IsWholeFrom pace scan) here (whole_again pace scan there does) in
      let m = scans_again pace scan.behind scans last (of_behind [] scan there does) rest in
      let all : List Event = asks.events ++ own in
      ((all ++ m.0.0, ((scan.behind).link, (scan.behind).core, all, m.0.0, refl, (heard, asks.events, asks.own, asks.runs, whole, ap (λ es. asks.events ++ es) is), m.0.1)), m.1)

  abbrev Stops : RunPace → Moment → LinkFault → Moment → Type 0
  Stops pace = StopsAfter pace (DoesScan site a p) site

  -- it failed from this moment on, with the time that went by before it
  abbrev IsBrokenFrom : RunPace → Moment → LinkFault → Polling → Gateway → Type 0
  IsBrokenFrom pace m fault q t =
      (events : List Event) × (((stop : gateway.StopsTaking (TakesEvent most_deferred) (m.core).site (m.core).maps m.link m.core fault q t) × (events ≡ event.Time pace.every ∷ (stop.taken).events))
      ⊎ ((stop : gateway.StopsBehind (TakesEvent most_deferred) IsPlanned (m.core).site (m.core).maps m.link m.core fault q t) × (events ≡ event.Time pace.every ∷ ((stop.taken).events ++ event.Scan ∷ []))))

  broken_again : (pace : RunPace) (first : Moment) (fault : LinkFault) (last : Moment) → IsOf first.core → StopsScan (DoesScan site a p) site first fault last → IsBrokenFrom pace first fault last.link last.core
  broken_again pace first fault last of (inl h) =
      let s = first.core in
      let here : gateway.StopsTaking (TakesEvent most_deferred) site s.maps first.link s fault last.link last.core = record {
        before = h.before;
        want = h.want;
        behind = h.behind;
        split = h.split;
        middle = h.middle;
        lost = h.lost;
        taken = takes_blocks most_deferred site s.maps h.before first.link s h.middle last.core h.lost h.taken;
        stops = h.stops;
      } in
      let stop : gateway.StopsTaking (TakesEvent most_deferred) s.site s.maps first.link s fault last.link last.core =
      subst (λ (x : Site). gateway.StopsTaking (TakesEvent most_deferred) x s.maps first.link s fault last.link last.core) (sym of.on_site) here in
      (event.Time pace.every ∷ (stop.taken).events, inl (stop, refl))
  broken_again pace first fault last of (inr h) =
      let scan = h.scan in
      let there = subst (λ (m : Moment). IsOf m.core) (sym h.before) of in
      let stop : gateway.StopsBehind (TakesEvent most_deferred) IsPlanned ((scan.before).core).site ((scan.before).core).maps (scan.before).link (scan.before).core fault last.link (scan.behind).core = record {
        middle = (scan.taken).link;
        before = (scan.taken).core;
        lost = (scan.report).lost;
        taken = took (h.output ∷ h.left) scan there h.does;
        answer = reply.Writes (length ((scan.taken).core).site.outs);
        scan = stepped (h.output ∷ h.left) scan there h.does;
        stops = subst (λ (x : Site). gateway.StopsWriting IsPlanned x (scan.behind).core (scan.taken).link fault last.link) (sym there.on_site) (record {
          output = h.output;
          within = h.within;
          left = h.left;
          middle = (scan.behind).link;
          writes = (scan.report).writes;
          refused = (scan.report).refused;
          written = written (h.output ∷ h.left) scan there h.does;
          plan = h.plan;
          planned = planned_one (scan.behind).core h.output h.plan (ranged (h.output ∷ h.left) scan there h.does) h.due;
          stops = h.stops;
        });
      } in
      let here : IsBrokenFrom pace scan.before fault last.link (scan.behind).core = (event.Time pace.every ∷ ((stop.taken).events ++ event.Scan ∷ []), inr (stop, refl)) in
      subst (λ (t : Gateway). IsBrokenFrom pace first fault last.link t) (sym h.core) (subst (λ (m : Moment). IsBrokenFrom pace m fault last.link (scan.behind).core) h.before here)

  -- with what clients asked before it
  broken_from : (pace : RunPace) (last : Moment) (heard : Gateway) (asks : ClientsAsk pace.asked last.core heard) (fault : LinkFault) (q : Polling) (t : Gateway) (own : List Event)
      → ((stop : gateway.StopsTaking (TakesEvent most_deferred) heard.site heard.maps last.link (after_wait pace.every heard) fault q t) × (own ≡ event.Time pace.every ∷ (stop.taken).events))
      ⊎ ((stop : gateway.StopsBehind (TakesEvent most_deferred) IsPlanned heard.site heard.maps last.link (after_wait pace.every heard) fault q t) × (own ≡ event.Time pace.every ∷ ((stop.taken).events ++ event.Scan ∷ [])))
      → (events : List Event) × IsBroken (TakesEvent most_deferred) pace last.link last.core fault q t events
  broken_from pace last heard asks fault q t own (inl (stop, is)) = (asks.events ++ own, (heard, asks.events, asks.own, asks.runs, inl (stop, ap (λ es. asks.events ++ es) is)))
  broken_from pace last heard asks fault q t own (inr (stop, is)) = (asks.events ++ own, (heard, asks.events, asks.own, asks.runs, inr (stop, ap (λ es. asks.events ++ es) is)))

  abbrev Ends : RunPace → List Report → Moment → Polling → Gateway → Option (List ℕ) → Option (List ℕ) → ℕ → Type 0
  Ends n reports last q t old new status = (events : List Event) × End (TakesEvent most_deferred) n reports events last.link last.core q t old new status

  early_again : (n : RunPace) (reports : List Report) (last : Moment) (q : Polling) (t : Gateway) (old new : Option (List ℕ)) (status : ℕ) → IsOf last.core
      → EndsEarly (Stops n) (series_of n.scans reports last.link last.core q t old new status) → Ends n reports last q t old new status
  early_again n reports last q t old new status of (LineLost h) = ([], inr (inl (refl, h)))
  early_again n reports last q t old new status of (LinkDown h) =
      let (heard, asks, failed) = h.failed in
      let (own, stops) = broken_again n (waited n.every (at_core last heard)) h.fault (record { link = q; core = t }) (waited_of n (at_core last heard) (asked_of n.asked last.core heard asks of)) failed in
      let broken = broken_from n last heard asks h.fault q t own stops in
      (broken.0, inr (inr (record { within = h.within; fault = h.fault; broken = broken.1; written = h.written; printed = h.printed; told = h.told })))

  end_again : (n : RunPace) (reports : List Report) (last : Moment) (q : Polling) (t : Gateway) (old new : Option (List ℕ)) (status : ℕ) → IsOf last.core
      → Tells (Stops n) (series_of n.scans reports last.link last.core q t old new status) → Ends n reports last q t old new status
  end_again n reports last q t old new status of h = by_status status refl
    where
      by_status : (k : ℕ) → status ≡ k → Ends n reports last q t old new status
      by_status zero e = ([], inl (refl, h.well e))
      by_status (suc k) e = early_again n reports last q t old new status of (h.badly (λ none. absurd (omega (arith, none, e))))

-- ---- the run

right_of : (p : Program) → IsWell p → DoesWhatItMeans p (image_of p)
right_of p well = record {
  variables = refl;
  tags = refl;
  ends = λ readings variables reads ranges. code_does_what_the_program_means p readings variables well reads ranges;
  each_end = λ readings variables reads ranges. each_end_is_the_meaning p readings variables well reads ranges;
}

accepts_again : (site program : List ℕ) (texts : List (List ℕ)) (s : Site) (a : Acceptance) (p : Program) → IsVerified most_deferred a → AreTextsOf site program texts s p a → NeverGoesWrong a → Accepts site program texts s p a
accepts_again site program texts s a p verified of safe =
    record {
      models = (of.of_site).models;
      defined = (of.of_site).defined;
      located = (of.of_site).located;
      tree = (of.of_program).tree;
      read = (reading_is_exact program (of.of_program).tree).1 ((of.of_program).spelled, (of.of_program).short);
      accepted = record {
        resolved = (of.of_program).resolved;
        right = right_of p (what_elaborates_is_well (of.of_program).tree p (of.of_program).resolved);
        accepted = record {
          kept = of.coded;
          linked = subst (λ (i : Image). links_from s.tags 0 i.tags ≡ Ok a.links) of.coded of.linked;
          judged = subst (λ (i : Image). judged i s.tags most_deferred ≡ Ok a.budget) of.coded (judged_here most_deferred a s.tags verified of.linked);
          safe = safe;
        };
      };
    }

run_again : (site program : List ℕ) (texts : List (List ℕ)) (n : RunPace) (p q : Polling) (old new : Option (List ℕ)) (s : Site) (a : Acceptance) (maps : List (Option Layout)) (core : Gateway) (status : ℕ)
    → IsVerified most_deferred a → HasTexts site program texts s a → NeverGoesWrong a → DoesRun (gateway_of s maps (opened a)) program n (record { link_before = p; link_behind = q; out_before = old; out_behind = new; status = status }) core → RunsScans site program texts n p q old new core status
run_again site program texts n p q old new s a maps core status verified (tree, of) safe r =
    let start = gateway_of s maps (opened a) in
    let all = scans_again s a r.program n (record { link = r.found_by; core = start }) r.scans r.last (record { on_site = refl; on_program = refl; held = refl }) r.done in
    let reports = reports_of s a r.program r.scans in
    let end = end_again s a r.program n reports r.last q core old new status all.1 r.told in
    let events = all.0.0 ++ end.0 in
    let does : DoesScans (TakesEvent most_deferred) n r.found_by start events q core old new status = record {
      reports = reports;
      before = all.0.0;
      behind = end.0;
      split = refl;
      middle = (r.last).link;
      between = (r.last).core;
      whole = all.0.1;
      end = end.1;
    } in
    let run = follows_all n r.found_by start events q core old new status does in
    let right = subst (DoesWhatItMeans tree) (sym of.coded) (right_of tree (what_elaborates_is_well (of.of_program).tree tree (of.of_program).resolved)) in
    let proper = subst IsProper (sym of.coded) (images_are_proper (of.of_program).tree tree (of.of_program).resolved) in
    let verdict = judged_here most_deferred a s.tags verified of.linked in
    let matched = links_match s.tags 0 a.image.tags a.links of.linked in
    record {
      site = s;
      program = tree;
      accepted = a;
      accepts = accepts_again site program texts s a tree verified of safe;
      maps = maps;
      between = r.found_by;
      found = r.found;
      events = events;
      scans = scans_from_opening s tree a right of.linked proper verdict matched maps n r.found_by events q core old new status does;
      answers = run.0.0;
      runs = all_meant s tree a right of.linked proper verdict matched events run.0.0 core.standing run.0.1;
      same = run.1;
    }

pub parts_are_the_run : PartsAreTheRun
parts_are_the_run site program texts n p q old new core status verified texts_of accepted run =
    run_again site program texts n p q old new core.site core.machine.accepted core.maps core status verified texts_of accepted.safe run
