-- Each scan of an accepted program does what the program means.
use Rattle.std.proofs.Common.{◌≡◌, ℕ, zero, suc, ◌∙◌, Bool, true, false, if◌then◌else◌, List, [], ◌∷◌, length, map, slice_get, ℤ, pos, ◌≤ℤ◌, int_le, Option, Some, None, Result, Ok, Err, refl, sym, ap, subst, arith}
use Rattle.std.proofs.lemmas.Int.{ints}
use Rattle.point_types.specs.declared.reading.Reading.{Reading}
use Rattle.point_types.specs.declared.reading.Reading.TheVariants as reading
use Rattle.point_types.specs.declared.variable.Var.{Var}
use Rattle.point_types.specs.declared.il_type.IlType.{IlType}
use Rattle.point_types.specs.Value.{is_within, low_of, high_of}
use Rattle.modbus_frame.specs.Message.{request_of}
use Rattle.modbus_frame.specs.declared.message.Exception.{Exception}
use Rattle.modbus_frame.specs.declared.message.Request.{Request}
use Rattle.modbus_frame.specs.declared.message.Request.TheVariants as request
use Rattle.modbus_frame.specs.declared.message.Response.{Response}
use Rattle.modbus_frame.specs.declared.message.Response.TheVariants as response
use Rattle.scan_code.proofs.Fetch.{within_parts}
use Rattle.scan_code.specs.Image.{IsProper}
use Rattle.scan_code.specs.declared.image.Tag.{Tag}
use Rattle.scan_code.specs.Machine.{Ended, opening, run}
use Rattle.scan_code.specs.Table.{start_of}
use Rattle.scan_vm.proofs.Accepted.{IsFramed, framed}
use Rattle.scan_vm.proofs.Reached.{EndsInSamePlaces, run_same}
use Rattle.site_model.proofs.Entries.{setting-in}
use Rattle.site_model.proofs.Owns.{tag-usable}
use Rattle.site_model.specs.Readings.{AreSettings, AreUsable, IsUsable}
use Rattle.site_model.specs.declared.site.Site.{Site}
use Rattle.site_model.specs.declared.tag.SiteTag.{SiteTag}
use Rattle.il_assemble.proofs.Elaborating.{starts_are_in_range}
use Rattle.il_assemble.specs.Correct.{AreVariables, DoesWhatItMeans, EndsAs, IsOver, IsReading}
use Rattle.il_assemble.specs.Correct as means
use Rattle.il_assemble.specs.Meaning.{Program, Outcome, Done, Fails, meaning}
use Rattle.scan_vm.proofs.BareRun.{bare_runs_out}
use Rattle.facts.proofs.Comparing.{and_left, and_right, both_true, le_true, true_le}
use Rattle.facts.specs.Flow.{TagRange}
use Rattle.verifier.proofs.Images.{AreLinked, IsLinked, links_are}
use Rattle.verifier.proofs.Scans.{runs_well, yes_is_accepted}
use Rattle.scan_vm.specs.Bare.{BareEnding, BareEnded, BareUnfinished, EndsWithinAlike, bare_opening, bare_run}
use Rattle.verifier.specs.declared.tag_link.TagLink.{TagLink}
use Rattle.verifier.specs.Links.{links_from}
use Rattle.verifier.specs.Sound.{AreInRanges, AreReadings, InRanges, IsFine, IsReadingOf, IsYes, OutputInRange}
use Rattle.verifier.specs.Verdict.{judged}
use Rattle.verifier.specs.Verified.{Acceptance, HasAlike, HasLinks, IsAlike}
use Rattle.gateway.proofs.Scanning.{inputs_fit, none_in, stored_in}
use Rattle.gateway.proofs.Settled.{reads_in_range, still_settings}
use Rattle.gateway.specs.event_core.Core.{number_of, numbers_of}
use Rattle.gateway.specs.event_core.SiteRun.{Does, IsScan, Replies, Runs, Sets, Standing, Steps, Writes, all_held, all_older, has_lapsed, none_of, opened, reading_at}
use Rattle.gateway.specs.declared.event_core.event.Answer.{Answer}
use Rattle.gateway.specs.declared.event_core.event.Event.{Event}
use Rattle.gateway.specs.declared.event_core.event.Event.TheVariants as event
use Rattle.gateway.specs.declared.served.point.OwnPoint.{OwnPoint}
use Rattle.commands.specs.Accepted.{most_deferred}
use Rattle.commands.specs.OneScan.{stored_of}
use Rattle.commands.specs.Meant.{IsMeantScan, RunsAsMeant, StepsAsMeant}

-- ---- what lapses

-- what still holds was set
held_was : (tags : List SiteTag) (ages : List (Option ℕ)) (sets : List (Option ℤ)) (i : ℕ) (n : ℤ) → slice_get (all_held tags ages sets) i ≡ Some (Some n) → slice_get sets i ≡ Some (Some n)
held_was [] ages sets i n e = cc
held_was (t ∷ ts) [] sets i n e = cc
held_was (t ∷ ts) (age ∷ ages) [] i n e = cc
held_was (t ∷ ts) (age ∷ ages) (set ∷ sets) zero n e = by_lapse (has_lapsed t.lapse age) e
  where
    by_lapse : (b : Bool) → Some (if b then None else set) ≡ Some (Some n) → Some set ≡ Some (Some n)
    by_lapse true f = cc
    by_lapse false f = f
held_was (t ∷ ts) (age ∷ ages) (set ∷ sets) (suc i) n e = held_was ts ages sets i n e

-- ---- numbers in their ranges

number_within : (low high n : ℤ) → low ≤ℤ n → n ≤ℤ high → is_within low high n ≡ true
number_within low high n a b = both_true (int_le low n) (int_le n high) (le_true low n a) (le_true n high b)

to_ranges : (ds : List Var) (ns : List ℤ) → AreVariables ds ns → AreInRanges ds ns
to_ranges [] [] v i = tt
to_ranges [] (n ∷ ns) v i = absurd v
to_ranges (d ∷ ds) [] v i = absurd v
to_ranges (d ∷ ds) (n ∷ ns) v zero = let w = within_parts d.low d.high n v.0 in (true_le d.low n w.0, true_le n d.high w.1)
to_ranges (d ∷ ds) (n ∷ ns) v (suc i) = to_ranges ds ns v.1 i

pub from_ranges : (ds : List Var) (ns : List ℤ) → length ns ≡ length ds → AreInRanges ds ns → AreVariables ds ns
from_ranges [] [] e h = tt
from_ranges [] (n ∷ ns) e h = cc
from_ranges (d ∷ ds) [] e h = cc
from_ranges (d ∷ ds) (n ∷ ns) e h = (number_within d.low d.high n (h zero).0 (h zero).1, from_ranges ds ns (omega (arith, e)) (λ i. h (suc i)))

variables_length : (ds : List Var) (ns : List ℤ) → AreVariables ds ns → length ns ≡ length ds
variables_length [] [] v = refl
variables_length [] (n ∷ ns) v = absurd v
variables_length (d ∷ ds) [] v = absurd v
variables_length (d ∷ ds) (n ∷ ns) v = ap suc (variables_length ds ns v.1)

-- a tag's range lies in its type
record IsTyped (t : SiteTag) : Type 0 where
  pub low : low_of t.kind ≤ℤ t.low
  pub high : t.high ≤ℤ high_of t.kind

tag_typed : (t : SiteTag) → IsTyped t
tag_typed t =
    let a = and_left _ (int_le t.high (high_of t.kind)) t.ranged in
    record {
      low = true_le (low_of t.kind) t.low (and_left (int_le (low_of t.kind) t.low) _ a);
      high = true_le t.high (high_of t.kind) (and_right _ (int_le t.high (high_of t.kind)) t.ranged);
    }

number_typed : (t : SiteTag) (n : ℤ) → (t.low ≤ℤ n) × (n ≤ℤ t.high) → is_within (low_of t.kind) (high_of t.kind) n ≡ true
number_typed t n h =
    let k = tag_typed t in
    let a = k.low in
    let b = k.high in
    number_within (low_of t.kind) (high_of t.kind) n (omega (arith, ints, a, h.0)) (omega (arith, ints, b, h.1))

usable_typed : (tag : Tag) (t : SiteTag) (r : Reading) → tag.kind ≡ t.kind → IsUsable t r → IsReading tag r
usable_typed tag t (reading.Value n) e h = subst (λ (k : IlType). is_within (low_of k) (high_of k) n ≡ true) (sym e) (number_typed t n h)
usable_typed tag t (reading.Default n why) e h = subst (λ (k : IlType). is_within (low_of k) (high_of k) n ≡ true) (sym e) (number_typed t n h)
usable_typed tag t (reading.Absent why) e h = tt

-- ---- the readings of a program's tags

module _ (tags : List SiteTag) (readings : List Reading) (usable : AreUsable tags readings) where
  input_typed : (tag : Tag) (link : TagLink) → IsLinked tag link → HasAlike (slice_get tags link.number) link.site → IsReading tag (reading_at readings link.number)
  input_typed tag link same h = by_tag (slice_get tags link.number) refl h
    where
      by_entry : (t : SiteTag) → slice_get tags link.number ≡ Some t → IsAlike t link.site → (o : Option Reading) → slice_get readings link.number ≡ o → IsReading tag (reading_at readings link.number)
      by_entry t here alike None e = rw e tt
      by_entry t here alike (Some r) e = rw e (usable_typed tag t r (same.1 ∙ sym alike.kind) (usable link.number t r here e))

      by_tag : (o : Option SiteTag) → slice_get tags link.number ≡ o → HasAlike o link.site → IsReading tag (reading_at readings link.number)
      by_tag None here k = absurd k
      by_tag (Some t) here k = by_entry t here k (slice_get readings link.number) refl

  inputs_typed : (ts : List Tag) (links : List TagLink) → AreLinked ts links → HasLinks tags links → means.AreReadings ts (map (reading_at readings) (map number_of links))
  inputs_typed [] [] l h = tt
  inputs_typed [] (link ∷ links) l h = absurd l
  inputs_typed (t ∷ ts) [] l h = absurd l
  inputs_typed (t ∷ ts) (link ∷ links) l h = (input_typed t link l.0 h.0, inputs_typed ts links l.1 h.1)

-- ---- what clients set

sets_kept : (tags : List SiteTag) (points : List OwnPoint) (words : List ℕ) (old new : List (Option ℤ)) → Sets tags points words old new → AreSettings tags old → AreSettings tags new
sets_kept tags points [] old new h kept = subst (AreSettings tags) (sym h) kept
sets_kept tags [] (w ∷ words) old new h kept = absurd h
sets_kept tags (p ∷ ps) (w ∷ words) old new (next, (i, t, n, at, is, reads, one), rest) kept =
    sets_kept tags ps _ next new rest (subst (AreSettings tags) (sym one) (still_settings tags old i t n kept is (reads_in_range p t _ n reads)))

writes_kept : (tags : List SiteTag) (points : Option (List OwnPoint)) (words : List ℕ) (old : List (Option ℤ)) (r : Result Response Exception) (new : List (Option ℤ)) → Writes tags points words old r new → AreSettings tags old → AreSettings tags new
writes_kept tags None words old r new h kept = subst (AreSettings tags) (sym h.1) kept
writes_kept tags (Some points) words old (Ok (response.Words read)) new h kept = absurd h
writes_kept tags (Some points) words old (Ok response.Wrote) new h kept = sets_kept tags points words old new h kept
writes_kept tags (Some points) words old (Err e) new h kept = subst (AreSettings tags) (sym h.2) kept

-- ---- the site run

module _ (site : Site) (p : Program) (a : Acceptance) (right : DoesWhatItMeans p a.image) (linked : links_from site.tags 0 a.image.tags ≡ Ok a.links) (proper : IsProper a.image) (verdict : judged a.image site.tags most_deferred ≡ Ok a.budget) (matched : HasLinks site.tags a.links) where
  -- what clients set and the variables lie in their ranges
  pub record IsKept (s : Standing) : Type 0 where
    pub sets : AreSettings site.tags s.sets
    pub variables : AreVariables a.image.vars s.variables

  yes : IsYes a.image site.tags most_deferred a.budget
  yes = yes_is_accepted a.image site.tags most_deferred a.budget proper verdict

  module _ (s t : Standing) (kept : IsKept s) (h : IsScan site a.image (numbers_of a) a.budget s t) where
    abbrev inputs : List Reading
    inputs = map (reading_at h.readings) (numbers_of a)

    usable : AreUsable site.tags h.readings
    usable i u r e f = tag-usable u _ _ _ r (setting-in (λ n. (u.low ≤ℤ n) × (n ≤ℤ u.high)) s.sets i (λ n g. kept.sets i u n e g)) (h.read i u r e f)

    frames : IsFramed a.image a.links most_deferred yes.context
    frames = framed a.image site.tags most_deferred a.links yes.context linked (yes.accepted).framed

    fit : AreReadings yes.context inputs
    fit = λ i. subst (λ ts. IsReadingOf (slice_get ts i) (slice_get inputs i)) frames.tags (inputs_fit site.tags h.readings usable h.each a.links matched i)

    ranged : AreInRanges a.image.vars s.variables
    ranged = to_ranges a.image.vars s.variables kept.variables

    fine : InRanges yes.context h.end
    fine = subst (IsFine yes.context inputs) h.ended (runs_well a.image site.tags most_deferred yes.context yes.accepted inputs fit s.variables ranged a.budget)

    alike : EndsWithinAlike yes.context a.budget (Ended h.steps h.end) (bare_run a.image inputs 0 a.budget (bare_opening (pos 0) a.image s.variables))
    alike =
        subst (λ e. EndsWithinAlike yes.context a.budget e (bare_run a.image inputs 0 a.budget (bare_opening (pos 0) a.image s.variables))) h.ended
        (subst (λ n. EndsWithinAlike yes.context n (run a.image inputs 0 n (opening a.image s.variables)) (bare_run a.image inputs 0 n (bare_opening (pos 0) a.image s.variables))) (sym yes.budgeted)
        (bare_runs_out a.image site.tags most_deferred yes.context yes.accepted inputs fit s.variables ranged (pos 0)))

    same_length : length (h.end).variables ≡ length s.variables
    same_length = by_end (bare_run a.image inputs 0 a.budget (bare_opening (pos 0) a.image s.variables)) alike (run_same a.image inputs a.budget 0 (bare_opening (pos 0) a.image s.variables))
      where
        by_end : (b : BareEnding) → EndsWithinAlike yes.context a.budget (Ended h.steps h.end) b → EndsInSamePlaces (bare_opening (pos 0) a.image s.variables) b → length (h.end).variables ≡ length s.variables
        by_end (BareEnded bare b) l k = ap length (sym l.2) ∙ k.variables
        by_end (BareUnfinished b) l k = absurd l

    pub left_variables : AreVariables a.image.vars (h.end).variables
    left_variables = from_ranges a.image.vars (h.end).variables (same_length ∙ variables_length a.image.vars s.variables kept.variables) (subst (λ ds. AreInRanges ds (h.end).variables) (sym frames.variables) fine.variables)

    pub means_end : meaning p inputs s.variables ≡ Done (h.end).variables (h.end).outputs
    means_end = by_outcome (meaning p inputs s.variables) refl
        (subst (λ e. EndsAs e (meaning p inputs s.variables)) h.ended
        (right.each_end inputs s.variables (inputs_typed site.tags h.readings usable a.image.tags a.links (links_are site.tags 0 a.image.tags a.links linked) matched) kept.variables a.budget (subst IsOver (sym h.ended) tt)))
      where
        by_outcome : (m : Outcome) → meaning p inputs s.variables ≡ m → EndsAs (Ended h.steps h.end) m → meaning p inputs s.variables ≡ Done (h.end).variables (h.end).outputs
        by_outcome (Done vs os) e (steps, end, same, v, o) =
            let there : h.end ≡ end = cc in
            e ∙ ap (λ xs. Done xs os) (sym (ap (λ z. z.variables) there ∙ v)) ∙ ap (λ ys. Done (h.end).variables ys) (sym (ap (λ z. z.outputs) there ∙ o))
        by_outcome (Fails fault) e (at, same) = cc

    pub stored_ranged : AreSettings site.tags (stored_of site a h.end)
    stored_ranged = stored_in site.tags a.links (h.end).outputs (none_of site.tags) matched
        (subst (λ (tags : List TagRange). (i : ℕ) → OutputInRange (slice_get tags i) (slice_get (h.end).outputs i)) (sym frames.tags) fine.outputs) (none_in site.tags site.tags)

    scan_meant : IsMeantScan p site a s t
    scan_meant = record { scan = h; means = means_end }

    scan_kept : IsKept t
    scan_kept = record {
      sets = subst (AreSettings site.tags) (sym (ap (λ (x : Standing). x.sets) h.after)) kept.sets;
      variables = subst (AreVariables a.image.vars) (sym (ap (λ (x : Standing). x.variables) h.after)) left_variables;
    }

  still : (s t : Standing) → t.sets ≡ s.sets → t.variables ≡ s.variables → IsKept s → IsKept t
  still s t e f kept = record { sets = subst (AreSettings site.tags) (sym e) kept.sets; variables = subst (AreVariables a.image.vars) (sym f) kept.variables }

  does_kept : (s : Standing) (asked : Request) (r : Result Response Exception) (t : Standing) → Does site s asked r t → IsKept s → IsKept t
  does_kept s (request.Read addr qty) r t h kept = subst IsKept (sym h.1) kept
  does_kept s (request.WriteOne addr value) r t h kept = record {
    sets = writes_kept site.tags _ (value ∷ []) s.sets r t.sets h.0 kept.sets;
    variables = subst (AreVariables a.image.vars) (sym (ap (λ (x : Standing). x.variables) h.1)) kept.variables;
  }
  does_kept s (request.WriteMany addr words) r t h kept = record {
    sets = writes_kept site.tags _ words s.sets r t.sets h.0 kept.sets;
    variables = subst (AreVariables a.image.vars) (sym (ap (λ (x : Standing). x.variables) h.1)) kept.variables;
  }

  replies_kept : (s : Standing) (pdu : List ℕ) (asked : Result Request Exception) (reply : List ℕ) (t : Standing) → Replies site s pdu asked reply t → IsKept s → IsKept t
  replies_kept s pdu (Err e) reply t h kept = subst IsKept (sym h.1) kept
  replies_kept s pdu (Ok asked) reply t (r, does, is) kept = does_kept s asked r t does kept

  pub step_meant : (s : Standing) (e : Event) (r : Answer) (t : Standing) → IsKept s → Steps site a.image (numbers_of a) a.budget s e r t → StepsAsMeant p site a s e r t × IsKept t
  step_meant s (event.Block want words) r t kept h = (h, still s t (ap (λ (x : Standing). x.sets) h.1) (ap (λ (x : Standing). x.variables) h.1) kept)
  step_meant s (event.Lost want) r t kept h = (h, still s t (ap (λ (x : Standing). x.sets) h.1) (ap (λ (x : Standing). x.variables) h.1) kept)
  step_meant s (event.Time ms) r t kept h = (
    h,
    record {
      sets = subst (AreSettings site.tags) (sym (ap (λ (x : Standing). x.sets) h.1)) (λ i u n p q. kept.sets i u n p (held_was site.tags (all_older ms s.ages) s.sets i n q));
      variables = subst (AreVariables a.image.vars) (sym (ap (λ (x : Standing). x.variables) h.1)) kept.variables;
    },
  )
  step_meant s event.Scan r t kept h = ((h.0, scan_meant s t kept h.1), scan_kept s t kept h.1)
  step_meant s (event.Client pdu) r t kept (reply, is, replies) = ((reply, is, replies), replies_kept s pdu (request_of pdu) reply t replies kept)

  runs_meant : (s : Standing) (es : List Event) (answers : List Answer) (t : Standing) → IsKept s → Runs site a.image (numbers_of a) a.budget s es answers t → RunsAsMeant p site a s es answers t
  runs_meant s [] answers t kept h = h
  runs_meant s (e ∷ es) answers t kept (r, rest, next, step, split, run) =
      let k = step_meant s e r next kept step in
      (r, rest, next, k.0, split, runs_meant next es rest t k.1 run)

  -- nothing is set, and the variables begin with any numbers in their ranges
  pub begun_kept : (variables : List ℤ) → AreVariables a.image.vars variables → IsKept (opened site variables)
  begun_kept variables within = record { sets = none_in site.tags site.tags; variables = within }

  pub opening_kept : IsKept (opened site (map start_of a.image.vars))
  opening_kept = begun_kept (map start_of a.image.vars) (subst (λ vs. AreVariables vs (map start_of vs)) (sym right.variables) (starts_are_in_range p.variables))

  pub all_meant : (es : List Event) (answers : List Answer) (t : Standing) → Runs site a.image (numbers_of a) a.budget (opened site (map start_of a.image.vars)) es answers t → RunsAsMeant p site a (opened site (map start_of a.image.vars)) es answers t
  all_meant es answers t h = runs_meant _ es answers t opening_kept h
