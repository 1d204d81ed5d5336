-- What the verdict's yes promises of the scans of a program.
use Rattle.std.proofs.Common.{◌≡◌, ℕ, zero, suc, ◌≤◌, ℤ, List, [], ◌∷◌, map, Ok, Option, Some, None, true, slice_get, refl, sym, ap, subst, ◌∙◌, IsTrue, int_le, ◌&&◌}
use Rattle.point_types.specs.declared.il_type.IlType.{IlType}
use Rattle.point_types.specs.declared.reading.Reading.{Reading}
use Rattle.point_types.specs.declared.reading.Reading.TheVariants as reading
use Rattle.point_types.specs.declared.variable.Var.{Var}
use Rattle.point_types.specs.Value.{◌>>=◌, is_ranged, is_within, low_of, high_of}
use Rattle.scan_code.specs.Image.{Image}
use Rattle.scan_code.specs.Machine.{State, Ending, Ended, Trapped, Unfinished, run, opening}
use Rattle.scan_code.specs.Table.{start_of}
use Rattle.site_model.specs.Readings.{IsUsable}
use Rattle.site_model.specs.declared.tag.SiteTag.{SiteTag}
use Rattle.verifier.specs.Budget.{budget}
use Rattle.verifier.specs.declared.tag_link.TagLink.{TagLink}
use Rattle.facts.specs.Fit.{IsIn}
use Rattle.facts.specs.Flow.{Context, TagRange}
use Rattle.facts.specs.Span.{Between}
use Rattle.verifier.specs.Links.{links_from}
use Rattle.verifier.specs.Listing.{is_there, listing_of}
use Rattle.verifier.specs.Promise.{IsFrameOf, AcceptedFitFacts}
use Rattle.verifier.specs.Ranges.{range_of}
use Rattle.verifier.specs.Safe.{AcceptedNeverGoWrong, AreReadFor, AreRowsFor, EachEndsWell, EndsWell, IsOutputFor, IsValueOf, LeavesInRange}
use Rattle.verifier.specs.Sound.{AreInRanges, AreRows, EndsAndThen, HasRange, InRanges, IsInputOf, IsReadingOf, OutputInRange, ScansEnd}
use Rattle.verifier.specs.Verdict.{frame_of}
use Rattle.verifier.specs.Verified.{Acceptance}
use Rattle.facts.proofs.Comparing.{true_le, and_left, and_right}
use Rattle.verifier.proofs.Images.{by_both, ok_is}
use Rattle.verifier.proofs.Scans as scans

-- the context of a program is that of its links
pub frame_is : (image : Image) (site : List SiteTag) (depth : ℕ) (links : List TagLink) (budget : ℕ) (c : Context) → links_from site 0 image.tags ≡ Ok links → frame_of image site depth ≡ Ok c → IsFrameOf depth (record { image = image; links = links; budget = budget }) c
frame_is image site depth links steps c p e = by_both (links_from site 0 image.tags) (λ ls. listing_of image >>= λ listing. Ok (record { variables = image.vars; tags = map range_of ls; depth = depth; listing = listing })) c e
    (λ ls q f. by_both (listing_of image) (λ listing. Ok (record { variables = image.vars; tags = map range_of ls; depth = depth; listing = listing })) c f
    (λ listing r g.
    let same : ls ≡ links = ok_is ls links (sym q ∙ p) in
    subst (λ (x : Context). IsFrameOf depth (record { image = image; links = links; budget = steps }) x) (ok_is _ c g)
    (record { variables = refl; tags = ap (map range_of) same; depth = refl; listing = r })))

start_there : (o : Option Var) → HasRange o (elim o [ None ↦ None | Some d ↦ Some d.start ])
start_there None = tt
start_there (Some d) = within d.kind d.low d.high d.start d.ranged
  where
    within : (k : IlType) (low high start : ℤ) → IsTrue (is_ranged k low high start) → IsIn (Between low high) start
    within k low high start h =
        let f : is_ranged k low high start ≡ true = h in
        let g = and_right (int_le (low_of k) low) (is_within low high start) (and_left (int_le (low_of k) low && is_within low high start) (int_le high (high_of k)) f) in
        (true_le low start (and_left (int_le low start) (int_le start high) g), true_le start high (and_right (int_le low start) (int_le start high) g))

starts_there : (vars : List Var) → AreInRanges vars (map start_of vars)
starts_there [] i = tt
starts_there (d ∷ vars) zero = start_there (Some d)
starts_there (d ∷ vars) (suc i) = starts_there vars i

-- ---- by the site's tags

usable_input : (link : TagLink) (r : Reading) → IsUsable link.site r → IsInputOf (range_of link) r
usable_input link (reading.Value n) h = h
usable_input link (reading.Default n c) h = h
usable_input link (reading.Absent c) h = ap (λ (o : Option ℤ). is_there o) h

readings_for : (links : List TagLink) (rs : List Reading) → AreReadFor links rs → (t : ℕ) → IsReadingOf (slice_get (map range_of links) t) (slice_get rs t)
readings_for [] rs h t = tt
readings_for (link ∷ links) [] h zero = h zero
readings_for (link ∷ links) [] h (suc t) = readings_for links [] (λ k. h (suc k)) t
readings_for (link ∷ links) (r ∷ rs) h zero = λ loaded. usable_input link r (h zero loaded)
readings_for (link ∷ links) (r ∷ rs) h (suc t) = readings_for links rs (λ k. h (suc k)) t

value_in : (d : Option Var) (n : Option ℤ) → IsValueOf d n → HasRange d n
value_in None n h = tt
value_in (Some d) None h = h
value_in (Some d) (Some n) h = h

value_of : (d : Option Var) (n : Option ℤ) → HasRange d n → IsValueOf d n
value_of None n h = tt
value_of (Some d) None h = h
value_of (Some d) (Some n) h = h

never_stored : (o : Option (Option ℤ)) → OutputInRange None o → IsOutputFor None o
never_stored None h = tt
never_stored (Some None) h = tt
never_stored (Some (Some n)) h = h

not_there : (link : Option TagLink) → IsOutputFor link None
not_there None = tt
not_there (Some link) = tt

stored_for : (link : TagLink) (o : Option ℤ) → OutputInRange (Some (range_of link)) (Some o) → IsOutputFor (Some link) (Some o)
stored_for link None h = tt
stored_for link (Some n) h = (h.0.0, h.0.1, h.1)

outputs_for : (links : List TagLink) (outputs : List (Option ℤ)) → ((t : ℕ) → OutputInRange (slice_get (map range_of links) t) (slice_get outputs t)) → (t : ℕ) → IsOutputFor (slice_get links t) (slice_get outputs t)
outputs_for [] outputs h t = never_stored (slice_get outputs t) (h t)
outputs_for (link ∷ links) [] h zero = tt
outputs_for (link ∷ links) [] h (suc t) = not_there (slice_get links t)
outputs_for (link ∷ links) (o ∷ outputs) h zero = stored_for link o (h zero)
outputs_for (link ∷ links) (o ∷ outputs) h (suc t) = outputs_for links outputs (λ k. h (suc k)) t

-- ---- one scan after another

module _ (depth : ℕ) (a : Acceptance) (c : Context) (framed : IsFrameOf depth a c) (same : a.budget ≡ budget c) where
  rows_for : (rows : List (List Reading)) → AreRowsFor a.links rows → AreRows c rows
  rows_for [] h = tt
  rows_for (rs ∷ rows) h = (subst (λ (tags : List TagRange). (t : ℕ) → IsReadingOf (slice_get tags t) (slice_get rs t)) (sym framed.tags) (readings_for a.links rs h.0), rows_for rows h.1)

  left_in_range : (s : State) → InRanges c s → LeavesInRange a s
  left_in_range s h = record {
    variables = λ i. value_of (slice_get a.image.vars i) (slice_get s.variables i) (subst (λ (ds : List Var). HasRange (slice_get ds i) (slice_get s.variables i)) framed.variables (h.variables i));
    outputs = outputs_for a.links s.outputs (subst (λ (tags : List TagRange). (t : ℕ) → OutputInRange (slice_get tags t) (slice_get s.outputs t)) framed.tags h.outputs);
  }

  ends_well : (e : Ending) (rows : List (List Reading)) → EndsAndThen c e (ScansEnd a.image c rows) → ((left : List ℤ) → ScansEnd a.image c rows left → EachEndsWell a rows left) → EndsWell a e (EachEndsWell a rows)
  ends_well (Ended steps s) rows h on = (subst (λ (n : ℕ). steps ≤ n) (sym same) h.0, left_in_range s h.1, on s.variables h.2)
  ends_well (Trapped at e) rows h on = h
  ends_well (Unfinished s) rows h on = h

  each_ends_well : (rows : List (List Reading)) (variables : List ℤ) → ScansEnd a.image c rows variables → EachEndsWell a rows variables
  each_ends_well [] variables h = tt
  each_ends_well (rs ∷ rows) variables h =
      ends_well (run a.image rs 0 a.budget (opening a.image variables)) rows
      (subst (λ (n : ℕ). EndsAndThen c (run a.image rs 0 n (opening a.image variables)) (ScansEnd a.image c rows)) (sym same) h)
      (λ left k. each_ends_well rows left k)

-- ---- what the verdict's yes promises

pub fit_facts : AcceptedFitFacts
fit_facts depth a h =
    let yes = scans.yes_is_accepted a.image h.site depth a.budget h.proper h.judged in
    record {
      context = yes.context;
      framed = frame_is a.image h.site depth a.links a.budget yes.context h.linked yes.accepted.framed;
      budgeted = yes.budgeted;
      fine = scans.runs_well a.image h.site depth yes.context yes.accepted;
    }

pub never_go_wrong : AcceptedNeverGoWrong
never_go_wrong depth a h =
    let yes = scans.yes_is_accepted a.image h.site depth a.budget h.proper h.judged in
    let framed = frame_is a.image h.site depth a.links a.budget yes.context h.linked yes.accepted.framed in
    record {
      bounded = yes.bounded;
      starts = λ i. value_of (slice_get a.image.vars i) (slice_get (map start_of a.image.vars) i) (starts_there a.image.vars i);
      scans = λ rows read variables within. each_ends_well depth a yes.context framed yes.budgeted rows variables
          (scans.every_scan_ends a.image h.site depth yes.context yes.accepted rows (rows_for depth a yes.context framed yes.budgeted rows read) variables
          (λ i. value_in (slice_get a.image.vars i) (slice_get variables i) (within i)));
    }
