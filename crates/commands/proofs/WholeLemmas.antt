-- From the texts to the core after all its scans.
use Rattle.std.proofs.Common.{◌≡◌, ℕ, List, Option, Ok, subst, sym}
use Rattle.scan_code.specs.Image.{Image, IsProper}
use Rattle.scan_vm.specs.Machine.{opened}
use Rattle.il_assemble.proofs.Rules.{images_are_proper}
use Rattle.il_reader.proofs.Bytes.{reading_is_exact}
use Rattle.il_assemble.specs.Correct.{DoesWhatItMeans}
use Rattle.verifier.specs.Links.{links_from}
use Rattle.verifier.specs.Verdict.{judged}
use Rattle.register_map.specs.Layout.{Layout}
use Rattle.gateway.specs.event_core.Core.{Gateway, IsSame, gateway_of}
use Rattle.gateway.specs.event_core.Driving.{TakesEvent}
use Rattle.gateway.specs.poller.Polling.{Polling}
use Rattle.il_assemble.specs.Meaning.{Program}
use Rattle.site_model.specs.declared.site.Site.{Site}
use Rattle.verifier.specs.Verified.{Acceptance}
use Rattle.gateway.specs.declared.event_core.event.Event.{Event}
use Rattle.commands.specs.Headline.{DoesRun, IsAccepted, RunsProgram}
use Rattle.commands.specs.Opening.{OpensCore, StartsCore}
use Rattle.commands.specs.Scans.{DoesScans, LeavesOff}
use Rattle.commands.specs.Series.{Course}
use Rattle.commands.specs.Sources.{AreTextsOf, HasTexts}
use Rattle.commands.specs.declared.pace.RunPace.{RunPace}
use Rattle.commands.specs.Accepted.{Accepts, most_deferred}
use Rattle.commands.proofs.ForLemmas.{for_its_texts, spells}
use Rattle.commands.proofs.RunLemmas.{run_from_opening}
use Rattle.commands.proofs.ScanLemmas.{follows_all}

-- what the texts are, of a program that is accepted
pub texts_of : (site program : List ℕ) (texts : List (List ℕ)) (s : Site) (p : Program) (a : Acceptance) → Accepts site program texts s p a → AreTextsOf site program texts s p a
texts_of site program texts s p a accepts =
    let on = (accepts.accepted).accepted in
    let text = (reading_is_exact program accepts.tree).0 accepts.read in
    record {
      of_site = record { models = accepts.models; defined = accepts.defined; located = accepts.located };
      of_program = record { tree = accepts.tree; spelled = text.0; short = text.1; resolved = (accepts.accepted).resolved };
      coded = on.kept;
      linked = subst (λ (i : Image). links_from s.tags 0 i.tags ≡ Ok a.links) (sym on.kept) on.linked;
    }

-- what is said of a site, a program and maps holds of those of a core that stays the same
over_core : (site : Site) (a : Acceptance) (maps : List (Option Layout)) (core : Gateway) (P : Site → Acceptance → List (Option Layout) → Type 0) → IsSame (gateway_of site maps (opened a)) core → P site a maps
    → P core.site core.machine.accepted core.maps
over_core site a maps core P same h =
    subst (λ (x : Site). P x core.machine.accepted core.maps) (sym same.site)
    (subst (λ (x : Acceptance). P site x core.maps) (sym same.accepted)
    (subst (λ (x : List (Option Layout)). P site a x) (sym same.maps) h))

abbrev course_of : Polling → Polling → Option (List ℕ) → Option (List ℕ) → ℕ → Course
course_of p q old new status = record { link_before = p; link_behind = q; out_before = old; out_behind = new; status = status }

-- a core that was opened for a program, and what it did
pub record HasRun (site program : List ℕ) (defs : List (List ℕ)) (n : RunPace) (p q : Polling) (old new : Option (List ℕ)) (core : Gateway) (status : ℕ) : Type 0 where
  pub texts : HasTexts site program defs core.site core.machine.accepted
  pub accepted : IsAccepted site program defs core.site core.machine.accepted
  pub run : RunsProgram program n (course_of p q old new status) core

has_run_opened : (site program : List ℕ) (texts : List (List ℕ)) (n : RunPace) (p middle q : Polling) (old new : Option (List ℕ)) (first core : Gateway) (status : ℕ) (s : Site) (tree : Program) (a : Acceptance)
    → Accepts site program texts s tree a → OpensCore s a p middle (Ok first) → (events : List Event) → DoesScans (TakesEvent most_deferred) n middle first events q core old new status → HasRun site program texts n p q old new core status
has_run_opened site program texts n p middle q old new first core status s tree a accepts (maps, works, found, linked, is) events does =
    let start = gateway_of s maps (opened a) in
    let from_start = subst (λ (x : Gateway). DoesScans (TakesEvent most_deferred) n middle x events q core old new status) is does in
    let same : IsSame start core = (follows_all n middle start events q core old new status from_start).1 in
    let of = texts_of site program texts s tree a accepts in
    let on = (accepts.accepted).accepted in
    let right = subst (DoesWhatItMeans tree) (sym on.kept) (accepts.accepted).right in
    let proper = subst IsProper (sym on.kept) (images_are_proper accepts.tree tree (accepts.accepted).resolved) in
    let verdict = subst (λ (i : Image). judged i s.tags most_deferred ≡ Ok a.budget) (sym on.kept) on.judged in
    record {
      texts = over_core s a maps core (λ x b ms. HasTexts site program texts x b) same (tree, of);
      accepted = over_core s a maps core (λ x b ms. IsAccepted site program texts x b) same (record { program = tree; is_for = for_its_texts site program texts s tree a of; safe = on.safe });
      run = over_core s a maps core (λ x b ms. DoesRun (gateway_of x ms (opened b)) program n (course_of p q old new status) core) same
          (run_from_opening s tree a right of.linked proper verdict linked maps program n middle events core (course_of p q old new status) (spells program tree of.of_program) found from_start);
    }

pub has_run : (site program : List ℕ) (texts : List (List ℕ)) (n : RunPace) (p middle q : Polling) (old new : Option (List ℕ)) (first core : Gateway) (status : ℕ)
    → StartsCore site program texts p middle (Ok first) → LeavesOff n middle first q core old new status → HasRun site program texts n p q old new core status
has_run site program texts n p middle q old new first core status (s, tree, a, accepts, opens) (events, does) =
    has_run_opened site program texts n p middle q old new first core status s tree a accepts opens events does
