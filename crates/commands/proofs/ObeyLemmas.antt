-- What comes of a command, by what the call for it ensures.
use Rattle.std.proofs.Common.{◌≡◌, ℕ, inl, refl, List, Option, Some, None, IfSome, IfNone, Ok, sym, subst}
use Rattle.scan_code.specs.Image.{Image}
use Rattle.il_assemble.specs.Correct.{DoesWhatItMeans}
use Rattle.il_assemble.specs.Meaning.{Program}
use Rattle.model_defs.specs.declared.model.ModelDef.{ModelDef}
use Rattle.modbus_frame.specs.declared.link.LinkFault.{LinkFault}
use Rattle.site_model.specs.declared.site.Site.{Site}
use Rattle.verifier.specs.Verdict.{judged}
use Rattle.verifier.specs.Verified.{Acceptance}
use Rattle.gateway.specs.event_core.Core.{Gateway}
use Rattle.gateway.specs.poller.Polling.{Polling}
use Rattle.commands.specs.Accepted.{Accepts, most_deferred}
use Rattle.commands.specs.Check.{IsCheck}
use Rattle.commands.specs.Defined.{AreDefined}
use Rattle.commands.specs.Headline.{IsAccepted, RunsProgram}
use Rattle.commands.specs.declared.pace.RunPace.{RunPace}
use Rattle.commands.specs.Obeyed.{Checks, IsSound, ProbesBy, ProbesOver, Runs}
use Rattle.commands.specs.Opening.{IsRefused}
use Rattle.commands.specs.Printed.{IsUnlinked}
use Rattle.commands.specs.Probe.{IsProbe}
use Rattle.commands.specs.Sources.{HasTexts}
use Rattle.commands.proofs.CheckLemmas.{prints_where}

-- a program that is accepted is sound
sound_of : (site program : List ℕ) (texts : List (List ℕ)) (s : Site) (p : Program) (a : Acceptance) → Accepts site program texts s p a → IsSound s p a
sound_of site program texts s p a accepts = record {
  judged = subst (λ (i : Image). judged i s.tags most_deferred ≡ Ok a.budget) (sym ((accepts.accepted).accepted).kept) ((accepts.accepted).accepted).judged;
  safe = ((accepts.accepted).accepted).safe;
  means = subst (DoesWhatItMeans p) (sym ((accepts.accepted).accepted).kept) (accepts.accepted).right;
}

pub checks_by : (site program : List ℕ) (texts : List (List ℕ)) (old new : Option (List ℕ)) (told status : ℕ)
    → IsCheck site program texts old new told → status ≡ told → Checks site program texts old new status
checks_by site program texts old new told status is same = subst (Checks site program texts old new) (sym same) (record {
  told = is;
  sound = prints_where site program texts old new told IsSound (sound_of site program texts) is;
})

pub runs_by : (site program : List ℕ) (texts : List (List ℕ)) (n : RunPace) (p q : Polling) (old new : Option (List ℕ)) (core : Option Gateway) (status : ℕ)
    → IfSome core (λ core. HasTexts site program texts core.site core.machine.accepted)
    → IfSome core (λ core. IsAccepted site program texts core.site core.machine.accepted)
    → IfSome core (λ core. RunsProgram program n (record { link_before = p; link_behind = q; out_before = old; out_behind = new; status = status }) core)
    → IfNone core (IsRefused site program texts p q old new status)
    → Runs site program texts n p q old new core status
runs_by site program texts n p q old new (Some core) status of accepted run refused = (of, accepted, run)
runs_by site program texts n p q old new None status of accepted run refused = refused

pub probes_by : (unit : ℕ) (texts : List (List ℕ)) (models : List ModelDef) (p q : Polling) (old new : Option (List ℕ)) (status : ℕ) → AreDefined texts models
    → (p.fault ≡ None → IsProbe unit models p old q new status) → IfSome p.fault (λ fault. IsUnlinked fault old new status × (q ≡ p))
    → ProbesBy unit texts p q old new status
probes_by unit texts models p q old new status defined works stands = inl (models, defined, by_fault p.fault refl stands)
  where
    by_fault : (o : Option LinkFault) → p.fault ≡ o → IfSome o (λ fault. IsUnlinked fault old new status × (q ≡ p)) → ProbesOver o unit models p q old new status
    by_fault None e h = works e
    by_fault (Some fault) e h = h
