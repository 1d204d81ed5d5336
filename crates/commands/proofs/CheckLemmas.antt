-- What `check` says where its status is 0.
use Rattle.std.proofs.Common.{◌≡◌, ℕ, inl, inr, List, Option, Result, Ok, Err, sym, ap, subst, arith}
use Rattle.scan_code.specs.Image.{Image}
use Rattle.il_assemble.specs.declared.fault.AsmFault.{AsmFault}
use Rattle.il_assemble.specs.Code.{image_of}
use Rattle.il_assemble.specs.Correct.{DoesWhatItMeans}
use Rattle.il_assemble.specs.Meaning.{Program}
use Rattle.il_assemble.specs.Texts.{elaborated_text}
use Rattle.il_reader.specs.declared.fault.ReadFault.{ReadFault}
use Rattle.il_reader.specs.declared.tree.Program.{Program as Tree}
use Rattle.il_reader.specs.Reading.{reading}
use Rattle.site_model.specs.File.{Layout, site_in}
use Rattle.site_model.specs.declared.fault.SiteFault.{SiteFault}
use Rattle.site_model.specs.declared.site.Site.{Site}
use Rattle.site_model.specs.declared.tag.SiteTag.{SiteTag}
use Rattle.facts.specs.declared.refusal.Refusal.{Refusal}
use Rattle.verifier.specs.Safe.{NeverGoesWrong}
use Rattle.verifier.specs.Verdict.{judged}
use Rattle.verifier.specs.Verified.{Acceptance}
use Rattle.commands.specs.Accepted.{Accepts, Refuses, RefusesAssembled, RefusesProgram, RefusesSite, RefusesVerdict, most_deferred}
use Rattle.commands.specs.Check.{IsCheck, PrintsAccepted}
use Rattle.commands.specs.Report.{accepted_lines}
use Rattle.commands.specs.Told.{IsTold, Told}
use Rattle.commands.proofs.ScanLemmas.{told_well}
use Rattle.commands.proofs.WholeLemmas.{texts_of}

-- ---- a refusal has status 1

verdict_status : (r : Result ℕ Refusal) (told : Told) → RefusesVerdict r told → told.status ≡ 1
verdict_status (Ok budget) told h = absurd h
verdict_status (Err refusal) told h = ap (λ (t : Told). t.status) h

assembled_status : (tags : List SiteTag) (r : Result Program AsmFault) (told : Told) → RefusesAssembled tags r told → told.status ≡ 1
assembled_status tags (Ok p) told h = verdict_status (judged (image_of p) tags most_deferred) told h
assembled_status tags (Err fault) told h = ap (λ (t : Told). t.status) h

program_status : (tags : List SiteTag) (r : Result Tree ReadFault) (told : Told) → RefusesProgram tags r told → told.status ≡ 1
program_status tags (Ok tree) told h = assembled_status tags (elaborated_text tree) told h
program_status tags (Err fault) told h = ap (λ (t : Told). t.status) h

site_status : (r : Result Layout SiteFault) (program : List ℕ) (told : Told) → RefusesSite r program told → told.status ≡ 1
site_status (Ok layout) program told (tags, same, h) = program_status tags (reading program) told h
site_status (Err fault) program told h = ap (λ (t : Told). t.status) h

pub refused_status : (site program : List ℕ) (texts : List (List ℕ)) (told : Told) → Refuses site program texts told → told.status ≡ 1
refused_status site program texts told (inl (models, defined, h)) = site_status (site_in models site) program told h
refused_status site program texts told (inr (fault, broken, is)) = ap (λ (t : Told). t.status) is

never_well : (old new : Option (List ℕ)) (told : Told) (status : ℕ) → told.status ≡ 1 → IsTold old new told status → status ≡ 0 → ⊥
never_well old new told status one (inl h) well = let same = h.1 in omega (arith, one, same, well)
never_well old new told status one (inr h) well = let same = h.1 in omega (arith, same, well)

-- ---- status 0 is that of an accepted program

module _ (site program : List ℕ) (texts : List (List ℕ)) (old new : Option (List ℕ)) (status : ℕ) where
  pub prints_where : (P : Site → Program → Acceptance → Type 0) → ((s : Site) (p : Program) (a : Acceptance) → Accepts site program texts s p a → P s p a)
      → IsCheck site program texts old new status → status ≡ 0 → PrintsAccepted site program texts old new P
  prints_where P holds (told, inl (inl (s, p, a, accepts, is)), tells) well =
      (s, p, a, texts_of site program texts s p a accepts, told_well old new (accepted_lines a.budget) status (subst (λ (t : Told). IsTold old new t status) is tells) well, holds s p a accepts)
  prints_where P holds (told, inl (inr refuses), tells) well = absurd (never_well old new told status (refused_status site program texts told refuses) tells well)
  prints_where P holds (told, inr is, tells) well = absurd (never_well old new told status (ap (λ (t : Told). t.status) is) tells well)

  pub prints_verdict : IsCheck site program texts old new status → status ≡ 0 → PrintsAccepted site program texts old new (λ s p a. judged a.image s.tags most_deferred ≡ Ok a.budget)
  prints_verdict = prints_where (λ s p a. judged a.image s.tags most_deferred ≡ Ok a.budget)
      (λ s p a accepts. subst (λ (i : Image). judged i s.tags most_deferred ≡ Ok a.budget) (sym ((accepts.accepted).accepted).kept) ((accepts.accepted).accepted).judged)

  pub prints_safe : IsCheck site program texts old new status → status ≡ 0 → PrintsAccepted site program texts old new (λ s p a. NeverGoesWrong a)
  prints_safe = prints_where (λ s p a. NeverGoesWrong a) (λ s p a accepts. ((accepts.accepted).accepted).safe)

  pub prints_meant : IsCheck site program texts old new status → status ≡ 0 → PrintsAccepted site program texts old new (λ s p a. DoesWhatItMeans p a.image)
  prints_meant = prints_where (λ s p a. DoesWhatItMeans p a.image)
      (λ s p a accepts. subst (DoesWhatItMeans p) (sym ((accepts.accepted).accepted).kept) (accepts.accepted).right)
