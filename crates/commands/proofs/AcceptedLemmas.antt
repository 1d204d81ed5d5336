-- A program that is accepted for a site, and what is made of it.
use Rattle.std.proofs.Common.{◌≡◌, ◌≢◌, ◌⊎◌, ℕ, List, inl, inr, refl, ap, sym, subst, ◌∙◌, Result, Ok, Err, IfOk, OnErr}
use Rattle.model_defs.specs.declared.model.ModelDef.{ModelDef}
use Rattle.il_assemble.specs.declared.fault.AsmFault.{AsmFault}
use Rattle.il_assemble.specs.Assembled.{IsAssembled}
use Rattle.il_assemble.specs.Correct.{DoesWhatItMeans}
use Rattle.il_assemble.specs.Elaboration.{elaborated}
use Rattle.il_assemble.specs.Meaning.{Program}
use Rattle.il_assemble.specs.Texts.{elaborated_text}
use Rattle.il_reader.specs.declared.fault.ReadFault.{ReadFault}
use Rattle.il_reader.specs.declared.tree.Program.{Program as Tree}
use Rattle.il_reader.specs.Reading.{reading}
use Rattle.scan_code.specs.Image.{Image}
use Rattle.site_model.specs.declared.site.Site.{Site}
use Rattle.verifier.specs.Verdict.{judged}
use Rattle.verifier.specs.Verified.{Acceptance}
use Rattle.facts.specs.Word as verdict_word
use Rattle.facts.specs.declared.refusal.Refusal.{Refusal}
use Rattle.facts.specs.declared.refusal.RefusedAt.{RefusedAt}
use Rattle.facts.specs.declared.refusal.RefusedAt.TheVariants as spot
use Rattle.facts.specs.declared.refusal.RefusalKind.{RefusalKind}
use Rattle.facts.specs.declared.refusal.RefusalKind.TheVariants as refusal
use Rattle.gateway.specs.event_core.Core.{Gateway}
use Rattle.gateway.specs.poller.Polling.{Polling}
use Rattle.commands.specs.declared.accepted.Accepted.{Accepted}
use Rattle.commands.specs.Accepted.{AcceptsProgram, Gives, GivesSite, GivesVerdict, GivesVerified, IsAcceptedOn, RefusesAssembled, RefusesVerdict, most_deferred}
use Rattle.commands.specs.Check.{TellsInputs}
use Rattle.commands.specs.Defined.{AreDefined}
use Rattle.commands.specs.Report.{accepted_lines, unverified_line}
use Rattle.commands.specs.Opening.{IsSearched, LeavesPoller, OpensCore, StartsCore}
use Rattle.commands.specs.Told.{Told, refused_with}

-- what is told of an image that the verdict refuses
pub verdict_told : {E : Type 0} (site : Site) (image : Image) (at : RefusedAt) (kind : RefusalKind) (r : Result (Result Acceptance Told) E)
    → (judged image site.tags most_deferred ≡ Err (record { at = at; kind = kind })) ⊎ ((at ≡ spot.Program) × (kind ≡ refusal.OutOfMemory))
    → IfOk r (λ none. (kind ≢ refusal.OutOfMemory) × (none ≡ Err (refused_with (unverified_line (verdict_word.word_of kind) (verdict_word.number_of at))))) → IfOk r (GivesVerdict site image)
verdict_told site image at kind (Ok none) (inl is) h =
    subst (GivesVerdict site image) (sym h.1) (subst (λ (v : Result ℕ Refusal). RefusesVerdict v (refused_with (unverified_line (verdict_word.word_of kind) (verdict_word.number_of at)))) (sym is) refl)
verdict_told site image at kind (Ok none) (inr is) h = absurd (h.0 is.1)
verdict_told site image at kind (Err e) why h = tt

-- the verdict on an assembled image is one on its tree
pub verified_tree : {E : Type 0} (site : Site) (tree : Tree) (image : Image) (r : Result (Result Acceptance Told) E)
    → elaborated tree ≡ elaborated_text tree → IsAssembled tree image → IfOk r (GivesVerdict site image) → IfOk r (GivesVerified site (Ok tree))
verified_tree site tree image (Ok (Ok a)) same is h = (
  is.program,
  record {
    resolved = is.resolved;
    right = subst (DoesWhatItMeans is.program) is.coded is.right;
    accepted = subst (λ (i : Image). IsAcceptedOn site i a) is.coded h;
  },
)
verified_tree site tree image (Ok (Err told)) same is h =
    subst (λ (p : Result Program AsmFault). RefusesAssembled site.tags p told) (sym is.resolved ∙ same)
    (subst (λ (i : Image). RefusesVerdict (judged i site.tags most_deferred) told) is.coded h)
verified_tree site tree image (Err e) same is h = tt

-- a program and a site over the definitions of texts
pub by_models : {E : Type 0} (models : List ModelDef) (texts : List (List ℕ)) (site program : List ℕ) (r : Result (Result Accepted Told) E)
    → AreDefined texts models → IfOk r (GivesSite models site program) → IfOk r (Gives site program texts)
by_models models texts site program (Ok (Ok given)) defined h = by_reading (reading program) refl h.1
  where
    by_reading : (t : Result Tree ReadFault) → reading program ≡ t → AcceptsProgram given.site t given.verified → Gives site program texts (Ok given)
    by_reading (Ok tree) read a =
        (a.0, record { models = models; defined = defined; located = h.0; tree = tree; read = read; accepted = a.1 })
    by_reading (Err fault) read a = absurd a
by_models models texts site program (Ok (Err told)) defined h = inl (models, defined, h)
by_models models texts site program (Err e) defined h = tt

-- what `check` tells of it
pub told_accepted : {E : Type 0} (texts : List (List ℕ)) (site program : List ℕ) (given : Accepted) (budget : ℕ) (r : Result Told E)
    → Gives site program texts (Ok given) → budget ≡ given.verified.budget → IfOk r (λ o. o ≡ record { lines = accepted_lines budget; status = 0 }) → IfOk r (TellsInputs site program texts)
told_accepted texts site program given budget (Ok told) h e t =
    inl (given.site, h.0, given.verified, h.1, t ∙ ap (λ n. record { lines = accepted_lines n; status = 0 }) e)
told_accepted texts site program given budget (Err e) h same t = tt

-- the core of it
pub core_accepted : {E : Type 0} (texts : List (List ℕ)) (site program : List ℕ) (p q : Polling) (given : Accepted) (r : Result (Result Gateway Told) E)
    → Gives site program texts (Ok given) → IfOk r (OpensCore given.site given.verified p q) → IfOk r (StartsCore site program texts p q)
core_accepted texts site program p q given (Ok (Ok core)) h k = (given.site, h.0, given.verified, h.1, k)
core_accepted texts site program p q given (Ok (Err told)) h k = inr (given.site, h.0, given.verified, h.1, k)
core_accepted texts site program p q given (Err e) h k = tt

-- the poller where memory was refused after it
pub left_searched : {T E : Type 0} (texts : List (List ℕ)) (site program : List ℕ) (p q : Polling) (given : Accepted) (r : Result T E)
    → Gives site program texts (Ok given) → OnErr r (IsSearched given.site.devices p q) → OnErr r (LeavesPoller site program texts p q)
left_searched texts site program p q given (Ok x) h k = tt
left_searched texts site program p q given (Err e) h k = inr (given.site, h.0, given.verified, h.1, k)
