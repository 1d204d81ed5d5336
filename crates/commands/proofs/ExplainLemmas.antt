-- What `explain` tells, from the image of a program up to the texts.
use Rattle.std.proofs.Common.{◌≡◌, ◌≢◌, ◌⊎◌, ◌++◌, [], ℕ, List, inl, inr, refl, sym, subst, ◌∙◌, ap, Result, Ok, Err, IfOk, OnOk}
use Rattle.model_defs.specs.declared.fault.DefFault.{DefFault}
use Rattle.model_defs.specs.declared.fault.DefFault.TheVariants as def_fault
use Rattle.model_defs.specs.declared.model.ModelDef.{ModelDef}
use Rattle.model_defs.specs.Fault as definition
use Rattle.site_model.specs.File.{Layout, site_in}
use Rattle.site_model.specs.Fault as site_fault
use Rattle.site_model.specs.Views.{site_view}
use Rattle.site_model.specs.declared.fault.SiteFault.{SiteFault}
use Rattle.site_model.specs.declared.fault.SiteFault.TheVariants as site_fault_kind
use Rattle.site_model.specs.declared.site.Site.{Site}
use Rattle.scan_code.specs.Image.{Image}
use Rattle.il_assemble.specs.declared.fault.AsmFault.{AsmFault}
use Rattle.il_assemble.specs.declared.fault.AsmFaultKind.TheVariants as asm_fault
use Rattle.il_assemble.specs.Assembled.{IsAssembled}
use Rattle.il_assemble.specs.Elaboration.{elaborated}
use Rattle.il_assemble.specs.Meaning.{Program}
use Rattle.il_assemble.specs.Texts.{elaborated_text}
use Rattle.il_assemble.specs.Word as assembling
use Rattle.il_reader.specs.declared.fault.ReadFault.{ReadFault}
use Rattle.il_reader.specs.declared.fault.ReadFaultKind.TheVariants as read_fault
use Rattle.il_reader.specs.declared.tree.Program.{Program as Tree}
use Rattle.il_reader.specs.Fault as read_word
use Rattle.il_reader.specs.Reading.{IsAnswer, reading}
use Rattle.verifier.specs.Verdict.{judged}
use Rattle.verifier.specs.Verified.{Acceptance}
use Rattle.facts.specs.Word as verify
use Rattle.facts.specs.declared.refusal.Refusal.{Refusal}
use Rattle.facts.specs.declared.refusal.RefusedAt.{RefusedAt}
use Rattle.facts.specs.declared.refusal.RefusedAt.TheVariants as spot
use Rattle.facts.specs.declared.refusal.RefusalKind.{RefusalKind}
use Rattle.facts.specs.declared.refusal.RefusalKind.TheVariants as refusal
use Rattle.commands.specs.Accepted.{IsAcceptedOn, RefusesAssembled, RefusesProgram, RefusesSite, RefusesVerdict, most_deferred}
use Rattle.commands.specs.Defined.{AreDefined, IsUndefined}
use Rattle.commands.specs.Explained.{EndsBy, EndsRefused, ExplainsImage, ExplainsProgram, ExplainsSite, ExplainsTexts}
use Rattle.commands.specs.Report.{bad_definition_line, bad_site_line, unassembled_line, unread_line, unverified_line}
use Rattle.commands.specs.Told.{Told, refused_with}
use Rattle.commands.proofs.AcceptedLemmas.{by_models, verified_tree}

-- a refusal that is told alone
ends_alone : (refused told : Told) → told ≡ refused → EndsBy refused told
ends_alone refused told is = record { before = []; lines = ap (λ (t : Told). t.lines) is; status = ap (λ (t : Told). t.status) is }

-- and one after other lines
pub ends_behind : (before line lines : List ℕ) (told : Told) → lines ≡ before ++ line → told ≡ refused_with lines → EndsBy (refused_with line) told
ends_behind before line lines told split is = record { before = before; lines = ap (λ (t : Told). t.lines) is ∙ split; status = ap (λ (t : Told). t.status) is }

pub accepted_told : {E : Type 0} (site : Site) (image : Image) (a : Acceptance) (r : Result Told E) → IsAcceptedOn site image a → IfOk r (λ told. told.status ≡ 0) → IfOk r (ExplainsImage site image)
accepted_told site image a (Ok told) on well = (Ok a, on, well)
accepted_told site image a (Err e) on well = tt

pub refused_told : {E : Type 0} (site : Site) (image : Image) (at : RefusedAt) (kind : RefusalKind) (r : Result Told E)
    → (judged image site.tags most_deferred ≡ Err (record { at = at; kind = kind })) ⊎ ((at ≡ spot.Program) × (kind ≡ refusal.OutOfMemory))
    → IfOk r (EndsRefused kind at) → IfOk r (ExplainsImage site image)
refused_told site image at kind (Ok told) (inl is) h =
    (Err (refused_with (unverified_line (verify.word_of kind) (verify.number_of at))), subst (λ (v : Result ℕ Refusal). RefusesVerdict v (refused_with (unverified_line (verify.word_of kind) (verify.number_of at)))) (sym is) refl, h.1)
refused_told site image at kind (Ok told) (inr is) h = absurd (h.0 is.1)
refused_told site image at kind (Err e) why h = tt

pub tree_explained : {E : Type 0} (site : Site) (tree : Tree) (image : Image) (r : Result Told E) → elaborated tree ≡ elaborated_text tree → IsAssembled tree image
    → IfOk r (ExplainsImage site image) → IfOk r (ExplainsProgram site (Ok tree))
tree_explained site tree image (Ok told) same is (given, h, e) = (given, verified_tree {E = Told} site tree image (Ok given) same is h, e)
tree_explained site tree image (Err e) same is h = tt

pub unassembled_explained : {E : Type 0} (site : Site) (tree : Tree) (fault : AsmFault) (r : Result Told E) → elaborated tree ≡ elaborated_text tree
    → (elaborated tree ≡ Err fault) ⊎ (fault ≡ assembling.out_of_memory) → OnOk r (fault.kind ≢ asm_fault.OutOfMemory)
    → IfOk r (λ o. o ≡ refused_with (unassembled_line (assembling.word_of fault.kind) fault.line)) → IfOk r (ExplainsProgram site (Ok tree))
unassembled_explained site tree fault (Ok told) same (inl why) real is =
    (Err told, subst (λ (p : Result Program AsmFault). RefusesAssembled site.tags p told) (sym why ∙ same) is, ends_alone told told refl)
unassembled_explained site tree fault (Ok told) same (inr none) real is = absurd (real (ap (λ f. f.kind) none))
unassembled_explained site tree fault (Err e) same why real is = tt

pub unread_explained : {E : Type 0} (site : Site) (text : List ℕ) (fault : ReadFault) (r : Result Told E) → IsAnswer text (Err fault) → OnOk r (fault.kind ≢ read_fault.OutOfMemory)
    → IfOk r (λ o. o ≡ refused_with (unread_line (read_word.word_of fault.kind) fault.line)) → IfOk r (ExplainsProgram site (reading text))
unread_explained site text fault (Ok told) (inl none) real is = absurd (real (ap (λ f. f.kind) none.1))
unread_explained site text fault (Ok told) (inr why) real is =
    (Err told, subst (λ (t : Result Tree ReadFault). RefusesProgram site.tags t told) (sym why) is, ends_alone told told refl)
unread_explained site text fault (Err e) why real is = tt

pub site_explained : {E : Type 0} (models : List ModelDef) (text program : List ℕ) (site : Site) (r : Result Told E) → site_in models text ≡ Ok (site_view site)
    → IfOk r (ExplainsProgram site (reading program)) → IfOk r (ExplainsSite models text program)
site_explained models text program site (Ok told) located (Ok a, h, e) = (Ok (record { site = site; verified = a }), (located, h), e)
site_explained models text program site (Ok told) located (Err refused, h, e) =
    (Err refused, subst (λ (l : Result Layout SiteFault). RefusesSite l program refused) (sym located) (site.tags, refl, h), e)
site_explained models text program site (Err e) located h = tt

pub no_site_explained : {E : Type 0} (models : List ModelDef) (text program : List ℕ) (fault : SiteFault) (r : Result Told E)
    → (fault ≢ site_fault_kind.OutOfMemory → site_in models text ≡ Err fault) → OnOk r (fault ≢ site_fault_kind.OutOfMemory)
    → IfOk r (λ o. o ≡ refused_with (bad_site_line (site_fault.fault_word fault))) → IfOk r (ExplainsSite models text program)
no_site_explained models text program fault (Ok told) why real is =
    (Err told, subst (λ (l : Result Layout SiteFault). RefusesSite l program told) (sym (why real)) is, ends_alone told told refl)
no_site_explained models text program fault (Err e) why real is = tt

pub models_explained : {E : Type 0} (models : List ModelDef) (texts : List (List ℕ)) (site program : List ℕ) (r : Result Told E) → AreDefined texts models
    → IfOk r (ExplainsSite models site program) → IfOk r (ExplainsTexts site program texts)
models_explained models texts site program (Ok told) defined (given, h, e) = (given, by_models {E = Told} models texts site program (Ok given) defined h, e)
models_explained models texts site program (Err e) defined h = tt

pub undefined_explained : {E : Type 0} (site program : List ℕ) (texts : List (List ℕ)) (fault : DefFault) (r : Result Told E)
    → (fault ≢ def_fault.OutOfMemory → IsUndefined texts fault) → OnOk r (fault ≢ def_fault.OutOfMemory)
    → IfOk r (λ o. o ≡ refused_with (bad_definition_line (definition.fault_word fault))) → IfOk r (ExplainsTexts site program texts)
undefined_explained site program texts fault (Ok told) broken real is = (Err told, inr (fault, broken real, is), ends_alone told told refl)
undefined_explained site program texts fault (Err e) broken real is = tt
