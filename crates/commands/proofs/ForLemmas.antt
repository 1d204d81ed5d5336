-- What the texts that break no rule describe and spell.
use Rattle.std.proofs.Common.{◌≡◌, ℕ, ◌+◌, Bool, true, false, not, List, [], ◌∷◌, ◌++◌, Option, Some, None, Result, Ok, Err, slice_get, nat_eq, refl, sym, ap, subst, ◌∙◌, append_assoc, append-nil, if◌then◌else◌}
use Rattle.std.proofs.lemmas.Slice.Eq.{bytes_eq-Decides}
use Rattle.point_types.specs.Value.{code_of, ◌>>=◌}
use Rattle.model_defs.specs.declared.model.ModelDef.{ModelDef}
use Rattle.scan_code.specs.Image.{Image}
use Rattle.scan_code.specs.declared.image.Tag.{Tag}
use Rattle.site_model.specs.declared.site.Site.{Site}
use Rattle.site_model.specs.declared.tag.SiteTag.{SiteTag}
use Rattle.site_model.proofs.ToldKeys.{by_both, ok_is, stands_at}
use Rattle.site_model.proofs.ToldSite.{sites_are_told}
use Rattle.il_assemble.specs.Meaning.{Program}
use Rattle.il_assemble.proofs.Elaborating.{parts}
use Rattle.facts.specs.Fact.{same_bool}
use Rattle.facts.specs.declared.refusal.RefusalKind.{RefusalKind}
use Rattle.facts.specs.declared.refusal.RefusalKind.TheVariants.{TagType, TagAccess}
use Rattle.facts.proofs.Covering.{same_bool_out, same_code}
use Rattle.verifier.specs.declared.tag_link.TagLink.{TagLink}
use Rattle.verifier.specs.Links.{allowed, found, is_called, is_stored, link_of, links_from, number_of, refused_at, there}
use Rattle.verifier.specs.Verified.{Acceptance}
use Rattle.commands.specs.Defined.{AreRead, all_texts}
use Rattle.commands.specs.Described.{AreTagsOf, DefineAll, Describes, IsTagOf, Spells}
use Rattle.commands.specs.Headline.{IsFor}
use Rattle.commands.specs.Sources.{AreTextsOf, IsSiteOf, IsTextOf}
use Rattle.commands.proofs.ModelLemmas.{is_model_of}

-- ---- the texts

pub spells : (text : List ℕ) (p : Program) → IsTextOf text p → Spells text p
spells text p of = record { tree = of.tree; spelled = of.spelled; resolved = sym (parts of.tree p of.resolved).1 }

defines : (texts : List (List ℕ)) (before models : List ModelDef) → AreRead texts before models → (rest : List ModelDef) × (models ≡ before ++ rest) × DefineAll texts rest
defines [] before models h = ([], h ∙ sym (append-nil before), tt)
defines (text ∷ texts) before models (model, (tree, is, unbroken, stands), more) =
    let k = defines texts (before ++ model ∷ []) models more in
    (model ∷ k.0, k.1 ∙ append_assoc before (model ∷ []) k.0, ((tree, is, is_model_of tree model unbroken stands), k.2))

describes : (text : List ℕ) (texts : List (List ℕ)) (site : Site) → IsSiteOf text texts site → Describes text texts site
describes text texts site of =
    let k = defines (all_texts texts) [] of.models of.defined in
    record {
      models = of.models;
      defined = subst (λ (ms : List ModelDef). DefineAll (all_texts texts) ms) (sym k.1) k.2;
      told = sites_are_told of.models text site of.located;
    }

-- ---- the links

linked_to : (tags : List SiteTag) (tag : Tag) (n : ℕ) (s : SiteTag) (l : TagLink) → slice_get tags n ≡ Some s → s.name ≡ tag.name → allowed tag (record { number = n; site = s }) ≡ Ok l → IsTagOf tags tag l
linked_to tags tag n s l at name e = kinds (nat_eq (code_of tag.kind) (code_of s.kind)) refl e
  where
    access : (t : Bool) → same_bool tag.output (is_stored s.access) ≡ t → tag.kind ≡ s.kind → ◌≡◌ {A = Result TagLink RefusalKind} (if not t then Err TagAccess else Ok (record { number = n; site = s })) (Ok l) → IsTagOf tags tag l
    access true p k f = subst (λ (x : TagLink). IsTagOf tags tag x) (ok_is (record { number = n; site = s }) l f) (record { there = at; name = name; kind = sym k; stored = sym (same_bool_out _ _ p) })
    access false p k f = absurd (cc)

    kinds : (t : Bool) → nat_eq (code_of tag.kind) (code_of s.kind) ≡ t
        → ◌≡◌ {A = Result TagLink RefusalKind} (if not t then Err TagType else (if not (same_bool tag.output (is_stored s.access)) then Err TagAccess else Ok (record { number = n; site = s }))) (Ok l) → IsTagOf tags tag l
    kinds true p f = access (same_bool tag.output (is_stored s.access)) refl (same_code tag.kind s.kind p) f
    kinds false p f = absurd (cc)

found_told : (tags : List SiteTag) (tag : Tag) (o : Option ℕ) (l : TagLink) → number_of tags tag.name ≡ o → found tags tag o ≡ Ok l → IsTagOf tags tag l
found_told tags tag None l p e = absurd (cc)
found_told tags tag (Some n) l p e =
    let h = stands_at (is_called tag.name) tags n p in
    linked_to tags tag n h.0 l h.1 ((bytes_eq-Decides (h.0).name tag.name).0 h.2) (ap (there tag n) (sym h.1) ∙ e)

unrefused : (n : ℕ) (r : Result TagLink RefusalKind) (l : TagLink) → refused_at n r ≡ Ok l → r ≡ Ok l
unrefused n (Ok k) l e = ap Ok (ok_is k l e)
unrefused n (Err x) l e = absurd (cc)

links_told : (site : List SiteTag) (n : ℕ) (tags : List Tag) (links : List TagLink) → links_from site n tags ≡ Ok links → AreTagsOf site tags links
links_told site n [] [] e = tt
links_told site n [] (l ∷ ls) e = absurd (cc)
links_told site n (t ∷ ts) links e = by_both (refused_at n (link_of site t)) (λ link. links_from site (n + 1) ts >>= λ others. Ok (link ∷ others)) links e
    (λ link p f. by_both (links_from site (n + 1) ts) (λ others. Ok (link ∷ others)) links f
    (λ others q g. subst (λ (ls : List TagLink). AreTagsOf site (t ∷ ts) ls) (ok_is (link ∷ others) links g) (found_told site t (number_of site t.name) link refl (unrefused n (link_of site t) link p), links_told site (n + 1) ts others q)))

-- ---- both

pub for_its_texts : (site program : List ℕ) (texts : List (List ℕ)) (s : Site) (p : Program) (a : Acceptance) → AreTextsOf site program texts s p a → IsFor site program texts s p a
for_its_texts site program texts s p a of = record {
  described = describes site texts s of.of_site;
  spelled = spells program p of.of_program;
  variables = ap (λ (i : Image). i.vars) of.coded;
  tags = ap (λ (i : Image). i.tags) of.coded;
  linked = links_told s.tags 0 p.tags a.links (ap (λ (i : Image). links_from s.tags 0 i.tags) (sym of.coded) ∙ of.linked);
}
