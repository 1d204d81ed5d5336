-- Where no output goes with another one, all of them are written, in order.
use Rattle.std.proofs.Common.{◌≡◌, ℕ, suc, ◌+◌, ◌≤◌, Bool, true, false, List, [], ◌∷◌, ◌++◌, length, map, take, drop, Option, None, Some, refl, sym, ap, ◌∙◌, subst, arith}
use Rattle.std.specs.Prelude.{if◌then◌else◌, slice_get}
use Rattle.std.specs.List.{range_with_len}
use Rattle.std.specs.Option.{option_map_or}
use Rattle.std.proofs.lemmas.List.{append-nil, take_all}
use Rattle.std.proofs.lemmas.List.FromFn.{length-range_with_len}
use Rattle.site_model.specs.declared.site.Site.{Site}
use Rattle.site_model.specs.declared.tag.SiteTag.{SiteTag}
use Rattle.site_model.specs.TagView.{companion_at}
use Rattle.gateway.specs.poller.LinkRun.{Exchange}
use Rattle.gateway.specs.poller.Cycle.{Turn, TakesTurns, after_turn, first_order, going_with, is_taken, most_outputs, outputs_with, same_tag}
use Rattle.gateway.specs.Laws.{GoesWithNone, SitesWithoutCompanionsWriteInOrder}
use Rattle.gateway.proofs.Turns.{drop_at}

abbrev AllAlone : List SiteTag → List ℕ → Type 0
AllAlone tags numbers = (i n : ℕ) → slice_get numbers i ≡ Some n → companion_at tags n ≡ None

going_all : (tags : List SiteTag) (a : ℕ) (ns : List ℕ) → AllAlone tags ns → going_with tags None a ns ≡ range_with_len a (length ns)
going_all tags a [] alone = refl
going_all tags a (n ∷ ns) alone =
    ap (λ c. if same_tag None c then a ∷ going_with tags None (a + 1) ns else going_with tags None (a + 1) ns) (alone 0 n refl) ∙ ap (λ l. a ∷ l) (going_all tags (a + 1) ns (λ i m e. alone (suc i) m e))

going_none : (tags : List SiteTag) (leader a : ℕ) (ns : List ℕ) → AllAlone tags ns → going_with tags (Some leader) a ns ≡ []
going_none tags leader a [] alone = refl
going_none tags leader a (n ∷ ns) alone =
    ap (λ c. if same_tag (Some leader) c then a ∷ going_with tags (Some leader) (a + 1) ns else going_with tags (Some leader) (a + 1) ns) (alone 0 n refl) ∙ going_none tags leader (a + 1) ns (λ i m e. alone (suc i) m e)

module _ (site : Site) (few : length site.outs ≤ most_outputs) (alone : GoesWithNone site) where
  first_all : first_order site ≡ range_with_len 0 (length site.outs)
  first_all =
      ap (take most_outputs) (going_all site.tags 0 site.outs alone)
      ∙ take_all most_outputs (range_with_len 0 (length site.outs)) (omega (arith, few, length-range_with_len 0 (length site.outs)))

  after_same : (order : List ℕ) (output : ℕ) (taken : Bool) → length order ≤ most_outputs → after_turn site order output taken ≡ order
  after_same order output false short = refl
  after_same order output true short = go (slice_get site.outs output)
    where
      go : (o : Option ℕ) → option_map_or (λ number. take most_outputs (order ++ outputs_with site (Some number))) o order ≡ order
      go None = refl
      go (Some number) =
          ap (λ l. take most_outputs (order ++ l)) (going_none site.tags number 0 site.outs alone) ∙ ap (take most_outputs) (append-nil order) ∙ take_all most_outputs order short

  all_in_turn : (order : List ℕ) (k : ℕ) (turns : List Turn) (es : List Exchange) → length order ≤ most_outputs → TakesTurns site order k turns es [] → drop k order ≡ map (λ (turn : Turn). turn.output) turns
  all_in_turn order k [] es short (none, over) = sym over
  all_in_turn order k (turn ∷ turns) es short (others, all, is, went, rest) =
      let same = after_same order turn.output (is_taken turn.calls) short in
      let next : k + 1 ≡ suc k = omega arith in
      drop_at order k turn.output is
      ∙ ap (λ l. turn.output ∷ l) (ap (λ n. drop n order) (sym next) ∙ all_in_turn order (k + 1) turns others short (subst (λ l. TakesTurns site l (k + 1) turns others []) same rest))

pub all_written : SitesWithoutCompanionsWriteInOrder
all_written site turns es few alone written =
    let first = first_all site few alone in
    let short : length (first_order site) ≤ most_outputs = omega (arith, few, ap length first, length-range_with_len 0 (length site.outs)) in
    sym (all_in_turn site few alone (first_order site) 0 turns es short written) ∙ first
