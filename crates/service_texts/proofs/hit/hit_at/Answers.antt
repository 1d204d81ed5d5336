use Rattle.std.proofs.Common.{◌≡◌, ◌∙◌, Some, ap, refl, slice_get, sym}
use Rattle.std.proofs.lemmas.Bool.{ltb-true}
use Rattle.std.proofs.lemmas.Option.{slice_get_read}
use Rattle.site_model.specs.declared.site.Site.{Site}
use Rattle.service_texts.proofs.hit.hit_at.Goals as goal

pub returns-then-is_wrong : goal.returns-then-is_wrong
returns-then-is_wrong c =
    let found = c.in_ok-own.ensures.lookup in
    let there : slice_get c.args.core.now.site.tags c.args.tag ≡ Some c.in_ok-own.own.now =
    ap (λ xs. slice_get xs c.args.tag) (sym (c.tags.ensures ∙ ap (λ (s : Site). s.tags) c.site.ensures)) ∙ slice_get_read _ _ c.args.tag c.in_ok-own.own.now refl (ltb-true _ _ (sym found.0)) found.1 in
    record {
      own = c.in_ok-own.own.now;
      there = there;
      registers = c.in_ok-registers.registers;
      placed = c.in_ok-registers.ensures;
      held = c.in_ok-held.held.now;
      part = c.in_ok-held.ensures;
      read = (rw c.site-2.ensures at c.number_at-number.ensures);
      wrong = c.is_wrong.ensures c.if-is_wrong.true;
    }
