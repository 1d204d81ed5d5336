use Rattle.std.proofs.Common.{◌≡◌, ◌∙◌, Some, ap, refl, slice_get, sym}
use Rattle.std.proofs.lemmas.Bool.{ltb-true}
use Rattle.std.proofs.lemmas.Option.{slice_get_read}
use Rattle.service.proofs.Sought.{next_step}
use Rattle.service.proofs.cycle.Cycle.seek.Goals as goal

pub returns-clause-sought : goal.returns-clause-sought
returns-clause-sought c =
    let found = c.in_ok-search.ensures.lookup in
    let at : slice_get c.args.self.now.searches.items c.args.device ≡ Some c.in_ok-search.search.now =
    ap (λ xs. slice_get xs c.args.device) (sym c.deref.ensures.value) ∙ slice_get_read _ _ c.args.device c.in_ok-search.search.now refl (ltb-true _ _ (sym found.0)) found.1 in
    next_step c.args.self.now.core.value.site _ c.args.device c.in_ok-search.search.now c.next.result c.args.self.now.sought at c.next.ensures.next
