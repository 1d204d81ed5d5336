use Rattle.std.proofs.Common.{rules, ◌≡◌, ◌∙◌, ◌<◌, Some, ap, length, refl, slice_get, sym}
use Rattle.std.proofs.lemmas.Bool.{ltb-true}
use Rattle.std.proofs.lemmas.Option.{slice_get_read}
use Rattle.service_parts.specs.Seeking.{base_sought}
use Rattle.service.proofs.Sought.{with_new}
use Rattle.service.proofs.cycle.Cycle.begin_search.Goals as goal

pub invariant_of-self : goal.invariant_of-self
invariant_of-self c =
    let within : c.args.device < length c.args.self.now.searches.items = search rules in
    let at : slice_get c.args.self.now.searches.items c.args.device ≡ Some c.in-Some-get_mut.search.now = slice_get_read _ _ c.args.device c.in-Some-get_mut.search.now refl within c.in-Some-get_mut.ensures.value in
    let same : c.devices.result.now ≡ c.args.self.now.core.value.site.devices = search rules in
    let found = c.in-Some.ensures.lookup in
    let stands : slice_get c.args.self.now.core.value.site.devices c.args.device ≡ Some c.in-Some.own.now =
    ap (λ xs. slice_get xs c.args.device) (sym same) ∙ slice_get_read _ _ c.args.device c.in-Some.own.now refl (ltb-true _ _ (sym found.0)) found.1 in
    record {
      reached = c.args.self.now.reached;
      fits = c.args.self.now.fits;
      sought = with_new c.args.self.now.core.value.site _ c.args.device c.in-Some-get_mut.search.now _ c.in-Some.own.now c.args.self.now.sought at stands (ap base_sought c.new.ensures);
    }
