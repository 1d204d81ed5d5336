use Rattle.std.proofs.Common.{rules, ◌≡◌, ◌<◌, Some, length, refl, slice_get}
use Rattle.std.proofs.lemmas.Option.{slice_get_read}
use Rattle.service.proofs.Sought.{with_answer}
use Rattle.service.proofs.cycle.Cycle.answered.Goals as goal

pub invariant_of-self : goal.invariant_of-self
invariant_of-self c =
    let within : c.args.device < length c.args.self.now.searches.items = search rules in
    let at : slice_get c.args.self.now.searches.items c.args.device ≡ Some c.in-Some.search.now = slice_get_read _ _ c.args.device c.in-Some.search.now refl within c.in-Some.ensures.value in
    record {
      reached = c.args.self.now.reached;
      fits = c.args.self.now.fits;
      sought = with_answer c.args.self.now.core.value.site _ c.args.device c.in-Some.search.now _ c.args.self.now.sought at c.take.ensures;
    }
