use Rattle.std.proofs.Common.{rules, FitsSigned, to_z, of_z, subst, sym, ◌∙◌}
use Rattle.std.specs.Prelude.{IfSome}
use Rattle.std.specs.Int.{w64}
use Rattle.std.proofs.lemmas.Int.{to_z-of_z}
use Rattle.gateway.specs.event_core.Restoring.{NothingSets, SetsAlone}
use Rattle.gateway.proofs.SetAgain.{Before, alone, alone_if, begins, ends_on, few_words, for_tags, found_on, none_for_tags, next_on, none_on, not_below, too_far_on}
use Rattle.gateway.proofs.event_core.restoring.request_to_set.Goals as goal

pub loop-point-init : goal.loop-point-init
loop-point-init c =
    let n = to_z w64 (of_z w64 c.args.number) in
    let here = subst (λ ps. Before c.args.site.now c.args.tag n c.args.site.now.base ps) (sym c.requires) (begins c.args.site.now c.args.tag n) in
    subst (λ a. Before c.args.site.now c.args.tag n a c.args.points.now) (sym (c.from-addr.ensures ∙ c.base.ensures)) here

pub returns-in-Some-clause-sets : goal.returns-in-Some-clause-sets
returns-in-Some-clause-sets c =
    let f : FitsSigned w64 c.args.number = search rules in
    let n = to_z w64 (of_z w64 c.args.number) in
    let are = for_tags c.args.tag n c.in-Some.words c.tags.ensures c.in-Some.ensures in
    let sets = found_on c.args.site.now c.args.tag n c.loop-point.addr c.loop-point.point-index c.args.points.now _ c.loop-point-test.true c.loop-point.invariant c.in-Some.words are in
    let some = (few_words _ _ n c.in-Some.words are.read).0 in
    subst (λ m. IfSome c.request_at.result (SetsAlone c.args.site.now c.args.tag m)) (to_z-of_z w64 c.args.number f)
    (alone_if c.args.site.now c.args.tag n c.request_at.result c.loop-point.addr c.in-Some.words c.request_at.ensures.request (alone c.args.site.now c.args.tag n c.loop-point.addr c.in-Some.words some sets))

pub returns-in-Some-clause-none : goal.returns-in-Some-clause-none
returns-in-Some-clause-none c = λ is_none.
    let f : FitsSigned w64 c.args.number = search rules in
    let n = to_z w64 (of_z w64 c.args.number) in
    let are = for_tags c.args.tag n c.in-Some.words c.tags.ensures c.in-Some.ensures in
    subst (λ m. NothingSets c.args.site.now c.args.tag m) (to_z-of_z w64 c.args.number f)
    (too_far_on c.args.site.now c.args.tag n c.loop-point.addr c.loop-point.point-index c.args.points.now _ c.loop-point-test.true c.loop-point.invariant c.in-Some.words are (c.request_at.ensures.none is_none))

pub returns-in-None-clause-none : goal.returns-in-None-clause-none
returns-in-None-clause-none c = λ is_none.
    let f : FitsSigned w64 c.args.number = search rules in
    let n = to_z w64 (of_z w64 c.args.number) in
    let none = none_for_tags c.args.tag n c.tags.ensures c.in_default.ensures in
    let full = c.in-None.ensures in
    subst (λ m. NothingSets c.args.site.now c.args.tag m) (to_z-of_z w64 c.args.number f)
    (none_on c.args.site.now c.args.tag n c.loop-point.addr c.loop-point.point-index c.args.points.now _ c.loop-point-test.true c.loop-point.invariant c.registers.result c.registers.ensures (not_below _ full) none)

pub loop-point-preserved : goal.loop-point-preserved
loop-point-preserved c =
    let n = to_z w64 (of_z w64 c.args.number) in
    let none = none_for_tags c.args.tag n c.tags.ensures c.in_default.ensures in
    next_on c.args.site.now c.args.tag n c.loop-point.addr c.loop-point.point-index c.args.points.now _ c.loop-point-test.true c.loop-point.invariant c.in-Some-checked_add.next c.registers.result c.registers.ensures c.in-Some-checked_add.ensures.1 none

pub returns-clause-none : goal.returns-clause-none
returns-clause-none c = λ is_none.
    let f : FitsSigned w64 c.args.number = search rules in
    let n = to_z w64 (of_z w64 c.args.number) in
    subst (λ m. NothingSets c.args.site.now c.args.tag m) (to_z-of_z w64 c.args.number f)
    (ends_on c.args.site.now c.args.tag n c.loop-point.addr c.loop-point.point-index c.args.points.now c.loop-point-test.false c.loop-point.invariant)
