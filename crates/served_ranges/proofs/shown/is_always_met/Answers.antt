use Rattle.std.proofs.Common.{rules, FitsSigned, ◌≡◌, subst}
use Rattle.std.specs.Int.{w8, w64, w128}
use Rattle.std.proofs.lemmas.Int.{to_z-of_z}
use Rattle.served_ranges.specs.Shown.{AllAreShown}
use Rattle.served_ranges.proofs.shown.is_always_met.Goals as goal

pub returns-in-Some-Some-clause-shown : goal.returns-in-Some-Some-clause-shown
returns-in-Some-Some-clause-shown c = λ yes.
    let d = c.args.demand.now in
    let a : FitsSigned w64 c.in-Some-Some.low = search rules in
    let b : FitsSigned w64 c.in-Some-Some.high = search rules in
    let e : FitsSigned w8 d.exponent = search rules in
    let least : FitsSigned w128 d.low = search rules in
    let most : FitsSigned w128 d.high = search rules in
    let low_is : c.in-Some-Some.low ≡ d.low = simp to_z-of_z at c.in-Some-Some.ensures in
    let high_is : c.in-Some-Some.high ≡ d.high = simp to_z-of_z at c.in-Some-Some.ensures' in
    let shown : AllAreShown d.kind d.factor d.exponent c.in-Some-Some.low c.in-Some-Some.high = simp to_z-of_z at (c.all_are_shown.ensures yes) in
    subst (λ z. AllAreShown d.kind d.factor d.exponent d.low z) high_is
    (subst (λ z. AllAreShown d.kind d.factor d.exponent z c.in-Some-Some.high) low_is shown)
