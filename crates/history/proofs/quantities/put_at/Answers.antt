use Rattle.std.proofs.Common.{subst, rules, w64}
use mir.Val.{SFits}
use Rattle.std.proofs.lemmas.Int.{to_z-of_z}
use Rattle.history.specs.Steps.{IsKeptOf, with_number}
use Rattle.history.proofs.Places.{put_nowhere, put_there}
use Rattle.history.proofs.quantities.put_at.Goals as goal

pub returns-then-place-series : goal.returns-then-place-series
returns-then-place-series c = λ puts are.
    let fits : SFits w64 c.args.number = search rules in
    put_there c.args.place c.args.number puts c.args.series.now c.put.new.self c.index-series-place.result c.if-place-series.true are
    (λ put is. subst (λ n. IsKeptOf (with_number n put) c.put.new.self) (to_z-of_z w64 c.args.number fits) (c.put.ensures put is))

pub returns-else-place-series : goal.returns-else-place-series
returns-else-place-series c = λ puts are. put_nowhere c.args.place c.args.number puts c.args.series.now c.if-place-series.false are
