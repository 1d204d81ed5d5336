use Rattle.std.proofs.Common.{◌∙◌, sym, FitsSigned, rules}
use Rattle.std.specs.Int.{w128}
use Rattle.std.proofs.lemmas.Int.{to_z-of_z}
use Rattle.gateway.proofs.Settled.{number_told}
use Rattle.gateway.proofs.event_core.setting.scaled_in.Goals as goal

pub returns : goal.returns
returns c =
    let f : FitsSigned w128 c.in-Some.raw = search rules in
    rw c.own_value.ensures
    (number_told c.args.kind c.args.factor c.args.tag.now c.args.words.now c.in-Some.raw c.scaled_by.result (sym c.value.ensures ∙ c.in-Some.is) (simp to_z-of_z at c.scaled_by.ensures))
