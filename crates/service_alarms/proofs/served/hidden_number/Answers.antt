use Rattle.std.proofs.Common.{rules, ◌≡◌, FitsSigned, subst, true}
use Rattle.std.specs.Int.{w64}
use Rattle.std.proofs.lemmas.Int.{to_z-of_z}
use Rattle.site_model.specs.Tagging.{is_numeric}
use Rattle.service_alarms.specs.Hiding.{HidesNumber}
use Rattle.service_alarms.proofs.served.hidden_number.Goals as goal

pub returns-then-is_numeric : goal.returns-then-is_numeric
returns-then-is_numeric c =
    let e : is_numeric c.args.demand.kind ≡ true = search rules in
    let f : FitsSigned w64 c.args.number = search rules in
    rw e (subst (λ n. HidesNumber c.args.demand.kind n c.args.demand.exponent c.args.demand.factor c.hidden_words.result) (to_z-of_z w64 c.args.number f) c.hidden_words.ensures)
