use Rattle.std.proofs.Common.{rules, ◌≡◌, None, Some}
use Rattle.service.specs.ReadBack.{block_by}
use Rattle.service.proofs.Compared.{compared_told, none_told, shows_told}
use Rattle.service.proofs.service_state.Service.compare.Goals as goal

pub returns-in-Some-clause-compared : goal.returns-in-Some-clause-compared
returns-in-Some-clause-compared c =
    let told : block_by c.args.self.now.cycle.core.value.site.wants c.args.asked.now.aim c.args.outcome.now ≡ Some c.in-Some.block.now = search rules in
    compared_told c.args.self.now.cycle.core.value.site.wants c.args.asked.now c.args.outcome.now c.in-Some.block.now c.args.self.now c.compare_all.new.self told c.compare_all.ensures.compared

pub returns-in_default-clause-compared : goal.returns-in_default-clause-compared
returns-in_default-clause-compared c =
    let told : block_by c.args.self.now.cycle.core.value.site.wants c.args.asked.now.aim c.args.outcome.now ≡ None = search rules in
    none_told c.args.self.now.cycle.core.value.site.wants c.args.asked.now c.args.outcome.now c.args.self.now c.args.self.now told

pub returns-in-Some-clause-stands : goal.returns-in-Some-clause-stands
returns-in-Some-clause-stands c =
    let told : block_by c.args.self.now.cycle.core.value.site.wants c.args.asked.now.aim c.args.outcome.now ≡ Some c.in-Some.block.now = search rules in
    shows_told c.args.self.now.cycle.core.value.site.wants c.args.asked.now c.args.outcome.now c.args.self.now.held c.in-Some.block.now c.args.self.now.side c.compare_all.new.self.side told c.compare_all.ensures.stands

pub returns-in_default-clause-stands : goal.returns-in_default-clause-stands
returns-in_default-clause-stands c may has from before = before
