use Rattle.std.proofs.Common.{rules, ◌≤◌, length}
use Rattle.service.proofs.Compared.{all_compared, none_compared, one_more_compared, shows_on}
use Rattle.service.proofs.service_state.Service.compare_all.Goals as goal

pub loop-output-init : goal.loop-output-init
loop-output-init c = (none_compared c.args.asked.now c.args.block.now c.args.self.now, search rules, search rules, search rules, search rules, search rules, (λ may has from before. before))

pub loop-output-preserved : goal.loop-output-preserved
loop-output-preserved c =
    let so_far = c.loop-output.invariant in (
      one_more_compared c.args.asked.now c.args.block.now c.loop-output.output c.args.self.now c.loop-output.self c.compare_output.new.self so_far.0 c.compare_output.ensures.compared,
      search rules,
      search rules,
      search rules,
      search rules,
      (λ first within. c.compare_output.ensures.held first (so_far.5 first within)),
      shows_on c.args.asked.now c.args.block.now c.loop-output.output c.args.self.now c.loop-output.self c.compare_output.new.self so_far.0 so_far.6 c.compare_output.ensures.stands,
    )

pub returns-clause-compared : goal.returns-clause-compared
returns-clause-compared c =
    let all : length c.args.self.now.side.outputs.items ≤ c.loop-output.output = search rules in
    all_compared c.args.asked.now c.args.block.now c.loop-output.output c.args.self.now c.loop-output.self all c.loop-output.invariant.0
