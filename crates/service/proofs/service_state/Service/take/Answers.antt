use Rattle.service_parts.specs.declared.asked.Aim.TheVariants as aim
use Rattle.service.specs.Cycle.{stage_of}
use Rattle.service.proofs.Courses.{own_of_ends, right_own}
use Rattle.service.proofs.Having.{takes_written}
use Rattle.service.proofs.service_state.Service.take.Goals as goal

pub invariant_of-self : goal.invariant_of-self
invariant_of-self c =
    let led = own_of_ends (aim.Block c.in-Block.want) c.args.asked.device c.args.outcome (stage_of c.args.self.now.cycle) (stage_of c.close_block.new.self) c.close_block.ensures.ends in
    record { rightful = right_own _ _ c.args.self.now.lines led c.args.self.now.rightful; right = c.args.self.now.right }

pub returns-in-Output-clause-stands : goal.returns-in-Output-clause-stands
returns-in-Output-clause-stands c =
    takes_written c.args.outcome c.args.asked c.in-Output.output c.args.self.now.side.now c.args.self.now.side c.take_write.new.self.side c.in-Output.is c.take_write.ensures.stands
