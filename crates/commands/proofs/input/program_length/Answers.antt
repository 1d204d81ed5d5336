use Rattle.std.proofs.Common.{arith, ◌-◌, rules, ◌<◌, length}
use Rattle.commands.proofs.LineLemmas.{Cuts, boundary_behind, reads_line, cut_here, line_length-some}
use Rattle.commands.proofs.input.program_length.Goals as goal

pub returns-then-is_last_line : goal.returns-then-is_last_line
returns-then-is_last_line c =
    let some : 0 < length c.loop-rest.rest.now = search rules in
    let cut : Cuts (length c.args.text.now - length c.split_at.result.1.now) c.args.text.now = cut_here c.loop-rest.rest.now _ c.split_at.result.0.now c.split_at.result.1.now some (search rules) (search rules) (search rules) c.loop-rest.invariant in
    record { within = omega arith; boundary = λ u. boundary_behind c.loop-rest.rest.now c.args.text.now c.split_at.result.0.now c.split_at.result.1.now some (search rules) (search rules) c.loop-rest.invariant u; program = cut.program; rest = cut.rest }

pub loop-rest-smaller : goal.loop-rest-smaller
loop-rest-smaller c =
    let some : 0 < length c.loop-rest.rest.now = search rules in
    let h = line_length-some c.loop-rest.rest.now some in omega arith

pub loop-rest-preserved : goal.loop-rest-preserved
loop-rest-preserved c =
    let some : 0 < length c.loop-rest.rest.now = search rules in
    reads_line c.loop-rest.rest.now _ c.split_at.result.0.now c.split_at.result.1.now some (search rules) (search rules) (search rules) c.loop-rest.invariant
