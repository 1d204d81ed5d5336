use Rattle.std.proofs.Common.{arith, rules, ◌<◌, ◌≤◌, ◌+◌, ◌∙◌, ap, length}
use Rattle.commands.specs.Input.{lines_of}
use Rattle.commands.specs.Given.{slots_given}
use Rattle.commands.proofs.LineLemmas.{lines_split, line_length-some}
use Rattle.commands.proofs.given.fill.Goals as goal

pub returns-in-Err-clause-err : goal.returns-in-Err-clause-err
returns-in-Err-clause-err c =
    let some : 0 < length c.loop-rest.rest.now = search rules in
    c.loop-rest.invariant.same ∙ ap (slots_given c.args.tags.now c.loop-rest.slots c.loop-rest.number) (lines_split c.loop-rest.rest.now c.split_at.result.0.now c.split_at.result.1.now some (search rules) (search rules)) ∙ c.in-Err.ensures.err (lines_of c.split_at.result.1.now)

pub loop-rest-smaller : goal.loop-rest-smaller
loop-rest-smaller c =
    let some : 0 < length c.loop-rest.rest.now = search rules in
    let h = line_length-some c.loop-rest.rest.now some in omega arith

pub loop-rest-preserved : goal.loop-rest-preserved
loop-rest-preserved c =
    let some : 0 < length c.loop-rest.rest.now = search rules in
    let h = line_length-some c.loop-rest.rest.now some in
    let before : c.loop-rest.number + length c.loop-rest.rest.now ≤ length c.args.lines.now + 1 = c.loop-rest.invariant.counted in
    let next : c.in-Ok.next ≤ c.loop-rest.number + 1 = c.in-Ok.ensures.next in
    record {
      same = c.loop-rest.invariant.same ∙ ap (slots_given c.args.tags.now c.loop-rest.slots c.loop-rest.number) (lines_split c.loop-rest.rest.now c.split_at.result.0.now c.split_at.result.1.now some (search rules) (search rules)) ∙ c.in-Ok.ensures.ok (lines_of c.split_at.result.1.now);
      counted = omega arith;
      places = search rules;
    }
