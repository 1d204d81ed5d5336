use Rattle.std.proofs.Common.{◌≡◌, ◌∙◌}
use Rattle.inverter_sim.specs.Link.{spelled_by}
use Rattle.inverter_sim.proofs.serving.sent_by.Goals as goal

pub returns : goal.returns
returns c =
    let bytes : c.split_at.result.0.now ≡ spelled_by c.args.fault c.args.reply = c.split_at.ensures.front ∙ c.spell-len.ensures.spelled in
    rw (c.earlier.ensures, c.copies_by.ensures, bytes, c.goes_on.ensures) at c.new.ensures
