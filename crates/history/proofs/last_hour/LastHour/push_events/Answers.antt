use Rattle.history.proofs.LinesAfter.{two_parts}
use Rattle.history.proofs.last_hour.LastHour.push_events.Goals as goal

pub returns : goal.returns
returns c = two_parts _ _ _ c.in_ok-more.more c.args.after _ _ _
    c.in_ok-more.ensures.text c.in_ok-more.ensures.later c.in_ok-push_lines.ensures.text c.parts.ensures
