use Rattle.facts.proofs.Overlaying.{none_changes, overlaid_none}
use Rattle.facts.proofs.changed_spans.ChangedSpans.at_entry.Goals as goal

pub invariant_of-result : goal.invariant_of-result
invariant_of-result c = rw (c.empty-kept.ensures) (none_changes c.in-Ok.at_entry.value c.len.result)

pub returns-in-Ok : goal.returns-in-Ok
returns-in-Ok c = rw (c.empty-kept.ensures, c.len.ensures, c.in-Ok.ensures.ok) (overlaid_none c.args.spans)
