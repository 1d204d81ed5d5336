use Rattle.std.proofs.Common.{Option, None}
use Rattle.facts.specs.Span.{Span}
use Rattle.facts.proofs.Lists.{map_one}
use Rattle.facts.proofs.consequences.emptied.Goals as goal

pub returns : goal.returns
returns c = rw (map_one {B = Option Span} c.args.spans.now None, ← c.len.ensures) c.empty.ensures
