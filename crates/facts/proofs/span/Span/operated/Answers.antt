use Rattle.facts.proofs.span.Span.operated.Goals as goal

pub returns-in-Some-Some : goal.returns-in-Some-Some
returns-in-Some-Some c = rw (← c.self.view_is, ← c.other.view_is, c.in-Some-Some.is-0, c.in-Some-Some.is-1, c.fitted.ensures, c.ends_of.ensures.ends)
