use Rattle.std.proofs.Common.{ap, ◌∙◌, sym, subst, List, ℕ}
use Rattle.std.proofs.lemmas.Bool.{false≢true}
use Rattle.modbus_frame.specs.Frame.{IsRest}
use Rattle.modbus_frame.specs.Held.{Held}
use Rattle.modbus_frame.specs.Reading.{Reading}
use Rattle.modbus_frame.proofs.Receiving.{ends_inside, no_byte}
use Rattle.modbus_frame.proofs.Sending.{FailsBy-then}
use Rattle.modbus_frame.proofs.exchange.FrameReader.read_on.Goals as goal

pub returns-in-Ok-eq0-2-clause-reads : goal.returns-in-Ok-eq0-2-clause-reads
returns-in-Ok-eq0-2-clause-reads g c =
    let fed = rw c.in-Ok-None.field-0-is at c.in-Ok-None.ensures in
    let read = c.in-Ok-eq0.ensures.reads in
    let held = c.in-Ok-eq0.ensures.held ∙ fed.1 in
    let kept = ap (λ (h : Held). h.kept) held in
    let opened = ap (λ (r : Reading). (r.held).kept) c.self.view_is ∙ kept in
    let none = sym c.in-Ok-eq0.field-0-test ∙ read.1 in
    let inside = ends_inside _ _ _ _ _ _ c.loop-frame.invariant.reads fed.0 (λ nil. false≢true (c.if-is_empty.ensures.1 (opened ∙ nil))) kept read.0 none (read.2 c.in-Ok-eq0.field-0-test) in
    let P : List ℕ → Type 0 = IsRest in
    (inside.0, inside.1, (subst P (sym kept) fed.0, ap (λ (h : Held). h.fault) held, no_byte _ none))

pub returns-in-Ok-eq0-clause-failures : goal.returns-in-Ok-eq0-clause-failures
returns-in-Ok-eq0-clause-failures g c = FailsBy-then 0 0 1 _ _ _ c.loop-frame.invariant.failures (c.in-Ok-eq0.ensures.failures.0 c.in-Ok-eq0.field-0-test)

pub returns-in-Ok-eq0-2-clause-failures : goal.returns-in-Ok-eq0-2-clause-failures
returns-in-Ok-eq0-2-clause-failures g c = FailsBy-then 0 0 1 _ _ _ c.loop-frame.invariant.failures (c.in-Ok-eq0.ensures.failures.0 c.in-Ok-eq0.field-0-test)
