use Rattle.std.proofs.Common.{sym, arith}
use Rattle.verifier.proofs.Passing.{stood_set, stood_get, stood_long, delivered_there, delivered_past}
use Rattle.verifier.proofs.pass.deliver.Goals as goal

pub returns-in_ok-pending : goal.returns-in_ok-pending
returns-in_ok-pending g c =
    let stands = g.F.FactDomain.stands in
    let there = stood_get stands c.args.pending.now c.args.to c.taken-before.result c.taken-before.ensures.taken in
    rw (stood_set stands c.taken-before.new.pending c.args.to c.in_ok-pending.field-0, c.taken-before.ensures.left, c.in_ok-pending.ensures)
    (delivered_there c.args.to (stands c.args.fact) _ _ there)

pub returns-else-to-pending : goal.returns-else-to-pending
returns-else-to-pending g c = sym (delivered_past c.args.to _ _ (omega (arith, stood_long g.F.FactDomain.stands c.args.pending.now, c.if-to-pending.false)))
