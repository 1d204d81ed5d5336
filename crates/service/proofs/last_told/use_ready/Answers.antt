use Rattle.std.proofs.Common.{rules, ◌≡◌, ◌<◌, ◌∙◌, ap, false, get_or, length, arith}
use Rattle.std.proofs.lemmas.List.{length-set}
use Rattle.service.specs.declared.last_told.LastTold.{LastTold}
use Rattle.service.proofs.LastTold.{all_used, used_next}
use Rattle.service.proofs.last_told.use_ready.Goals as goal

pub loop-i-preserved : goal.loop-i-preserved
loop-i-preserved c =
    let so_far = c.loop-i.invariant in
    let within : c.loop-i.i < length c.loop-i.told = omega (arith, c.loop-i-test.true, so_far.1) in
    let none : LastTold = record { device = 0; scans = 0; is_new = false; is_used = false } in (
      used_next c.loop-i.i c.args.told.now c.loop-i.told none _ within so_far.0 (ap (λ b. record (get_or c.loop-i.told c.loop-i.i none) { is_used = b }) c.is_ready-is_used.ensures),
      length-set c.loop-i.told _ _ ∙ so_far.1,
    )

pub returns-clause-used : goal.returns-clause-used
returns-clause-used c =
    let all : c.loop-i.i ≡ length c.args.told.now = search rules in
    all_used c.loop-i.i c.args.told.now c.loop-i.told all c.loop-i.invariant.0
