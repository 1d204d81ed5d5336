use Rattle.std.proofs.Common.{◌++◌, length, take, sym, arith, refl, ap, min, length-drop, ◌-◌, ◌∙◌}
use Rattle.modbus_frame.proofs.Headers.{IsRest-append}
use Rattle.modbus_frame.proofs.Feeding.{fills_take_front, fills_take_all, keeps_all, feeds_without_fault}
use Rattle.modbus_frame.proofs.framer.Framer.feed.Goals as goal

pub invariant_of-self-then-len : goal.invariant_of-self-then-len
invariant_of-self-then-len g c =
    let found = rw c.deref.ensures.0 at (rw c.in-Ok-Some.field-0-is at c.in-Ok-Some.ensures) in
    let short = rw c.fill.ensures.items at c.len.ensures.value in
    (c.self.invariant.0, rw c.fill.ensures.items (IsRest-append _ _ found.0 found.1 found.2 (omega (arith, found.3))))

pub returns-then-len : goal.returns-then-len
returns-then-len g c =
    let found = rw c.deref.ensures.0 at (rw c.in-Ok-Some.field-0-is at c.in-Ok-Some.ensures) in
    let second = c.fill.ensures.items ∙ ap (λ l. c.fill-head.new.kept.items ++ take c.fill.result l) c.split_at.ensures.back in
    let front = fills_take_front c.self.inside.kept.items c.args.piece.now _ _ _ _ c.fill-head.ensures.items second in
    let all = fills_take_all c.self.inside.kept.items c.args.piece.now _ _ _ _ c.in-Ok-Some.len c.fill-head.ensures.used (c.fill.ensures.used ∙ ap (λ l. min (c.in-Ok-Some.len - length c.fill-head.new.kept.items) (length l)) c.split_at.ensures.back) second (omega arith) in
    feeds_without_fault _ _ _ _ _ _ c.self.view_is c.in_default.is (keeps_all all front (invariant_of-self-then-len g c).1 c.in_default.is)

pub returns-else-len : goal.returns-else-len
returns-else-len g c =
    let second = c.fill.ensures.items ∙ ap (λ l. c.fill-head.new.kept.items ++ take c.fill.result l) c.split_at.ensures.back in
    let front = fills_take_front c.self.inside.kept.items c.args.piece.now _ _ _ _ c.fill-head.ensures.items second in
    feeds_without_fault _ _ _ _ _ _ c.self.view_is c.in_default.is record {
      within = omega (arith, length-drop c.fill-head.result c.args.piece.now, ap length c.split_at.ensures.back);
      spelled = sym (c.frame_of-frame.ensures.spelled ∙ c.deref-in-Ok-Some.ensures.0 ∙ front);
      is_frame = c.frame_of-frame.ensures.frame;
      after = rw (c.clear-in-Ok-Some.ensures, c.in_default.is) refl;
    }
