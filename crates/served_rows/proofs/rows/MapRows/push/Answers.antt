use Rattle.std.proofs.Common.{◌+◌, ◌-◌, ◌^◌, min, sym, ap, ◌∙◌}
use Rattle.served_rows.specs.Rows.{after_point}
use Rattle.served_rows.proofs.Placed.{ends_after, one_more}
use Rattle.served_rows.proofs.rows.MapRows.push.Goals as goal

pub invariant_of-self-2-clause-placed : goal.invariant_of-self-2-clause-placed
invariant_of-self-2-clause-placed c = one_more c.args.self.now.first c.args.self.now.rows.items c.push.new.self.items _ c.in_ok-push.ensures.items c.args.self.now.placed c.args.self.now.ended

pub invariant_of-self-2-clause-ended : goal.invariant_of-self-2-clause-ended
invariant_of-self-2-clause-ended c =
    let after = ends_after c.args.self.now.first c.args.self.now.rows.items c.push.new.self.items _ c.in_ok-push.ensures.items in
    c.saturating_add-self.ensures ∙ ap (λ n. min (c.args.self.now.next + n) (2 ^ 64 - 1)) c.registers.ensures ∙ ap (λ at. after_point at c.args.point) c.args.self.now.ended ∙ sym after
