use Rattle.std.proofs.Common.{rules, ◌≡◌, ◌<◌, false, ap, subst, ◌∙◌}
use Rattle.std.proofs.Math.Nat.{le_refl}
use Rattle.service_parts.specs.declared.stations.Stations.{Stations}
use Rattle.service_parts.specs.Overdue.{asked_at, is_left}
use Rattle.service_parts.proofs.Waited.{none_further}
use Rattle.service.proofs.Losing.{below_other, waited_before}
use Rattle.service.proofs.service_state.Service.end_waits.Goals as goal

pub loop-link-preserved : goal.loop-link-preserved
loop-link-preserved c =
    let so_far = c.loop-link.invariant in (
      search rules,
      (λ may has from before. c.end_wait.ensures.stands may
          (λ device why is. has device why (
            c.loop-link.link,
            (
              waited_before c.args.self.now.lines.links.stations.items _ c.args.self.now.lines.lines.items _ c.args.self.now.side.now _ c.loop-link.link device (ap (λ (l : Stations). l.stations.items) so_far.0.links) (so_far.2 c.loop-link.link (le_refl c.loop-link.link)) so_far.0.time.side.now is.0,
              is.1,
            ),
          ))
          from (so_far.1 may has from before)),
      (λ k after. let below : c.loop-link.link < k = search rules in c.end_wait.ensures.others k (below_other k c.loop-link.link below) ∙ so_far.2 k (search rules)),
      search rules,
      search rules,
      (λ first within. c.end_wait.ensures.held first (so_far.5 first within)),
      none_further c.args.self.now.side.now c.args.self.now.lines.lines.items c.loop-link.self.lines.lines.items c.end_wait.new.self.lines.lines.items c.loop-link.link so_far.2 so_far.6 c.end_wait.ensures.others
          (λ line there. subst (λ n. is_left n (asked_at c.end_wait.new.self.lines.lines.items c.loop-link.link) ≡ false) so_far.0.time.side.now (c.end_wait.ensures.ended line there)),
      (λ held first within before. c.end_wait.ensures.together held first (so_far.5 held within) (so_far.7 held first within before)),
    )
