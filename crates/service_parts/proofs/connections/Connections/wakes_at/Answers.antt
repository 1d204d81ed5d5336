use Rattle.std.proofs.Common.{rules, ◌≡◌, ◌<◌, Some, length, refl, slice_get, subst, sym}
use Rattle.std.specs.Prelude.{min}
use Rattle.std.proofs.lemmas.Option.{slice_get_read, slice_get_within}
use Rattle.service_parts.proofs.Waking.{IsOneOf, min_due}
use Rattle.service_parts.proofs.connections.Connections.wakes_at.Goals as goal

pub loop-link-preserved : goal.loop-link-preserved
loop-link-preserved c =
    let lines = c.args.self.now.lines.items in
    let within : c.loop-link.link < length lines = search rules in
    let there : slice_get lines c.loop-link.link ≡ Some c.index.result.now = slice_get_read _ _ c.loop-link.link c.index.result.now refl within c.index.ensures in
    let least : c.min-at.result ≡ min c.loop-link.at c.wakes_at.result = search rules in (
      search rules,
      search rules,
      subst (IsOneOf c.args.at lines) (sym least) (min_due c.args.at lines c.loop-link.at c.wakes_at.result c.loop-link.link c.index.result.now c.loop-link.invariant.2 there c.wakes_at.ensures),
    )

pub returns-clause-links : goal.returns-clause-links
returns-clause-links c link line at =
    let within = slice_get_within c.args.self.now.lines.items link line at in
    c.loop-link.invariant.1 link line (search (rules, within)) at
