use Rattle.std.proofs.Common.{rules, ◌≡◌}
use Rattle.service.proofs.Sought.{all_new}
use Rattle.service.proofs.construction.parts_of.Goals as goal

pub returns-clause-searches : goal.returns-clause-searches
returns-clause-searches c =
    let same : c.devices-2.result.now ≡ c.args.site.now.devices = search rules in
    all_new c.args.site.now c.devices-2.result.now _ same c.in_ok-searches.ensures
