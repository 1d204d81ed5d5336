use Rattle.commands.proofs.CoreLemmas.{opens_over, opens_unfound, searched_badly, searched_well}
use Rattle.commands.proofs.FoundLemmas.{maps_length}
use Rattle.commands.proofs.site_scans.opened.Goals as goal

pub core_over-requires : goal.core_over-requires
core_over-requires g c = maps_length c.args.poller.now _ c.args.given.site.devices c.in-Ok.maps.items _ _ c.in-Ok.ensures.found c.in-Ok.ensures.stands

pub returns-in-Ok-clause-opens : goal.returns-in-Ok-clause-opens
returns-in-Ok-clause-opens g c =
    opens_over c.args.given.site c.args.given.verified c.args.poller.now c.find.new.self c.in-Ok.maps.items _ _ c.core_over.result c.in-Ok.ensures.found c.in-Ok.ensures.stands c.core_over.ensures

pub returns-in-Ok-clause-left : goal.returns-in-Ok-clause-left
returns-in-Ok-clause-left g c =
    searched_well c.args.given.site.devices c.args.poller.now c.find.new.self c.in-Ok.maps.items _ _ c.core_over.result c.in-Ok.ensures.found c.in-Ok.ensures.stands

pub returns-in-Err-clause-opens : goal.returns-in-Err-clause-opens
returns-in-Err-clause-opens g c = opens_unfound _ c.args.given.site c.args.given.verified c.args.poller.now c.find.new.self c.in-Err.fault c.unfound.result c.in-Err.ensures.stopped c.in-Err.ensures.stands c.unfound.ensures

pub returns-in-Err-clause-left : goal.returns-in-Err-clause-left
returns-in-Err-clause-left g c = searched_badly _ c.args.given.site.devices c.args.poller.now c.find.new.self c.in-Err.fault c.unfound.result c.in-Err.ensures.stopped c.in-Err.ensures.stands
