use Rattle.std.proofs.Common.{inl, inr, subst, None, Result}
use Rattle.gateway.specs.poller.Finding.{Searches}
use Rattle.register_map.specs.Layout.{Layout}
use Rattle.register_map.specs.declared.layout.MapFault.{MapFault}
use Rattle.commands.proofs.UnitLemmas.{if_ok, leaves_behind, on_err, on_err_now, search_stops, searched_alone, told_behind}
use Rattle.commands.proofs.unit_points.outcome_of.Goals as goal

pub returns-in_err-no_map-in-Ok-Err-clause-left : goal.returns-in_err-no_map-in-Ok-Err-clause-left
returns-in_err-no_map-in-Ok-Err-clause-left g c works =
    on_err_now c.from_residual.result (inl (searched_alone c.args.unit c.args.poller.now c.search.new.self _ c.in-Ok-Err.ensures.found))

pub returns-in-Ok-Ok-clause-told : goal.returns-in-Ok-Ok-clause-told
returns-in-Ok-Ok-clause-told g c works =
    if_ok c.outcome_by.result (λ told. told_behind c.args.unit c.args.models.now c.in-Ok-Ok.map c.args.poller.now c.search.new.self c.outcome_by.new.poller told (subst (λ (r : Result Layout MapFault). Searches c.args.unit None c.args.poller.now r c.search.new.self) c.in-Ok-Ok.field-0-is c.in-Ok-Ok.ensures.found)) c.outcome_by.ensures.told

pub returns-in-Ok-Ok-clause-left : goal.returns-in-Ok-Ok-clause-left
returns-in-Ok-Ok-clause-left g c works =
    on_err c.outcome_by.result (leaves_behind c.args.unit c.args.poller.now c.search.new.self c.outcome_by.new.poller (searched_alone c.args.unit c.args.poller.now c.search.new.self _ c.in-Ok-Ok.ensures.found)) c.outcome_by.ensures.left

pub returns-in-Err-clause-told : goal.returns-in-Err-clause-told
returns-in-Err-clause-told g c works =
    if_ok c.unlinked.result (λ told is. inr (inr (inl (c.in-Err.fault, search_stops c.args.unit c.args.poller.now c.search.new.self c.in-Err.fault (c.in-Err.ensures.stopped works), is)))) c.unlinked.ensures

pub returns-in-Err-clause-left : goal.returns-in-Err-clause-left
returns-in-Err-clause-left g c works =
    on_err_now c.unlinked.result (inr (c.in-Err.fault, search_stops c.args.unit c.args.poller.now c.search.new.self c.in-Err.fault (c.in-Err.ensures.stopped works)))
