use Rattle.std.proofs.Common.{map}
use Rattle.toml.specs.View.{view, items_view}
use Rattle.site_model.specs.Views.{gateway_view}
use Rattle.site_model.specs.TagView.{tag_view}
use Rattle.site_model.proofs.Refused.{companions_refused, devices_refused, devices_unlisted, served_refused, served_unlisted, tags_refused, tags_unlisted, told_of_fault}
use Rattle.site_model.proofs.file.read_sections.Goals as goal

pub returns-in_err-entries-clause-placed : goal.returns-in_err-entries-clause-placed
returns-in_err-entries-clause-placed c =
    told_of_fault c.from_residual-in_err-entries.result _ _ c.from_residual-in_err-entries.ensures.1 (λ real.
    devices_unlisted c.args.defs.now (view c.args.file.now) _ _ (gateway_view c.in_ok-gateway.gateway) c.in_ok-gateway.ensures.told
    c.in_err-entries.ensures.part c.in_err-entries.ensures.entries)

pub returns-in_err-devices-clause-placed : goal.returns-in_err-devices-clause-placed
returns-in_err-devices-clause-placed c =
    told_of_fault c.from_residual-in_err-devices.result _ _ c.from_residual-in_err-devices.ensures.1 (λ real.
    devices_refused c.args.defs.now (view c.args.file.now) _ _ (gateway_view c.in_ok-gateway.gateway) (items_view c.in_ok-entries.entries.now) c.in_ok-gateway.ensures.told
    c.in_ok-entries.ensures.entries (c.in_err-devices.ensures.placed real))

pub returns-in_err-entries-2-clause-placed : goal.returns-in_err-entries-2-clause-placed
returns-in_err-entries-2-clause-placed c =
    told_of_fault c.from_residual-in_err-entries-2.result _ _ c.from_residual-in_err-entries-2.ensures.1 (λ real.
    tags_unlisted c.args.defs.now (view c.args.file.now) _ _ (gateway_view c.in_ok-gateway.gateway) (items_view c.in_ok-entries.entries.now) c.in_ok-devices.devices c.in_ok-gateway.ensures.told
    c.in_ok-entries.ensures.entries c.in_ok-devices.ensures.told c.in_err-entries-2.ensures.part c.in_err-entries-2.ensures.entries)

pub returns-in_err-tags-clause-placed : goal.returns-in_err-tags-clause-placed
returns-in_err-tags-clause-placed c =
    told_of_fault c.from_residual-in_err-tags.result _ _ c.from_residual-in_err-tags.ensures.1 (λ real.
    tags_refused c.args.defs.now (view c.args.file.now) _ _ (gateway_view c.in_ok-gateway.gateway) (items_view c.in_ok-entries.entries.now) (items_view c.in_ok-entries-2.entries.now)
    c.in_ok-devices.devices c.as_slice.result.now c.as_slice-own.result.now c.in_ok-gateway.ensures.told
    c.in_ok-entries.ensures.entries c.in_ok-devices.ensures.told c.as_slice.ensures c.as_slice-own.ensures
    c.in_ok-entries-2.ensures.entries (c.in_err-tags.ensures.placed real))

pub returns-in_err-entries-3-clause-placed : goal.returns-in_err-entries-3-clause-placed
returns-in_err-entries-3-clause-placed c =
    told_of_fault c.from_residual-in_err-entries-3.result _ _ c.from_residual-in_err-entries-3.ensures.1 (λ real.
    served_unlisted c.args.defs.now (view c.args.file.now) _ _ (gateway_view c.in_ok-gateway.gateway) (items_view c.in_ok-entries.entries.now) (items_view c.in_ok-entries-2.entries.now)
    c.in_ok-devices.devices c.as_slice.result.now c.as_slice-own.result.now (map tag_view c.in_ok-tags.tags) c.in_ok-gateway.ensures.told
    c.in_ok-entries.ensures.entries c.in_ok-devices.ensures.told c.as_slice.ensures c.as_slice-own.ensures
    c.in_ok-entries-2.ensures.entries c.in_ok-tags.ensures.told c.in_err-entries-3.ensures.part c.in_err-entries-3.ensures.entries)

pub returns-in_err-served-clause-placed : goal.returns-in_err-served-clause-placed
returns-in_err-served-clause-placed c =
    told_of_fault c.from_residual-in_err-served.result _ _ c.from_residual-in_err-served.ensures.1 (λ real.
    served_refused c.args.defs.now (view c.args.file.now) _ _ (gateway_view c.in_ok-gateway.gateway) (items_view c.in_ok-entries.entries.now) (items_view c.in_ok-entries-2.entries.now) (items_view c.in_ok-entries-3.entries.now)
    c.in_ok-devices.devices c.as_slice.result.now c.as_slice-own.result.now c.as_slice-2.result.now c.in_ok-tags.tags c.as_slice-3.result.now c.in_ok-gateway.ensures.told
    c.in_ok-entries.ensures.entries c.in_ok-devices.ensures.told c.as_slice.ensures c.as_slice-own.ensures
    c.in_ok-entries-2.ensures.entries c.in_ok-tags.ensures.told c.as_slice-2.ensures c.as_slice-3.ensures
    c.in_ok-entries-3.ensures.entries (c.in_err-served.ensures.placed real))

pub returns-in_err-companions-clause-placed : goal.returns-in_err-companions-clause-placed
returns-in_err-companions-clause-placed c =
    told_of_fault c.from_residual-in_err-companions.result _ _ c.from_residual-in_err-companions.ensures.1 (λ real.
    companions_refused c.args.defs.now (view c.args.file.now) _ _ (gateway_view c.in_ok-gateway.gateway) (items_view c.in_ok-entries.entries.now) (items_view c.in_ok-entries-2.entries.now) (items_view c.in_ok-entries-3.entries.now)
    c.in_ok-devices.devices c.as_slice.result.now c.as_slice-own.result.now c.as_slice-2.result.now c.in_ok-tags.tags c.as_slice-3.result.now c.as_slice-4.result.now c.in_ok-served.served c.in_ok-gateway.ensures.told
    c.in_ok-entries.ensures.entries c.in_ok-devices.ensures.told c.as_slice.ensures c.as_slice-own.ensures
    c.in_ok-entries-2.ensures.entries c.in_ok-tags.ensures.told c.as_slice-2.ensures c.as_slice-3.ensures
    c.in_ok-entries-3.ensures.entries c.in_ok-served.ensures.told c.as_slice-4.ensures (c.in_err-companions.ensures.placed real))
