-- A request that sets one tag alone sets it; time that goes by.
use Rattle.std.proofs.Common.{◌≡◌, ◌∙◌, ℕ, ℤ, List, Option, Some, Result, Ok, ap, subst}
use Rattle.std.specs.Prelude.{slice_set}
use Rattle.modbus_frame.specs.declared.message.Request.{Request}
use Rattle.modbus_frame.specs.declared.message.Exception.{Exception}
use Rattle.modbus_frame.specs.Message.{request_of}
use Rattle.gateway.specs.declared.event_core.event.Event.TheVariants as event
use Rattle.gateway.specs.declared.event_core.event.Answer.{Answer}
use Rattle.gateway.specs.event_core.Core.{Gateway, StepsOn}
use Rattle.gateway.specs.event_core.Restoring.{SetsAlone}
use Rattle.gateway.specs.event_core.Control.{after_wait}
use Rattle.gateway.specs.event_core.SiteRun.{Replies, Standing}
use Rattle.register_map.specs.Layout.{Layout}
use Rattle.scan_vm.specs.Machine.{Running}
use Rattle.site_model.specs.declared.site.Site.{Site}
use Rattle.service.specs.Stages.{TakesEvent}

-- Time that went by, and nothing else.
pub time_alone : (g h : Gateway) (ms : ℕ) → TakesEvent (event.Time ms) g h → h ≡ after_wait ms g
time_alone g h ms (a, (depth, ((step, same), drives))) =
    ap (λ (x : Site). record { site = x; maps = h.maps; machine = h.machine; standing = h.standing }) same.site
    ∙ ap (λ (x : List (Option Layout)). record { site = g.site; maps = x; machine = h.machine; standing = h.standing }) same.maps
    ∙ ap (λ (x : Running). record { site = g.site; maps = g.maps; machine = x; standing = h.standing }) drives
    ∙ ap (λ (x : Standing). record { site = g.site; maps = g.maps; machine = g.machine; standing = x }) step.1

pub set_alone : (g h : Gateway) (pdu : List ℕ) (asked : Request) (a : Answer) (tag : ℕ) (number : ℤ) → StepsOn g (event.Client pdu) a h → request_of pdu ≡ Ok asked → SetsAlone g.site tag number asked
    → h.standing ≡ record g.standing { sets = slice_set (g.standing).sets tag (Some number); ages = slice_set (g.standing).ages tag (Some 0) }
set_alone g h pdu asked a tag number (reply, is, replies) again alone =
    let (r, does, said) : Replies g.site g.standing pdu (Ok asked) reply h.standing = subst (λ (x : Result Request Exception). Replies g.site g.standing pdu x reply h.standing) again replies in
    (alone g.standing h.standing r does).1
