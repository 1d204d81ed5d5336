-- What goes out of a service is of its site.
use Rattle.std.proofs.Common.{◌≡◌, ◌⊎◌, inl, inr, ℕ, Bool, true, false, List, Option, None, Some, Ok, sym, ap, ◌∙◌, if◌then◌else◌}
use Rattle.std.specs.Prelude.{◌==◌}
use Rattle.std.proofs.Math.Logic.{∥∥₁_elim, ∥∥₁_prop}
use Rattle.modbus_frame.specs.declared.message.Request.{Request}
use Rattle.site_model.specs.declared.site.Site.{Site}
use Rattle.point_writer.specs.declared.write.Write.{Write}
use Rattle.gateway.specs.declared.poller.cycle.Call.{Call}
use Rattle.gateway.specs.event_core.Control.{SetsItsTag}
use Rattle.gateway.specs.event_core.Core.{Gateway}
use Rattle.gateway.specs.poller.Cycle.{write_of}
use Rattle.service_parts.specs.Calls.{IsCallFor}
use Rattle.service_parts.specs.declared.limits.Station.{Station}
use Rattle.service_parts.specs.declared.asked.Aim.{Aim}
use Rattle.service_parts.specs.declared.asked.Aim.TheVariants as aim
use Rattle.service_parts.specs.Course.{AreRuns}
use Rattle.service_parts.specs.Requests.{IsRest, IsRightful, MayBeAsked}
use Rattle.service.proofs.Runs.{courses_are_site_runs, runs_site}
use Rattle.served_site.proofs.ReadsAlone.{IsRead, of_read}
use Rattle.served_site.proofs.Served.{serves_site}
use Rattle.served_site.specs.Going.{IsOfTheSite, SetPointsAloneAreWritten}

-- a call writes a set point of this state
record Writes (g : Gateway) (call : Call) : Type 0 where
  output : ℕ
  write : Write
  sets : SetsItsTag g output write
  written : write_of g.site.devices (Ok write) ≡ Some call

chosen : {A : Type 0} (b : Bool) (o : Option A) (x : A) → (if b then o else None) ≡ Some x → o ≡ Some x
chosen true o x is = is
chosen false o x is = absurd (cc)

of_call : (g : Gateway) (made_for : Aim) (device : ℕ) (call : Call) → IsCallFor g made_for device call → IsRead call.request ⊎ Writes g call
of_call g (aim.Block want) device call is = inl (of_read call g.site g.maps is.want is.read)
of_call g (aim.Output output) device call is = inr (record {
  output = output;
  write = is.write;
  sets = is.sets;
  written = chosen (is.write.device == device) (write_of g.site.devices (Ok is.write)) call is.written;
})
of_call g aim.Map device call is = absurd is

-- a request that may be asked, with the unit that it is for where it writes
abbrev IsAllowed : Gateway → Request → Type 0
IsAllowed g request = IsRead request ⊎ ((unit : ℕ) × Writes g (record { unit = unit; request = request }))

of_asked : (g : Gateway) (found_on : List (Option ℕ)) (number : ℕ) (made_for : Aim) (device : ℕ) (request : Request) → MayBeAsked g found_on number made_for device request → IsAllowed g request
of_asked g found_on number made_for device request (inr (map, sought)) = inl (sought.comes.0, sought.comes.1, sought.comes.2)
of_asked g found_on number made_for device request (inl (round, found)) = go (of_call g made_for device (record { unit = round.unit; request = request }) round.call)
  where
    go : IsRead request ⊎ Writes g (record { unit = round.unit; request = request }) → IsAllowed g request
    go (inl read) = inl read
    go (inr writes) = inr (round.unit, writes)

module _ (site : Site) where
  of_rest : (now : Gateway) (stations : List Station) (found_on : List (Option ℕ)) (link number : ℕ) (bytes : List ℕ) → now.site ≡ site → IsRest now stations found_on link number bytes
      → IsOfTheSite site now bytes
  of_rest now stations found_on link number bytes same_site rest =
      let led = courses_are_site_runs rest.made.core now rest.made.since in
      let here : rest.made.core.site ≡ site = sym (runs_site rest.made.core now led) ∙ same_site in
      go led here (of_asked rest.made.core found_on number rest.made_for rest.device rest.frame.request rest.made.asked)
    where
      go : AreRuns rest.made.core now → rest.made.core.site ≡ site → IsAllowed rest.made.core rest.frame.request → IsOfTheSite site now bytes
      go led on_site (inl read) = inr (inl (record { frame = rest.frame; address = read.0; count = read.1; reads = read.2; gone = rest.gone; whole = rest.whole }))
      go led on_site (inr (unit, writes)) = inr (inr (record {
        state = rest.made.core;
        same_site = on_site;
        led = led;
        output = writes.output;
        write = writes.write;
        sets = writes.sets;
        frame = rest.frame;
        unit = unit;
        written = ap (λ (x : Site). write_of x.devices (Ok writes.write)) (sym on_site) ∙ writes.written;
        gone = rest.gone;
        whole = rest.whole;
      }))

  of_rightful : (now : Gateway) (stations : List Station) (found_on : List (Option ℕ)) (link number : ℕ) (bytes : List ℕ) → now.site ≡ site → IsRightful now stations found_on link number bytes
      → IsOfTheSite site now bytes
  of_rightful now stations found_on link number bytes same_site (inl empty) = inl empty
  of_rightful now stations found_on link number bytes same_site (inr rest) = of_rest now stations found_on link number bytes same_site rest

pub set_points_alone_are_written : SetPointsAloneAreWritten
set_points_alone_are_written site_text texts site p a now serves lines link number bytes at rightful =
    ∥∥₁_elim (rightful number at) ∥∥₁_prop
    (λ is. ∣ of_rightful site now.core lines.links.stations.items lines.found_on.items link number bytes (serves_site site_text texts site p a now serves) is ∣₁)
