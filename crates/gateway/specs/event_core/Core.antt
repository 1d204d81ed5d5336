-- What is seen of a gateway's core, and the site run of the program that it runs.
-- IEC 61131-3 edition 2, 3.2 (one scan after another).
use Rattle.std.specs.Prelude.{◌≡◌, ℕ, ℤ, List, Option, None, length, map}
use Rattle.register_map.specs.Layout.{Layout}
use Rattle.scan_vm.specs.Machine.{Running}
use Rattle.site_model.specs.declared.site.Site.{Site}
use Rattle.verifier.specs.declared.tag_link.TagLink.{TagLink}
use Rattle.verifier.specs.Verified.{Acceptance, HasLinks}
use Rattle.point_types.specs.declared.reading.Reading.{Reading}
use Rattle.site_model.specs.Readings.{AreSettings}
use Rattle.gateway.specs.declared.event_core.event.Event.{Event}
use Rattle.gateway.specs.declared.event_core.event.Answer.{Answer}
use Rattle.gateway.specs.declared.event_core.memory.Memory.{Memory}
use Rattle.gateway.specs.declared.event_core.opening.Opening.{Opening}
use Rattle.gateway.specs.declared.served.point.OwnPoint.{OwnPoint}
use Rattle.gateway.specs.served.Points.{own_points, all_registers}
use Rattle.gateway.specs.served.ServedImage.{IsServedImage}
use Rattle.gateway.specs.event_core.SiteRun.{Scanned, Standing, Steps, Runs, none_of, opened, unscanned}

-- the site, the maps of its devices, the program that runs, and what the site run stands at
pub record Gateway : Type 0 where
  pub site : Site
  pub maps : List (Option Layout)
  pub machine : Running
  pub standing : Standing

abbrev pub number_of : TagLink → ℕ
number_of link = link.number

-- the numbers of the site's tags that a program's tags are
abbrev pub numbers_of : Acceptance → List ℕ
numbers_of a = map number_of a.links

-- nothing is known or set, and the variables are the machine's
abbrev pub gateway_of : Site → List (Option Layout) → Running → Gateway
gateway_of site maps machine = record { site = site; maps = maps; machine = machine; standing = opened site machine.variables }

-- another program runs from now on, and all that is known and set stays
abbrev pub adopting : Running → Gateway → Gateway
adopting machine g = record g { machine = machine; standing = record g.standing { variables = machine.variables } }

-- nothing else changes
pub record IsSame (old new : Gateway) : Type 0 where
  pub site : new.site ≡ old.site
  pub maps : new.maps ≡ old.maps
  pub accepted : new.machine.accepted ≡ old.machine.accepted

-- one event, and a list of events, of the site run of this program
abbrev pub StepsOn : Gateway → Event → Answer → Gateway → Type 0
StepsOn old e a new = Steps old.site old.machine.accepted.image (numbers_of old.machine.accepted) old.machine.accepted.budget old.standing e a new.standing

abbrev pub RunsFrom : Gateway → Standing → List Event → List Answer → Standing → Type 0
RunsFrom old s es answers t = Runs old.site old.machine.accepted.image (numbers_of old.machine.accepted) old.machine.accepted.budget s es answers t

abbrev pub RunsOn : Gateway → List Event → List Answer → Gateway → Type 0
RunsOn old es answers new = RunsFrom old old.standing es answers new.standing

-- ---- what holds of a core's parts

abbrev pub last_of : Memory → Scanned
last_of k = record { steps = k.steps; outputs = k.outputs.items; readings = k.readings.items; blocks = k.scanned.items }

abbrev pub standing_of : Running → Memory → Standing
standing_of m k = record { blocks = k.blocks.items; sets = k.sets.items; ages = k.ages.items; elapsed = k.elapsed; variables = m.variables; last = last_of k }

-- an entry for each want and each tag of a site, each number in its tag's range
pub record IsKnown (site : Site) (k : Memory) : Type 0 where
  pub blocks : length k.blocks.items ≡ length site.wants
  pub scanned : length k.scanned.items ≡ length site.wants
  pub sets : length k.sets.items ≡ length site.tags
  pub ages : length k.ages.items ≡ length site.tags
  pub outputs : length k.outputs.items ≡ length site.tags
  pub readings : length k.readings.items ≡ length site.tags
  pub ranged : AreSettings site.tags k.sets.items
  pub stored : AreSettings site.tags k.outputs.items

-- nothing is known or set, and there was no scan
pub record IsOpening (site : Site) (k : Memory) : Type 0 where
  pub blocks : k.blocks.items ≡ none_of site.wants
  pub sets : k.sets.items ≡ none_of site.tags
  pub ages : k.ages.items ≡ none_of site.tags
  pub elapsed : k.elapsed ≡ None
  pub last : last_of k ≡ unscanned site

-- what a core makes for a site and a program of such links: nothing is known, and the registers are those of the served image
pub record IsReady (site : Site) (links : List TagLink) (o : Opening) : Type 0 where
  pub own : o.points ≡ own_points site
  pub known : IsOpening site o.known
  pub served : IsServedImage site o.known.outputs.items o.known.readings.items o.known.sets.items o.image.items
  pub sized : length o.image.items ≡ all_registers o.points
  pub roomy : length o.room.items ≡ length site.tags
  pub fed : length o.inputs.items ≡ length links

-- the registers are those of the served image, and the program is one for the site
pub record IsCore (site : Site) (maps : List (Option Layout)) (machine : Running) (points : List OwnPoint) (k : Memory) (image : List ℕ) (room : List (Option ℤ)) (inputs : List Reading) : Type 0 where
  pub matched : HasLinks site.tags machine.accepted.links
  pub linked : length machine.accepted.links ≡ length machine.accepted.image.tags
  pub mapped : length maps ≡ length site.devices
  pub own : points ≡ own_points site
  pub known : IsKnown site k
  pub served : IsServedImage site k.outputs.items k.readings.items k.sets.items image
  pub sized : length image ≡ all_registers points
  pub roomy : length room ≡ length site.tags
  pub fed : length inputs ≡ length machine.accepted.links
