-- What happens to a core: events of the site run (IEC 61131-3 edition 2, 3.2), maps that searches find or that are forgotten,
-- and other programs that are put in for the one that runs.
use Rattle.std.specs.Prelude.{◌≡◌, ℕ, List, Option, ⊤, set}
use Rattle.register_map.specs.Layout.{Layout}
use Rattle.scan_vm.specs.Machine.{Running}
use Rattle.site_model.specs.declared.site.Site.{Site}
use Rattle.verifier.specs.Verified.{HasLinks}
use Rattle.gateway.specs.declared.event_core.event.Event.{Event}
use Rattle.gateway.specs.declared.event_core.event.Event.TheVariants as event
use Rattle.gateway.specs.declared.event_core.event.Answer.{Answer}
use Rattle.gateway.specs.event_core.Core.{Gateway, RunsOn, adopting, gateway_of}
use Rattle.gateway.specs.event_core.Driving.{Happens}
use Rattle.service_parts.specs.Seeking.{IsFound}

-- A client asks: the one kind of event that clients bring.
abbrev pub IsOfClients : Event → Type 0
IsOfClients (event.Client _) = ⊤
IsOfClients _ = ⊥

-- What devices answer, or don't, and scans: all other kinds.
abbrev pub IsOfRounds : Event → Type 0
IsOfRounds (event.Client _) = ⊥
IsOfRounds _ = ⊤

abbrev pub IsAny : Event → Type 0
IsAny _ = ⊤

-- From the one state to the other by events of these kinds and by learned maps alone, one after another.
pub data GoesBy (Kinds : Event → Type 0) : Gateway → Gateway → Type 0 where
  stays : (g : Gateway) → GoesBy Kinds g g
  steps : {g h : Gateway} → GoesBy Kinds g h → (e : Event) → Kinds e → (a : Answer) (i : Gateway) → Happens h e a i → GoesBy Kinds g i
  learns : {g h : Gateway} → GoesBy Kinds g h → (device : ℕ) (found : Option Layout) → IsFound h.site device found → GoesBy Kinds g (record h { maps = set h.maps device found })

abbrev pub Goes : Gateway → Gateway → Type 0
Goes g h = GoesBy IsAny g h

-- From the one state to the other by these, and by other programs that were accepted for the site's tags: each is put in for the
-- one before, and runs from the next scan on.
pub data GoesOn : Gateway → Gateway → Type 0 where
  goes : {g h : Gateway} → Goes g h → GoesOn g h
  adopts : {g h : Gateway} → GoesOn g h → (machine : Running) → HasLinks h.site.tags machine.accepted.links → (i : Gateway) → Goes (adopting machine h) i → GoesOn g i

-- Whatever led to the one state leads to the other: such events and learned maps alone lie between.
abbrev pub LeadsOnBy : (Kinds : Event → Type 0) → Gateway → Gateway → Type 0
LeadsOnBy Kinds old new = (from : Gateway) → ∥ GoesBy Kinds from old ∥₁ → ∥ GoesBy Kinds from new ∥₁

-- by what devices answer and by scans: no client is answered, and none sets anything
abbrev pub LeadsOn : Gateway → Gateway → Type 0
LeadsOn old new = LeadsOnBy IsOfRounds old new

-- A core on which nothing happened.
pub record IsNew (g : Gateway) : Type 0 where
  pub site : Site
  pub maps : List (Option Layout)
  pub entry : Running
  pub opened : g ≡ gateway_of site maps entry

-- It came to this by events, learned maps and programs that were put in alone, from a core on which nothing happened.
pub record Reached (g : Gateway) : Type 0 where
  pub first : Gateway
  pub opening : IsNew first
  pub goes : GoesOn first g

-- ---- what is known, set and written

-- The one state is that of a site run which led to the other: of the same site, and of the one program that runs.
pub record IsRun (old new : Gateway) : Type 0 where
  pub site : new.site ≡ old.site
  pub program : new.machine.accepted ≡ old.machine.accepted
  pub events : List Event
  pub answers : List Answer
  pub run : RunsOn old events answers new

-- Such site runs, one after another: before each except the first another accepted program was put in.
pub data AreRuns : Gateway → Gateway → Type 0 where
  first : {g h : Gateway} → IsRun g h → AreRuns g h
  next : {g h : Gateway} → AreRuns g h → (machine : Running) → HasLinks h.site.tags machine.accepted.links → (i : Gateway) → IsRun (adopting machine h) i → AreRuns g i

-- Wherever events, learned maps and programs that are put in lead, what is known, set and written there is the site run of those
-- events, by the program that ran at each.
abbrev pub CoursesAreSiteRuns : Type 0
CoursesAreSiteRuns = (g h : Gateway) → GoesOn g h → AreRuns g h
