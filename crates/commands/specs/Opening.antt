-- The core of a program on a site at the start: the maps of the site's devices are found over a link; or what is told where there is none.
-- SunSpec Device Information Model Specification, device modbus maps; MODBUS Messaging on TCP/IP Implementation Guide, section 4.2.
use Rattle.std.specs.Prelude.{◌≡◌, ◌≢◌, ◌⊎◌, ℕ, List, Option, None, Some, Result, Ok, Err}
use Rattle.modbus_frame.specs.Fault.{link_fault_word}
use Rattle.modbus_frame.specs.declared.link.LinkFault.{LinkFault}
use Rattle.modbus_frame.specs.declared.link.LinkFault.TheVariants as link
use Rattle.register_map.specs.Layout.{Layout}
use Rattle.site_model.specs.declared.device.SiteDevice.{SiteDevice}
use Rattle.site_model.specs.declared.site.Site.{Site}
use Rattle.il_assemble.specs.Meaning.{Program}
use Rattle.scan_vm.specs.Machine.{Running, opened}
use Rattle.verifier.specs.Verified.{Acceptance, HasLinks}
use Rattle.gateway.specs.event_core.Core.{Gateway, gateway_of}
use Rattle.gateway.specs.event_core.Fault.{core_fault_word}
use Rattle.gateway.specs.poller.Finding.{FindsAll, StopsUnless}
use Rattle.gateway.specs.poller.Polling.{Polling}
use Rattle.gateway.specs.declared.event_core.fault.CoreFault.TheVariants.{Foreign}
use Rattle.commands.specs.Accepted.{Accepts, Refuses}
use Rattle.commands.specs.Printed.{unlinked_with}
use Rattle.commands.specs.Report.{bad_core_line, link_line, no_memory_line}
use Rattle.commands.specs.Told.{IsTold, Told, refused_with}

-- ---- the core

-- The poller's fault at the search for the devices' maps; one that had failed answers its fault.
abbrev pub IsUnfound : Option LinkFault → List SiteDevice → Polling → LinkFault → Polling → Type 0
IsUnfound None devices p fault q = StopsUnless devices p fault q
IsUnfound (Some kept) devices p fault q = (fault ≡ kept) × (q ≡ p)

-- The poller as the search for the devices' maps leaves it, with maps or with a fault.
abbrev pub IsSearched : List SiteDevice → Polling → Polling → Type 0
IsSearched devices p q = ((maps : List (Option Layout)) × FindsAll devices p maps q) ⊎ ((fault : LinkFault) × IsUnfound p.fault devices p fault q)

-- A core is made of a machine over the maps of the site's devices; or the program was accepted for other tags.
abbrev pub MakesCore : Site → Running → List (Option Layout) → Result Gateway Told → Type 0
MakesCore site m maps (Ok core) = HasLinks site.tags m.accepted.links × (core ≡ gateway_of site maps m)
MakesCore site m maps (Err told) = (HasLinks site.tags m.accepted.links → ⊥) × (told ≡ refused_with (bad_core_line (core_fault_word Foreign)))

-- The devices' maps are found, and the core stands at the opening of the site run; or the link failed, or the program
-- was accepted for other tags.
abbrev pub OpensCore : Site → Acceptance → Polling → Polling → Result Gateway Told → Type 0
OpensCore site a p q (Ok core) =
    (maps : List (Option Layout)) × (p.fault ≡ None) × FindsAll site.devices p maps q × HasLinks site.tags a.links × (core ≡ gateway_of site maps (opened a))
OpensCore site a p q (Err told) =
    ((fault : LinkFault) × (fault ≢ link.OutOfMemory) × IsUnfound p.fault site.devices p fault q × (told ≡ unlinked_with (link_line (link_fault_word fault))))
    ⊎ ((maps : List (Option Layout)) × FindsAll site.devices p maps q × (HasLinks site.tags a.links → ⊥) × (told ≡ refused_with (bad_core_line (core_fault_word Foreign))))

abbrev pub StartsCore : List ℕ → List ℕ → List (List ℕ) → Polling → Polling → Result Gateway Told → Type 0
StartsCore site program texts p q (Ok core) =
    (s : Site) × (tree : Program) × (a : Acceptance) × Accepts site program texts s tree a × OpensCore s a p q (Ok core)
StartsCore site program texts p q (Err told) =
    (Refuses site program texts told × (q ≡ p))
    ⊎ ((s : Site) × (tree : Program) × (a : Acceptance) × Accepts site program texts s tree a × OpensCore s a p q (Err told))

-- Where memory is refused, the poller is as it was, or as the search for the maps of the site's devices left it.
abbrev pub LeavesPoller : List ℕ → List ℕ → List (List ℕ) → Polling → Polling → Type 0
LeavesPoller site program texts p q =
    (q ≡ p) ⊎ ((s : Site) × (tree : Program) × (a : Acceptance) × Accepts site program texts s tree a × IsSearched s.devices p q)

-- ---- no core

-- there is no core, or memory was refused for it
abbrev pub TellsNoCore : List ℕ → List ℕ → List (List ℕ) → Polling → Polling → Told → Type 0
TellsNoCore site program texts p q told =
    StartsCore site program texts p q (Err told) ⊎ (LeavesPoller site program texts p q × (told ≡ refused_with no_memory_line))

abbrev pub IsRefused : List ℕ → List ℕ → List (List ℕ) → Polling → Polling → Option (List ℕ) → Option (List ℕ) → ℕ → Type 0
IsRefused site program texts p q old new status = (told : Told) × TellsNoCore site program texts p q told × IsTold old new told status
