-- What scans over a link go through: the link and the core at each moment, what was read, and what is reported.
-- IEC 61131-3 edition 2, 3.2 (one scan after another); MODBUS Messaging on TCP/IP Implementation Guide, section 4.2.
use Rattle.std.specs.Prelude.{◌≡◌, ℕ, List, [], ◌∷◌, Option}
use Rattle.point_types.specs.declared.reading.Reading.{Reading}
use Rattle.scan_code.specs.Machine.{State}
use Rattle.gateway.specs.event_core.Control.{after_wait}
use Rattle.gateway.specs.event_core.Core.{Gateway}
use Rattle.gateway.specs.poller.Polling.{Polling}
use Rattle.commands.specs.Clients.{ClientsAsk}
use Rattle.commands.specs.declared.pace.RunPace.{RunPace}
use Rattle.gateway.specs.declared.poller.cycle.Report.{Report}

-- a moment: the link, and the core
pub record Moment : Type 0 where
  pub link : Polling
  pub core : Gateway

-- A scan: the moments before it, with its blocks taken, and after it; a reading of each tag of the site, where the machine
-- ended on these, and what is reported.
pub record Scan : Type 0 where
  pub before : Moment
  pub taken : Moment
  pub behind : Moment
  pub readings : List Reading
  pub end : State
  pub report : Report

-- so many milliseconds later
abbrev pub waited : ℕ → Moment → Moment
waited every m = record m { core = after_wait every m.core }

-- the core at another state, over the same link
abbrev pub at_core : Moment → Gateway → Moment
at_core m g = record m { core = g }

-- scans of which each begins where the one before it left off, once clients asked, where they are asked at all, and so many
-- milliseconds later
abbrev pub AreInOrder : RunPace → (Scan → Type 0) → Moment → List Scan → Moment → Type 0
AreInOrder pace Does first [] last = last ≡ first
AreInOrder pace Does first (scan ∷ scans) last =
    (heard : Gateway) × ClientsAsk pace.asked first.core heard × (scan.before ≡ waited pace.every (at_core first heard)) × Does scan × AreInOrder pace Does scan.behind scans last

-- What a run begins with and leaves: the poller of its link, what is printed, and the status.
pub record Course : Type 0 where
  pub link_before : Polling
  pub link_behind : Polling
  pub out_before : Option (List ℕ)
  pub out_behind : Option (List ℕ)
  pub status : ℕ

-- At most so many scans: what is reported of those that were done, the moment after them, and what is left: the link and the
-- core, what is printed before and after, and the status.
pub record Series : Type 0 where
  pub most : ℕ
  pub reports : List Report
  pub last : Moment
  pub left : Moment
  pub out_before : Option (List ℕ)
  pub out_behind : Option (List ℕ)
  pub status : ℕ
