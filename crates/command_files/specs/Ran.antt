-- A run: scans over a link that was opened for it, and what is printed after them.
-- IEC 61131-3 edition 2, 3.2 (one scan after another); MODBUS Messaging on TCP/IP Implementation Guide, section 4.2.
use Rattle.std.specs.Prelude.{◌≡◌, ◌≢◌, ◌⊎◌, ℕ, List, map, string_bytes, Option}
use Rattle.modbus_frame.specs.Link.{LinkState}
use Rattle.gateway.specs.event_core.Core.{Gateway}
use Rattle.gateway.specs.poller.Polling.{Polling}
use Rattle.refusal_notes.specs.declared.notes.Notes.{Notes}
use Rattle.commands.specs.Obeyed.{Runs}
use Rattle.commands.specs.declared.pace.RunPace.{RunPace}
use Rattle.command_files.specs.Opened.{left_of, opened}
use Rattle.command_files.specs.Printing.{Fails, Grows}

-- at most so many scans of the program of the files' texts, so far apart
abbrev pub ScansBy : Notes → RunPace → Polling → Polling → Option (List ℕ) → Option (List ℕ) → Option Gateway → ℕ → Type 0
ScansBy files pace p q old new core status = Runs files.site.now files.program.now (map string_bytes files.defs.now) pace p q old new core status

-- over a link, from its first state to its last, over which nothing else goes
pub record ScansLink (files : Notes) (pace : RunPace) (a b : LinkState) (old new : Option (List ℕ)) (core : Option Gateway) (status : ℕ) : Type 0 where
  pub behind : Polling
  pub scans : ScansBy files pace (opened a) behind old new core status
  pub left : b ≡ left_of behind

-- after scans with this status: where it isn't 0 it is told as it is, and nothing more is printed
pub record EndsBehind (ended : ℕ) (old new : Option (List ℕ)) (status : ℕ) : Type 0 where
  pub grows : Grows old new
  pub ill : ended ≢ 0 → (status ≡ ended) × (new ≡ old)

-- the scans over a link, and then what is printed after them
pub record RunsOver (files : Notes) (pace : RunPace) (a b : LinkState) (old new : Option (List ℕ)) (status : ℕ) : Type 0 where
  pub core : Option Gateway
  pub ended : ℕ
  pub written : Option (List ℕ)
  pub scans : ScansLink files pace a b old written core ended
  pub behind : EndsBehind ended written new status

-- that, over a link that was opened for it; or there is none, which isn't well
abbrev pub RunsOnce : Notes → RunPace → Option (List ℕ) → Option (List ℕ) → ℕ → Type 0
RunsOnce files pace old new status = ((a b : LinkState) × RunsOver files pace a b old new status) ⊎ Fails old new status
