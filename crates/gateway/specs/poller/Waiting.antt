-- inner: the wait for what decides a request.
-- MODBUS Messaging on TCP/IP Implementation Guide, section 4.4.1 (MODBUS client).
use Rattle.std.specs.Prelude.{◌≡◌, ℕ, List, Option, Result, Ok, Err}
use Rattle.std.specs.Io.KnownBytes.{Consumes, prepend_known}
use Rattle.std.specs.List.{flat_map}
use Rattle.modbus_frame.specs.declared.frame.Frame.{Frame}
use Rattle.modbus_frame.specs.declared.link.LinkFault.{LinkFault}
use Rattle.modbus_frame.specs.declared.link.LinkFault.TheVariants as link
use Rattle.modbus_frame.specs.Frame.{frame_bytes}
use Rattle.modbus_frame.specs.Link.{Failures, FailsBy}
use Rattle.gateway.specs.declared.poller.outcome.Outcome.{Outcome}
use Rattle.gateway.specs.poller.LinkRun.{Asked, IsDecided, IsOpen}
use Rattle.gateway.specs.poller.Polling.{EndsWaiting}

-- The frames that came decide it.
pub record Gets (coming coming_then : Option (List ℕ)) (asked : Asked) (outcome : Outcome) : Type 0 where
  pub frames : List Frame
  pub decided : IsDecided asked frames outcome
  pub came : Consumes coming coming_then (flat_map frame_bytes frames)

-- They don't, and no other one came; these bytes were read ahead, and these the link has still to give.
pub record Misses (stream : Option (List ℕ)) (ahead : List ℕ) (coming : Option (List ℕ)) (asked : Asked) (fault : LinkFault) : Type 0 where
  pub frames : List Frame
  pub left : Option (List ℕ)
  pub undecided : IsOpen asked frames
  pub came : Consumes stream left (flat_map frame_bytes frames)
  pub ends : EndsWaiting fault left ahead coming

abbrev pub Waits : Option (List ℕ) → List ℕ → Option (List ℕ) → Asked → Result Outcome LinkFault → Type 0
Waits stream ahead coming asked (Ok outcome) = Gets stream (prepend_known ahead coming) asked outcome
Waits stream ahead coming asked (Err fault) = Misses stream ahead coming asked fault

-- A read failed, or gave nothing, or no turn was left, exactly where the fault says so; there is no fault of writing or memory.
abbrev pub CountsWaited : Failures → Failures → Result Outcome LinkFault → ℕ → Type 0
CountsWaited old new (Ok outcome) turns = FailsBy 0 0 0 old new
CountsWaited old new (Err link.Read) turns = FailsBy 1 0 0 old new
CountsWaited old new (Err link.Write) turns = ⊥
CountsWaited old new (Err (link.Frame f)) turns = FailsBy 0 0 0 old new
CountsWaited old new (Err link.End) turns = FailsBy 0 0 1 old new
CountsWaited old new (Err link.Turns) turns = FailsBy 0 0 0 old new × (turns ≡ 0)
CountsWaited old new (Err link.OutOfMemory) turns = ⊥
