-- inner: how far a text is read, and where the tokens of a byte stand in its line.
use Rattle.std.specs.Prelude.{◌≡◌, ◌+◌, ◌≤◌, ℕ, Option, Some, None, Result, Ok, Err, if◌then◌else◌, nat_eq}
use Rattle.il_reader.specs.declared.fault.ReadFault.{ReadFault}
use Rattle.il_reader.specs.declared.place.FaultPlace.{FaultPlace}
use Rattle.il_reader.specs.declared.place.Misfit.{Misfit}
use Rattle.il_reader.specs.declared.place.Tracer.{Tracer}
use Rattle.il_reader.specs.declared.reader.Reader.{Reader}
use Rattle.il_reader.specs.declared.spots.Span.{Span}
use Rattle.il_reader.specs.declared.spots.Spots.{Spots}
use Rattle.il_reader.specs.declared.spots.Tokens.{Tokens}
use Rattle.il_reader.specs.declared.state.State.{State}
use Rattle.il_reader.specs.declared.tree.Program.{Program}
use Rattle.il_reader.specs.Drafting.{Move}
use Rattle.il_reader.specs.Tokens.{line_behind}

-- the line's beginning, its last token and what stands open come before the next byte
pub record AreInOrder (s : Spots) : Type 0 where
  pub begun_starts : s.start ≤ s.begun
  pub begun_comes : s.begun ≤ s.next
  pub last_starts : s.start ≤ s.last.at
  pub last_ends : s.last.at ≤ s.last.behind
  pub last_comes : s.last.behind ≤ s.next

-- bytes of the line, as far as with the next one
pub record IsCovered (s : Spots) (p : Span) : Type 0 where
  pub starts : s.start ≤ p.at
  pub begins : p.at ≤ s.next
  pub ordered : p.at ≤ p.behind
  pub ends : p.behind ≤ s.next + 1

pub record AreCovered (s : Spots) (ts : Tokens) : Type 0 where
  pub before : IsCovered s ts.before
  pub ended : IsCovered s ts.ended
  pub own : IsCovered s ts.own

-- a byte later; a line feed begins a line
pub record IsMoved (b : ℕ) (s t : Spots) : Type 0 where
  pub next : t.next ≡ s.next + 1
  pub start : t.start ≡ (if nat_eq b 10 then s.next + 1 else s.start)

-- after a byte of a reader's line
pub record IsPassed (b : ℕ) (s t : Tracer) : Type 0 where
  pub ordered : AreInOrder t.spots
  pub moved : IsMoved b s.spots t.spots
  pub line : t.reader.line ≡ line_behind b s.reader.line
  pub last : t.reader.last ≡ s.reader.line

-- a refusal of the next byte, with bytes of its line
pub record IsThere (s : Tracer) (place : FaultPlace) : Type 0 where
  pub line : place.fault.line ≡ s.reader.line
  pub covered : IsCovered s.spots (record { at = place.at; behind = place.behind })

-- the same without places
abbrev pub fault_or_reader : Result Tracer FaultPlace → Result Reader ReadFault
fault_or_reader (Ok t) = Ok t.reader
fault_or_reader (Err place) = Err place.fault

abbrev pub move_of : Result State Misfit → Move
move_of (Ok s) = Ok s
move_of (Err misfit) = Err misfit.kind

-- a refusal with its place, or none, as an answer to a text has it
abbrev pub IsFound : Option FaultPlace → Result Program ReadFault → Type 0
IsFound (Some place) answer = answer ≡ Err place.fault
IsFound None answer = (p : Program) × (answer ≡ Ok p)
