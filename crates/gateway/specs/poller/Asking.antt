-- inner: one call of a poller, which asks one unit after another by at most so many reads and writes.
-- MODBUS Messaging on TCP/IP Implementation Guide, section 4.4.1 (MODBUS client).
use Rattle.std.specs.Prelude.{◌≡◌, ◌⊎◌, ℕ, ◌-◌, ◌≤◌, Option, None, Some, Result, Err}
use Rattle.modbus_frame.specs.declared.link.LinkFault.{LinkFault}
use Rattle.modbus_frame.specs.declared.link.LinkFault.TheVariants as link
use Rattle.modbus_frame.specs.declared.message.Request.{Request}
use Rattle.modbus_frame.specs.Link.{CountsBy}
use Rattle.gateway.specs.declared.poller.outcome.Outcome.{Outcome}
use Rattle.gateway.specs.poller.Polling.{Polling, Asks, UsesUp}

-- the poller, the unit that is asked, and how many reads and writes the call may still make
pub record Asking : Type 0 where
  pub polling : Polling
  pub unit : ℕ
  pub turns : ℕ

-- One request of the call.
pub record AsksOnce (s : Asking) (request : Request) (result : Result Outcome LinkFault) (t : Asking) : Type 0 where
  pub asks : Asks s.polling s.unit request result t.polling
  pub unit : t.unit ≡ s.unit
  pub calls : CountsBy (s.turns - t.turns) (s.polling).calls (t.polling).calls
  pub within : t.turns ≤ s.turns
  pub used : UsesUp result t.turns

-- After a fault each request has that fault for an answer, and nothing is touched.
abbrev pub AsksUnless : Option LinkFault → Asking → Request → Result Outcome LinkFault → Asking → Type 0
AsksUnless None s request result t = AsksOnce s request result t
AsksUnless (Some fault) s request result t = (result ≡ Err fault) × (t ≡ s)

-- Several requests of one call: its reads and writes are taken off, and with `Turns` none is left.
pub record Turned (s t : Asking) : Type 0 where
  pub calls : CountsBy (s.turns - t.turns) (s.polling).calls (t.polling).calls
  pub within : t.turns ≤ s.turns
  pub used : (t.polling).fault ≡ Some link.Turns → ((s.polling).fault ≡ Some link.Turns) ⊎ (t.turns ≡ 0)
