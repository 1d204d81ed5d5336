-- What a framer holds between two pieces of a stream.
-- MODBUS Messaging on TCP/IP Implementation Guide, section 3.1.2.
use Rattle.std.specs.Prelude.{ℕ, List, Option}
use Rattle.modbus_frame.specs.declared.fault.FrameFault.{FrameFault}

-- the bytes of a frame that isn't whole yet, and the fault that it met
pub record Held : Type 0 where
  pub kept : List ℕ
  pub fault : Option FrameFault
