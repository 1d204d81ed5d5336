-- What a reader of frames holds between two frames.
-- MODBUS Messaging on TCP/IP Implementation Guide, section 3.1.2.
use Rattle.std.specs.Prelude.{ℕ, List}
use Rattle.modbus_frame.specs.Held.{Held}

-- what its framer holds, and the bytes that were read and not fed
pub record Reading : Type 0 where
  pub held : Held
  pub unfed : List ℕ
