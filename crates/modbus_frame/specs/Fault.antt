-- The words that programs print for faults.
-- No standard says what is printed; these words are this project's.
use Rattle.std.specs.Prelude.{ℕ, List, codes}
use Rattle.modbus_frame.specs.declared.fault.FrameFault.{FrameFault}
use Rattle.modbus_frame.specs.declared.fault.FrameFault.TheVariants.{BadProtocol, BadLength}
use Rattle.modbus_frame.specs.declared.link.LinkFault.{LinkFault}
use Rattle.modbus_frame.specs.declared.link.LinkFault.TheVariants.{Read, Write, Frame, End, Turns, OutOfMemory}
use Rattle.modbus_frame.specs.declared.message.ReplyFault.{ReplyFault}
use Rattle.modbus_frame.specs.declared.message.ReplyFault.TheVariants.{Exception, Mismatch}

abbrev pub frame_fault_word : FrameFault → List ℕ
frame_fault_word BadProtocol = codes "BadProtocol"
frame_fault_word BadLength = codes "BadLength"

abbrev pub reply_fault_word : ReplyFault → List ℕ
reply_fault_word (Exception _) = codes "Exception"
reply_fault_word Mismatch = codes "Mismatch"

abbrev pub link_fault_word : LinkFault → List ℕ
link_fault_word Read = codes "Read"
link_fault_word Write = codes "Write"
link_fault_word (Frame _) = codes "Frame"
link_fault_word End = codes "End"
link_fault_word Turns = codes "Turns"
link_fault_word OutOfMemory = codes "OutOfMemory"
