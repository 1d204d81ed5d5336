use Rattle.modbus_frame.proofs.Rests.{rests_begin_frames, beginnings_are_rests}
use Rattle.modbus_frame.proofs.laws.a_rest_begins_a_frame.Goals as goal

pub returns-clause-begins : goal.returns-clause-begins
returns-clause-begins c = rests_begin_frames

pub returns-clause-only : goal.returns-clause-only
returns-clause-only c = beginnings_are_rests
