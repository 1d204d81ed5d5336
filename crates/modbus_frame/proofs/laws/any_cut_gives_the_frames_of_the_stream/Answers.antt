use Rattle.modbus_frame.proofs.Streams.{runs_read_the_stream, cuts_give_the_same}
use Rattle.modbus_frame.proofs.laws.any_cut_gives_the_frames_of_the_stream.Goals as goal

pub returns-clause-stream : goal.returns-clause-stream
returns-clause-stream c = runs_read_the_stream

pub returns-clause-same : goal.returns-clause-same
returns-clause-same c = cuts_give_the_same
