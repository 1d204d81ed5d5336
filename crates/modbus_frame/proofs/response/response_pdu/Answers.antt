use Rattle.std.proofs.Common.{◌∙◌, ap}
use Rattle.modbus_frame.specs.Message.{response_of}
use Rattle.modbus_frame.proofs.Responses.{response_of-answer_bytes}
use Rattle.modbus_frame.proofs.response.response_pdu.Goals as goal

pub returns-clause-again : goal.returns-clause-again
returns-clause-again c =
    ap (response_of c.args.request.now) c.spell.ensures ∙ response_of-answer_bytes c.args.request.now c.args.answer.now c.requires
