use Rattle.std.proofs.Common.{◌∙◌, ap}
use Rattle.modbus_frame.specs.Message.{response_of}
use Rattle.modbus_frame.proofs.Responses.{response_of-stands, response_of-answer_bytes}
use Rattle.modbus_frame.proofs.response.parse_response.Goals as goal

pub returns-clause-told : goal.returns-clause-told
returns-clause-told c =
    rw (c.parse.ensures, c.bytes.ensures.value) (response_of-stands c.args.request.now c.args.pdu.now c.bytes.ensures.octets)

pub returns-clause-again : goal.returns-clause-again
returns-clause-again c = λ answer fits spelled.
    c.parse.ensures ∙ ap (response_of c.args.request.now) (c.bytes.ensures.value ∙ spelled) ∙ response_of-answer_bytes c.args.request.now answer fits
