use Rattle.std.proofs.Common.{◌∙◌, ap}
use Rattle.modbus_frame.specs.Message.{request_of}
use Rattle.modbus_frame.proofs.Requests.{request_of-stands, request_of-request_bytes}
use Rattle.modbus_frame.proofs.request.parse_request.Goals as goal

pub returns-clause-told : goal.returns-clause-told
returns-clause-told c =
    rw (c.parse.ensures, c.bytes.ensures.value) (request_of-stands c.args.pdu.now c.bytes.ensures.octets)

pub returns-clause-again : goal.returns-clause-again
returns-clause-again c = λ r good spelled.
    c.parse.ensures ∙ ap request_of (c.bytes.ensures.value ∙ spelled) ∙ request_of-request_bytes r good
