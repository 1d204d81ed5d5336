use Rattle.std.proofs.Common.{◌≡◌, refl, ◌∙◌, ap}
use Rattle.modbus_frame.specs.Message.{request_bytes, request_of}
use Rattle.modbus_frame.proofs.Requests.{request_of-request_bytes}
use Rattle.modbus_frame.proofs.request.request_pdu.Goals as goal

pub returns-in-WriteMany-clause-again : goal.returns-in-WriteMany-clause-again
returns-in-WriteMany-clause-again c = λ within.
    let spelled : c.write_many_pdu.result ≡ request_bytes c.args.request.now = rw (c.write_many_pdu.ensures, c.as_slice.ensures.value, c.in-WriteMany.is) refl in
    ap request_of spelled ∙ request_of-request_bytes c.args.request.now (c.requires, within)
