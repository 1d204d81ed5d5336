use Rattle.std.proofs.Common.{◌++◌, arith}
use Rattle.modbus_frame.proofs.Sending.{CountsBy-trans}
use Rattle.gateway.proofs.Requesting.{asks_by_waiting, fails_sending}
use Rattle.gateway.proofs.poller.exchange.exchange.Goals as goal

pub returns-in-Ok-clause-asks : goal.returns-in-Ok-clause-asks
returns-in-Ok-clause-asks g c =
    let reader = c.args.reader.now in
    asks_by_waiting ((reader.held).kept ++ reader.unfed) _ _ _ _ _ _ _ _ _ _ _ _ c.args.id c.args.unit c.args.request.now c.wait.result _
    c.in-Ok.ensures.keeps c.in-Ok.ensures.sends c.wait.ensures.keeps c.in-Ok.ensures.failures c.wait.ensures.waits c.wait.ensures.failures

pub returns-in-Ok-clause-calls : goal.returns-in-Ok-clause-calls
returns-in-Ok-clause-calls g c =
    CountsBy-trans _ _ _ _ _ _ c.in-Ok.ensures.calls c.wait.ensures.calls (omega (arith, c.in-Ok.ensures.within, c.wait.ensures.within))

pub returns-in-Err-clause-asks : goal.returns-in-Err-clause-asks
returns-in-Err-clause-asks g c =
    let reader = c.args.reader.now in
    fails_sending ((reader.held).kept ++ reader.unfed) _ _ _ _ _ _ _ _ c.args.id c.args.unit c.args.request.now c.in-Err.fault _ c.in-Err.ensures.keeps c.in-Err.ensures.sends c.in-Err.ensures.failures
