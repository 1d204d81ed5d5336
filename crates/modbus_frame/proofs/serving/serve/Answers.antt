use Rattle.std.proofs.Common.{◌≡◌, ◌+◌, Ok, Err}
use Rattle.modbus_frame.specs.declared.link.LinkFault.TheVariants as link
use Rattle.modbus_frame.proofs.Answering.{served_start, served_more, serves_all, serves_last, stops_reading, stops_replying, calls_reading, calls_replying, no_turns_reading, no_turns_sending}
use Rattle.modbus_frame.proofs.serving.serve.Goals as goal

pub loop-frame-init : goal.loop-frame-init
loop-frame-init g c = served_start g.R.Responder.answers _ _ _ c.new-reader.ensures

pub loop-frame-preserved : goal.loop-frame-preserved
loop-frame-preserved g c =
    let so_far = c.loop-frame.invariant in
    let read = c.in-Ok-Some.ensures in
    served_more g.R.Responder.answers _ _ _ _ _ _ _ _ c.next_frame.new.self _ _ _ _ c.in-Ok-Some.frame so_far
    (record {
      reads = rw c.in-Ok-Some.field-0-is at (read.reads so_far.fresh);
      keeps = read.keeps;
      failures = rw c.in-Ok-Some.field-0-is at read.failures;
      calls = read.calls;
      within = read.within;
    })
    (rw c.in-Ok-true.field-0-test at c.in-Ok-true.ensures)

pub returns-in-Ok-false-clause-serves : goal.returns-in-Ok-false-clause-serves
returns-in-Ok-false-clause-serves g c =
    let so_far = c.loop-frame.invariant in
    let read = c.in-Ok-Some.ensures in
    serves_last g.R.Responder.answers _ _ _ _ _ _ _ _ c.next_frame.new.self _ _ _ _ c.in-Ok-Some.frame so_far
    (record {
      reads = rw c.in-Ok-Some.field-0-is at (read.reads so_far.fresh);
      keeps = read.keeps;
      failures = rw c.in-Ok-Some.field-0-is at read.failures;
      calls = read.calls;
      within = read.within;
    })
    (rw c.in-Ok-false.field-0-test at c.in-Ok-false.ensures)

pub returns-in-Ok-false-clause-calls : goal.returns-in-Ok-false-clause-calls
returns-in-Ok-false-clause-calls g c =
    let so_far = c.loop-frame.invariant in
    let read = c.in-Ok-Some.ensures in
    let one = c.in-Ok-false.ensures in
    calls_replying g.R.Responder.answers _ _ _ _ _ _ _ _ _ _ _ (Ok (c.loop-frame.served + 1)) so_far read.calls read.within (one.sends).called (one.sends).within (λ is. absurd (cc))

pub returns-in-Err-answer_next-clause-serves : goal.returns-in-Err-answer_next-clause-serves
returns-in-Err-answer_next-clause-serves g c =
    let so_far = c.loop-frame.invariant in
    let read = c.in-Ok-Some.ensures in
    stops_replying g.R.Responder.answers _ _ _ _ _ _ _ _ c.next_frame.new.self _ _ _ _ c.in-Ok-Some.frame c.in-Err-answer_next.fault so_far
    (record {
      reads = rw c.in-Ok-Some.field-0-is at (read.reads so_far.fresh);
      keeps = read.keeps;
      failures = rw c.in-Ok-Some.field-0-is at read.failures;
      calls = read.calls;
      within = read.within;
    })
    c.in-Err-answer_next.ensures

pub returns-in-Err-answer_next-clause-calls : goal.returns-in-Err-answer_next-clause-calls
returns-in-Err-answer_next-clause-calls g c =
    let so_far = c.loop-frame.invariant in
    let read = c.in-Ok-Some.ensures in
    let one = c.in-Err-answer_next.ensures in
    calls_replying g.R.Responder.answers _ _ _ _ _ _ _ _ _ _ _ (Err c.in-Err-answer_next.fault) so_far read.calls read.within (one.sends).called (one.sends).within
    (λ is. let same : c.in-Err-answer_next.fault ≡ link.Turns = (cc) in no_turns_sending (g.L.Link.failures c.next_frame.new.link) (g.L.Link.failures c.answer_next.new.link) c.in-Err-answer_next.fault _ (one.sends).failed same)

pub returns-in-Ok-None-clause-serves : goal.returns-in-Ok-None-clause-serves
returns-in-Ok-None-clause-serves g c =
    let so_far = c.loop-frame.invariant in
    let read = c.in-Ok-None.ensures in
    serves_all g.R.Responder.answers _ _ _ _ _ _ c.next_frame.new.self _ _ _ so_far
    (record {
      reads = rw c.in-Ok-None.field-0-is at (read.reads so_far.fresh);
      keeps = read.keeps;
      failures = rw c.in-Ok-None.field-0-is at read.failures;
      calls = read.calls;
      within = read.within;
    })

pub returns-in-Ok-None-clause-calls : goal.returns-in-Ok-None-clause-calls
returns-in-Ok-None-clause-calls g c =
    let read = c.in-Ok-None.ensures in
    calls_reading g.R.Responder.answers _ _ _ _ _ _ _ _ _ (Ok c.loop-frame.served) c.loop-frame.invariant read.calls read.within (λ is. absurd (cc))

pub returns-in-Err-clause-serves : goal.returns-in-Err-clause-serves
returns-in-Err-clause-serves g c =
    let so_far = c.loop-frame.invariant in
    let read = c.in-Err.ensures in
    stops_reading g.R.Responder.answers _ _ _ _ _ _ c.next_frame.new.self _ _ _ c.in-Err.fault so_far
    (record {
      reads = read.reads so_far.fresh;
      keeps = read.keeps;
      failures = read.failures;
      calls = read.calls;
      within = read.within;
    })

pub returns-in-Err-clause-calls : goal.returns-in-Err-clause-calls
returns-in-Err-clause-calls g c =
    let read = c.in-Err.ensures in
    calls_reading g.R.Responder.answers _ _ _ _ _ _ _ _ _ (Err c.in-Err.fault) c.loop-frame.invariant read.calls read.within
    (λ is. let same : c.in-Err.fault ≡ link.Turns = (cc) in no_turns_reading (g.L.Link.failures c.loop-frame.link) (g.L.Link.failures c.next_frame.new.link) c.in-Err.fault _ read.failures same)
