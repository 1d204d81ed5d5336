use Rattle.modbus_frame.proofs.serving.answer_next.Goals as goal

pub returns-in-Ok : goal.returns-in-Ok
returns-in-Ok g c = record {
  bytes = c.answer-answer.result.bytes;
  goes_on = c.answer-answer.result.goes_on;
  answers = c.answer-answer.ensures.answers;
  some = c.answer-answer.ensures.some;
  sends = c.in-Ok.ensures;
  tells = c.goes_on.ensures;
}

pub returns-in-Err : goal.returns-in-Err
returns-in-Err g c = record {
  bytes = c.answer-answer.result.bytes;
  goes_on = c.answer-answer.result.goes_on;
  answers = c.answer-answer.ensures.answers;
  some = c.answer-answer.ensures.some;
  sends = c.in-Err.ensures;
  tells = tt;
}
