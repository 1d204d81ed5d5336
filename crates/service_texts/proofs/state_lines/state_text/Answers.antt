use Rattle.service_texts.proofs.StateLines.{said_step, written_more}
use Rattle.service_texts.proofs.state_lines.state_text.Goals as goal

pub loop-tag-preserved : goal.loop-tag-preserved
loop-tag-preserved c =
    let tags = c.in-Some.ensures.cases.0 in
    let numbers = c.in-Some-split_first.ensures.cases.0 in
    record {
      written = written_more _ _ _ _ _ _ _ c.in-Some.tag.now c.in-Some-split_first.number.now tags numbers c.in_ok-push_tag.ensures.line c.loop-tag.invariant.written;
      said = said_step _ _ _ _ _ c.in-Some.tag.now c.in-Some-split_first.number.now tags numbers c.in_ok-push_tag.ensures.fit c.loop-tag.invariant.said;
    }
