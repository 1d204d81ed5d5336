use Rattle.run_report.proofs.Unmarked.{texts_have_no_marks}
use Rattle.run_report.proofs.html.texts_have_no_marks.Goals as goal

pub returns : goal.returns
returns c = texts_have_no_marks
