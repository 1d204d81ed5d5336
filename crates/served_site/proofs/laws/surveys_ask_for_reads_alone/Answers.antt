use Rattle.served_site.proofs.ReadsAlone.{surveys_ask_for_reads_alone}
use Rattle.served_site.proofs.laws.surveys_ask_for_reads_alone.Goals as goal

pub returns : goal.returns
returns c = surveys_ask_for_reads_alone
