use Rattle.gateway.proofs.Unpaired.{all_written}
use Rattle.gateway.proofs.laws.sites_without_companions_write_in_order.Goals as goal

pub returns : goal.returns
returns c = all_written
