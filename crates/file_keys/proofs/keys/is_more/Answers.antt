use Rattle.std.proofs.Common.{ap, sym}
use Rattle.std.specs.Prelude.{nat_lt}
use Rattle.file_keys.proofs.Lists.{count_items}
use Rattle.file_keys.proofs.keys.is_more.Goals as goal

pub returns : goal.returns
returns c = ap (λ n. nat_lt c.args.most n) (sym (count_items c.args.entries.now))
