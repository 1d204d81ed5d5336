use Rattle.point_types.proofs.NameLemmas.{long_is_none}
use Rattle.point_types.proofs.name.Name.from_bytes.Goals as goal

pub returns-then-text-gt-NAME_CAPACITY : goal.returns-then-text-gt-NAME_CAPACITY
returns-then-text-gt-NAME_CAPACITY c = long_is_none c.args.text.now c.if-text-gt-NAME_CAPACITY.true
