use Rattle.model_defs.proofs.Trees.{groups_told}
use Rattle.serde_json.specs.View.{view}
use Rattle.model_defs.proofs.reader.has_groups.Goals as goal

pub returns-in-Some-as_array : goal.returns-in-Some-as_array
returns-in-Some-as_array c =
    groups_told (view c.args.group.now) (view c.in-Some.groups.now) c.in-Some-as_array.list.now.items c.is_empty.result c.in-Some.ensures c.in-Some-as_array.ensures
    (rw c.as_slice.ensures.value at c.is_empty.ensures)
