use Rattle.std.proofs.Common.{◌≡◌, [], ◌++◌, drop, length}
use Rattle.serde_json.specs.View.{items_view}
use Rattle.model_defs.specs.Definition.{broken_among, descriptions_of}
use Rattle.model_defs.specs.Descriptions.{descriptions_view}
use Rattle.model_defs.specs.Parts.{before}
use Rattle.model_defs.proofs.Refused.{AreSeen}
use Rattle.model_defs.proofs.reader.read_points.Given as goal

-- what remains to be read after the points so far, which break no rule
abbrev pub invariant-loop-tree : goal.invariant-loop-tree
invariant-loop-tree l =
    (broken_among [] (items_view l.trees.items) ≡ broken_among (descriptions_view l.points.entries) (items_view (drop l.tree-index l.trees.items)))
    × (descriptions_of (items_view l.trees.items) ≡ descriptions_view l.points.entries ++ descriptions_of (items_view (drop l.tree-index l.trees.items)))
    × AreSeen (descriptions_view l.points.entries) (before l.tree-index (items_view l.trees.items))
    × (length l.points.entries ≡ l.tree-index)
