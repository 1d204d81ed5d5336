use Rattle.std.proofs.Common.{◌≡◌, [], drop, map, take}
use Rattle.scan_code.specs.Image.{are_new, names_of, tag_name}
use Rattle.scan_code.proofs.image_names.have_tags_names.Given as goal

-- those that remain decide
abbrev pub invariant-loop-i : goal.invariant-loop-i
invariant-loop-i l = are_new (names_of l.vars (take l.i l.tags)) (map tag_name (drop l.i l.tags)) ≡ are_new (names_of l.vars []) (names_of [] l.tags)
