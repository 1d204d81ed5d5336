use Rattle.std.proofs.Common.{◌≡◌, [], drop, map, take}
use Rattle.scan_code.specs.Image.{are_new, names_of, var_name}
use Rattle.scan_code.proofs.image_names.have_variables_names.Given as goal

-- those that remain decide
abbrev pub invariant-loop-i : goal.invariant-loop-i
invariant-loop-i l = are_new (names_of (take l.i l.vars) []) (map var_name (drop l.i l.vars)) ≡ are_new [] (names_of l.vars [])
