use Rattle.std.proofs.Common.{◌^◌, ◌≤◌, ◌<◌, arith, lit<}
use Rattle.std.proofs.Math.Nat.{pow-le-pow_right, one-le-pow}
use Rattle.std.proofs.lemmas.Int.{ints}
use Rattle.point_types.proofs.form.numbers_held.Goals as goal

pub pow-requires : goal.pow-requires
pow-requires c =
    let p : 65536 ^ c.args.size ≤ 65536 ^ 4 = pow-le-pow_right {n = 65536} (lit< tt) {i = c.args.size} {j = 4} c.requires in
    record { sfits = omega arith }

pub returns-clause-positive : goal.returns-clause-positive
returns-clause-positive c = let p : 0 < 65536 ^ c.args.size = one-le-pow c.args.size 65536 (lit< tt) in omega (arith, ints)

pub returns-clause-bound : goal.returns-clause-bound
returns-clause-bound c =
    let p : 65536 ^ c.args.size ≤ 65536 ^ 4 = pow-le-pow_right {n = 65536} (lit< tt) {i = c.args.size} {j = 4} c.requires in
    omega (arith, ints)
