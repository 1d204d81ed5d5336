-- Powers of ten.
use Rattle.std.proofs.Common.{ℕ, ◌^◌, ◌<◌, ◌≤◌, lit<}
use Rattle.std.proofs.Math.Nat.{one-le-pow, pow-le-pow_right}

pub ten_pos : (k : ℕ) → 0 < 10 ^ k
ten_pos k = one-le-pow k 10 (lit< tt)

pub ten_le : (k : ℕ) → k ≤ 20 → 10 ^ k ≤ 100000000000000000000
ten_le k h = pow-le-pow_right {n = 10} (lit< tt) {i = k} {j = 20} h
