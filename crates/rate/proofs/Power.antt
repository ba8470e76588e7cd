-- Powers of ten. Assumes nothing.
use Prim.Native.Nat.{ℕ, ◌^◌, ◌≤◌, ◌<◌}
use native.Mathlib.Nat.{pow-le-pow_right}
use native.Mathlib.Omega.{arith}
use lib.Dec.{lit<}

pub ten_le : (i j : ℕ) → i ≤ j → 10 ^ i ≤ 10 ^ j
ten_le i j h = pow-le-pow_right {n = 10} (lit< tt) {i = i} {j = j} h

pub ten_pos : (i : ℕ) → 0 < 10 ^ i
ten_pos i = ten_le 0 i (omega arith)
