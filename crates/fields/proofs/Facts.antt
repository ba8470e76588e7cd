-- A block's place fits. Assumes nothing.
use Prim.Native.Nat.{ℕ, ◌*◌, ◌≤◌, ◌<◌}
use native.Mathlib.Nat.{mul-le-mul}
use native.Mathlib.Omega.{arith}

pub product : (a b : ℕ) → a < 256 → b < 256 → a * b ≤ 65025
product a b ha hb = mul-le-mul {n₁ = a} {m₁ = b} {n₂ = 255} {m₂ = 255} (omega arith) (omega arith)
