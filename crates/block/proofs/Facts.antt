-- The numbers that check types name: accumulators to 3, counters to 4. Assumes nothing.
use mathlib.Core.Path.{◌≡◌}
use mathlib.Core.Bool.{Bool, true, false, cond}
use Prim.Native.Nat.{ℕ, ◌/◌, ◌%◌, ◌≤◌}
use native.Mathlib.Omega.{arith}
use lib.Dec.{eqb}
use Rattle.block.specs.Block.{slot_of, number_of}
use Rattle.block.specs.declared.Slot.TheVariants.{Accumulator, Counter}

by_bits : (s t : Bool) (x : ℕ) → x ≤ 4 → number_of (cond s (Accumulator x) (Counter (cond t 4 x))) ≤ 4
by_bits true t x h = h
by_bits false true x h = omega arith
by_bits false false x h = h

pub to-four : (check : ℕ) → number_of (slot_of check) ≤ 4
unfolding slot_of
to-four check = by_bits (eqb (check / 64 % 2) 1) (eqb (check / 16 % 4) 0) (check / 16 % 4) (omega arith)

by_kind : (s : Bool) (m k x : ℕ) → m ≤ 3 → cond s (Accumulator m) (Counter k) ≡ Accumulator x → x ≤ 3
by_kind true m k x h e = let z : m ≡ x = cc in omega arith
by_kind false m k x h e = let z : ◌≡◌ {A = ℕ} 0 1 = cc in omega arith

pub to-three : (check x : ℕ) → slot_of check ≡ Accumulator x → x ≤ 3
unfolding slot_of
to-three check x e = by_kind (eqb (check / 64 % 2) 1) (check / 16 % 4) (cond (eqb (check / 16 % 4) 0) 4 (check / 16 % 4)) x (omega arith) e
