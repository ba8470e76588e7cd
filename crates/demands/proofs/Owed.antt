-- One entry at a time, each sum stopped at the cap, comes to the whole sum, stopped. Assumes nothing.
use mathlib.Core.Path.{◌≡◌, refl}
use mathlib.Core.Bool.{Bool, true, false, cond}
use mathlib.Core.List.{List, [], ◌∷◌, ◌++◌}
use Prim.Native.Nat.{ℕ, ◌+◌, ◌≤◌}
use native.Mathlib.Omega.{arith}
use borrow.Author.Tests.{ltb-true, ltb-false}
use lib.Dec.{ltb}
use Rattle.meters.specs.Meters.{Entry, put, add, moved}
use Rattle.demands.specs.Ledger.{owed}

-- what one step enters: at most one entry, and nothing is put above the cap
pub data Fair (cap : ℕ) : List Entry → Type 0 where
  nothing : Fair cap []
  putting : {n : ℕ} → n ≤ cap → Fair cap (put n ∷ [])
  adding : {n : ℕ} → Fair cap (add n ∷ [])

pub fair_or : {cap : ℕ} (b : Bool) {x y : List Entry} → Fair cap x → Fair cap y → Fair cap (cond b x y)
fair_or true p q = p
fair_or false p q = q

pub starts : (cap start : ℕ) → start ≤ cap → start ≡ owed cap start []
unfolding owed
starts cap start h = omega arith

module _ (cap start : ℕ) (older : List Entry) where
  pub grows : {new : List Entry} → Fair cap new → moved cap (owed cap start older) new ≡ owed cap start (new ++ older)
  unfolding owed
  grows nothing = refl
  grows (putting h) = omega arith
  grows (adding {n}) = by (ltb cap (owed cap start older + n)) refl where
    by : (b : Bool) → ltb cap (owed cap start older + n) ≡ b → cond b cap (owed cap start older + n) ≡ owed cap start (add n ∷ older)
    by true e = let h = ltb-true cap (owed cap start older + n) e in omega arith
    by false e = let h = ltb-false cap (owed cap start older + n) e in omega arith
