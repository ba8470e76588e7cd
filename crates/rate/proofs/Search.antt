-- Laws of `first`: the turns of a loop that searches up to a number `end`, and what it finds. Assumes nothing.
use mathlib.Core.Path.{◌≡◌, refl, sym, ap, ◌∙◌}
use mathlib.Core.Bool.{Bool, true, false}
use Prim.Native.Nat.{ℕ, zero, suc, ◌+◌, ◌-◌, ◌≤◌, ◌<◌}
use native.Mathlib.Nat.{eq-or-lt_of_le}
use native.Mathlib.Numerals.{add-one}
use native.Mathlib.Omega.{arith}
use mathlib.Core.Logic.{inl, inr}
use Rattle.rate.specs.Rate.{first}

module _ (test : ℕ → Bool) where
  step : (n at : ℕ) → test at ≡ false → first test (suc n) at ≡ first test n (suc at)
  unfolding first
  step n at e = simp e

  hit : (n at : ℕ) → test at ≡ true → first test (suc n) at ≡ at
  unfolding first
  hit n at e = simp e

  pub passed : (end at : ℕ) → at < end → test at ≡ false → first test (end - at) at ≡ first test (end - (at + 1)) (at + 1)
  passed end at h e =
      let here : end - at ≡ suc (end - suc at) = omega arith in
      rw (add-one at, here) (step (end - suc at) at e)

  pub found : (end at : ℕ) → at < end → test at ≡ true → first test (end - at) at ≡ at
  found end at h e =
      let here : end - at ≡ suc (end - suc at) = omega arith in
      rw here (hit (end - suc at) at e)

  pub ended : (end at : ℕ) → end ≤ at → first test (end - at) at ≡ at
  unfolding first
  ended end at h = let none : end - at ≡ 0 = omega arith in rw none

  -- `k` is the first of n numbers from `at` on that passes, or the number behind them
  pub record First (n at k : ℕ) : Type 0 where
    pub low : at ≤ k
    pub high : k ≤ at + n
    pub missed : (j : ℕ) → at ≤ j → j < k → test j ≡ false
    pub passes : k < at + n → test k ≡ true

  by : (n at : ℕ) → First n (suc at) (first test n (suc at)) → (b : Bool) → test at ≡ b → First (suc n) at (first test (suc n) at)
  by n at rest true e =
      rw (hit n at e)
      (record { low = omega arith; high = omega arith; missed = λ j l u. absurd (omega arith); passes = λ u. e })
  by n at rest false e =
      let low = rest.low in
      let high = rest.high in
      rw (step n at e)
      (record {
        low = omega arith;
        high = omega arith;
        missed = λ j l u. elim (eq-or-lt_of_le l) [ inl same ↦ ap test (sym same) ∙ e | inr m ↦ rest.missed j m u ];
        passes = λ u. rest.passes (omega arith);
      })

  pub is-first : (n at : ℕ) → First n at (first test n at)
  unfolding first
  is-first zero at = record { low = omega arith; high = omega arith; missed = λ j l u. absurd (omega arith); passes = λ u. absurd (omega arith) }
  is-first (suc n) at = by n at (is-first n (suc at)) (test at) refl
