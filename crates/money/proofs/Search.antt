-- The search for a pair's entry, step by step. Assumes nothing.
use mathlib.Core.Path.{◌≡◌, ap, sym, ◌∙◌}
use mathlib.Core.Bool.{true, false}
use mathlib.Core.List.{List}
use Prim.Native.Nat.{ℕ, suc, ◌+◌, ◌-◌, ◌≤◌, ◌<◌}
use native.Mathlib.Numerals.{add-one}
use native.Mathlib.Omega.{arith}
use lib.ListN.{get_or}
use Rattle.money.specs.declared.Rate.{Rate}
use Rattle.money.specs.Money.{blank, is_for, rate_for}

-- past the last entry nothing is found
pub ended : (entries : List Rate) (from to i : ℕ) → 5 ≤ i → rate_for entries from to i (5 - i) ≡ blank
unfolding rate_for
ended entries from to i h = let none : 5 - i ≡ 0 = omega arith in rw none

module _ (entries : List Rate) (from to i : ℕ) (h : i < 5) where
  one_less : 5 - i ≡ suc (5 - (i + 1))
  one_less = omega arith

  pub found : is_for (get_or entries i blank) from to ≡ true → rate_for entries from to i (5 - i) ≡ get_or entries i blank
  unfolding rate_for
  found e = rw (one_less, e)

  pub passed : is_for (get_or entries i blank) from to ≡ false
      → rate_for entries from to i (5 - i) ≡ rate_for entries from to (i + 1) (5 - (i + 1))
  unfolding rate_for
  passed e = ap (rate_for entries from to i) one_less ∙ rw e (ap (λ (k : ℕ). rate_for entries from to k (5 - (i + 1))) (sym (add-one i)))
