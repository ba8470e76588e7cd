-- A profile logs as its own switch says, the numbers of the profiles being different. Assumes nothing.
use mathlib.Core.Path.{◌≡◌, refl}
use mathlib.Core.Bool.{Bool, true, false, ◌||◌}
use Prim.Native.Nat.{ℕ, zero, suc, ◌<◌}
use native.Mathlib.Omega.{arith}
use borrow.Author.Tests.{eq-eqb, ne_eqb}
use lib.ListN.{get_or}
use Rattle.journal.specs.declared.Logging.{Logging}
use Rattle.journal.specs.Journal.{is_logging}

or_none_lem : (b : Bool) → (b || false) ≡ b
or_none_lem true = refl
or_none_lem false = refl

module _ (logging : Logging) (profile : ℕ) where
  abbrev number_at : ℕ → ℕ
  number_at i = get_or logging.numbers i 0

  -- number i is the profile's, and no other is
  pub by-its-switch : (i : ℕ) → i < 4 → number_at i ≡ profile → ((j : ℕ) → j < 4 → (j ≡ i → ⊥) → number_at j ≡ profile → ⊥)
      → is_logging logging profile ≡ get_or logging.logs i false
  unfolding is_logging
  by-its-switch zero h is other =
      rw (
        eq-eqb (number_at 0) profile is,
        ne_eqb (number_at 1) profile (other 1 (omega arith) (λ e. omega arith)),
        ne_eqb (number_at 2) profile (other 2 (omega arith) (λ e. omega arith)),
        ne_eqb (number_at 3) profile (other 3 (omega arith) (λ e. omega arith)),
        or_none_lem,
        or_none_lem,
        or_none_lem,
      )
  by-its-switch (suc zero) h is other =
      rw (
        eq-eqb (number_at 1) profile is,
        ne_eqb (number_at 0) profile (other 0 (omega arith) (λ e. omega arith)),
        ne_eqb (number_at 2) profile (other 2 (omega arith) (λ e. omega arith)),
        ne_eqb (number_at 3) profile (other 3 (omega arith) (λ e. omega arith)),
        or_none_lem,
        or_none_lem,
      )
  by-its-switch (suc (suc zero)) h is other =
      rw (
        eq-eqb (number_at 2) profile is,
        ne_eqb (number_at 0) profile (other 0 (omega arith) (λ e. omega arith)),
        ne_eqb (number_at 1) profile (other 1 (omega arith) (λ e. omega arith)),
        ne_eqb (number_at 3) profile (other 3 (omega arith) (λ e. omega arith)),
        or_none_lem,
      )
  by-its-switch (suc (suc (suc zero))) h is other =
      rw (
        eq-eqb (number_at 3) profile is,
        ne_eqb (number_at 0) profile (other 0 (omega arith) (λ e. omega arith)),
        ne_eqb (number_at 1) profile (other 1 (omega arith) (λ e. omega arith)),
        ne_eqb (number_at 2) profile (other 2 (omega arith) (λ e. omega arith)),
      )
  by-its-switch (suc (suc (suc (suc i)))) h is other = absurd (omega arith)
