-- A number that the crate `numerals` puts is the numeral. Assumes nothing.
use Rattle.std.proofs.Common.{◌≡◌, refl, ap, List, [], ◌∷◌, ◌++◌, ℕ, zero, suc, ◌+◌, ◌/◌, ◌%◌, ◌≤◌, ltb, cond, length}
use Rattle.text.specs.Stored.{Stored}
use Rattle.numerals.specs.Numeral.{longest, number_placed, number_behind}
use Rattle.numerals.specs.Numeral.{digits_of as digits_there, numeral as numeral_there}
use Rattle.numerals.proofs.Numerals.{fitted}
use Rattle.imports.specs.Imports.{digits_of, numeral}

same_digits : (most n : ℕ) → digits_there most n ≡ digits_of most n
unfolding digits_there digits_of
same_digits zero n = refl
same_digits (suc most) n = ap (λ (s : List ℕ). cond (ltb n 10) [] s ++ (48 + n % 10) ∷ []) (same_digits most (n / 10))

pub same : (n : ℕ) → numeral_there n ≡ numeral n
unfolding numeral_there
same n = same_digits longest n

-- the digits that were put
pub spelt : (n : ℕ) {room after : List ℕ} {at end : ℕ} → at + 20 ≤ length room → end ≡ number_behind (length room) at n
    → after ≡ number_placed room at n → Stored room at (numeral n) 20 end after
spelt n {room} {after} {at} {end} h e p = rw (← same n) (fitted room at n h e p).0
