-- When a profile guards an accumulator, a counter or a cyclic accumulator (demand 3): read in the set-up's bytes.
use Rattle.std.specs.Prelude.{◌≡◌, true, ℕ, ◌+◌, ◌^◌}
use Rattle.demands.specs.Setup.{Setup, number_at}
use Rattle.purchase.specs.Meter.{Meter, accumulator, counter, cyclic}
use Rattle.demands.specs.Audit.{is_on, is_active, is_included}

-- house order: 10 to 13 the accumulators' upper limits, 18 to 21 the counters', 22 and 23 the cyclic accumulators' limits
abbrev pub upper_bit : Meter → ℕ
upper_bit (accumulator i) = 10 + i
upper_bit (counter i) = 18 + i
upper_bit (cyclic i) = 22 + i

-- active, the present purchase counted in the test, and the upper limit's bit in Decline and in Default (behind the number and Online)
pub record Guards (setup : Setup) (profile : ℕ) (meter : Meter) : Type 0 where
  pub active : is_active setup profile meter ≡ true
  pub included : is_included setup profile meter ≡ true
  pub decline : is_on (number_at setup (profile + 5) 4) (2 ^ upper_bit meter) ≡ true
  pub default : is_on (number_at setup (profile + 9) 4) (2 ^ upper_bit meter) ≡ true
