-- Which bit patterns are not-a-number. Assumes nothing.
use mathlib.Core.Path.{◌≡◌, refl, sym, ◌∙◌}
use mathlib.Core.Bool.{true, false, false≢true}
use Prim.Native.Nat.{ℕ, ◌%◌, ◌≤◌, ◌<◌}
use lib.Ieee.{Float, nan, inf, fin, binary64, of_bits, is_nan, nan_bits}
use lib.Ieee.Bits.{nan_bits_is, nan_bits_above}
use borrow.Author.Tests.{lt-ltb, le-ltb}

is_nan_lem : (x : Float) → is_nan x ≡ true → x ≡ nan
unfolding is_nan
is_nan_lem nan h = refl
is_nan_lem (inf s) h = absurd (false≢true h)
is_nan_lem (fin s m e) h = absurd (false≢true h)

-- above the infinities' pattern, the sign apart
pub above_nan : (bits : ℕ) → 9218868437227405312 < bits % 9223372036854775808 → of_bits binary64 bits ≡ nan
above_nan bits h = is_nan_lem (of_bits binary64 bits) (sym (nan_bits_is binary64 bits) ∙ nan_bits_above binary64 bits ∙ lt-ltb _ _ h)

pub below_nan : (bits : ℕ) → bits % 9223372036854775808 ≤ 9218868437227405312 → nan_bits binary64 bits ≡ false
below_nan bits h = nan_bits_above binary64 bits ∙ le-ltb _ _ h
