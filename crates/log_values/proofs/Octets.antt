-- One byte of a number, and two. Assumes nothing.
use mathlib.Core.Path.{◌≡◌, refl}
use mathlib.Core.List.{[], ◌∷◌}
use Prim.Native.Nat.{ℕ, ◌/◌, ◌%◌}
use Rattle.log_bytes.specs.LogBytes.{octets}

pub one-octet : (n : ℕ) → octets 1 n ≡ n % 256 ∷ []
unfolding octets
one-octet n = refl

pub two-octets : (n : ℕ) → octets 2 n ≡ n / 256 % 256 ∷ n % 256 ∷ []
unfolding octets
two-octets n = refl
