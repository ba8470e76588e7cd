-- The eight bytes of a number, each at its place. Assumes nothing.
use mathlib.Core.Path.{◌≡◌}
use mathlib.Core.List.{[], ◌∷◌}
use Prim.Native.Nat.{ℕ, ◌/◌, ◌%◌}
use native.Mathlib.Nat.{div-div-eq-div-mul}
use Rattle.import.specs.Import.{bytes_of}

pub eight : (n : ℕ)
    → bytes_of n 8
    ≡ n / 72057594037927936 % 256 ∷ n / 281474976710656 % 256 ∷ n / 1099511627776 % 256 ∷ n / 4294967296 % 256 ∷ n / 16777216 % 256
    ∷ n / 65536 % 256
    ∷ n / 256 % 256
    ∷ n % 256
    ∷ []
unfolding bytes_of
eight n =
    rw (
      div-div-eq-div-mul n 256 256,
      div-div-eq-div-mul n 65536 256,
      div-div-eq-div-mul n 16777216 256,
      div-div-eq-div-mul n 4294967296 256,
      div-div-eq-div-mul n 1099511627776 256,
      div-div-eq-div-mul n 281474976710656 256,
    )
