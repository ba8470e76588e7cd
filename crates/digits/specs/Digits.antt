-- Decimal digits, two to a byte.
use Rattle.std.specs.Prelude.{ℕ, zero, suc, ◌+◌, ◌*◌, Bool, true, ◌&&◌, List}
use Rattle.wire.specs.Wire.{byte, is_pair, pair_value}

-- n bytes from a place on hold digits only
unfoldable pub are_pairs : List ℕ → ℕ → ℕ → Bool
are_pairs s at zero = true
are_pairs s at (suc n) = are_pairs s at n && is_pair (byte s (at + n))

-- the amount that they write
unfoldable pub pairs_value : List ℕ → ℕ → ℕ → ℕ
pairs_value s at zero = 0
pairs_value s at (suc n) = pairs_value s at n * 100 + pair_value (byte s (at + n))
