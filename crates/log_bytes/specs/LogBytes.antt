-- The bytes of numbers and dates in a log record.
use Rattle.std.specs.Prelude.{ℕ, zero, suc, ◌/◌, ◌%◌, Bool, cond, List, [], ◌∷◌, ◌++◌}
use Rattle.wire.specs.Wire.{byte}

-- the last bytes of a number, so many
unfoldable pub octets : (count n : ℕ) → List ℕ
octets zero n = []
octets (suc count) n = octets count (n / 256) ++ (n % 256) ∷ []

-- the date of First's data (3, behind the terminal type), zeros in a paper without dates
abbrev pub date_bytes : (first : List ℕ) (dated : Bool) → List ℕ
date_bytes first dated = cond dated (byte first 12 ∷ byte first 13 ∷ byte first 14 ∷ []) (0 ∷ 0 ∷ 0 ∷ [])
