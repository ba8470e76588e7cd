-- What a word says of a part, put into lent room; or that it says nothing of the kind, and the room is left.
use Rattle.std.specs.Prelude.{◌≡◌, Bool, true, false, ◌&&◌, List, ℕ, ◌^◌, ltb, None, Option, Some}
use Rattle.words.specs.Words.{is_number, value}
use Rattle.words.specs.Put.{Put}
use Rattle.forms.specs.Form.{Part, says, bytes_in}

-- whether it is said, and the bytes
unfoldable pub Told : Bool → List ℕ → List ℕ → ℕ → Option ℕ → List ℕ → Type 0
Told is bytes room to (Some end) after = (is ≡ true) × Put room to bytes end after
Told is bytes room to None after = (is ≡ false) × (after ≡ room)

abbrev pub Says : Part → List ℕ → List ℕ → ℕ → Option ℕ → List ℕ → Type 0
Says part word room to said after = Told (says part word) (bytes_in part word) room to said after

-- a number that fits so many bytes, and 64 bits
unfoldable pub is_count : ℕ → List ℕ → Bool
is_count n word = is_number word && ltb (value word) (2 ^ 64) && ltb (value word) (256 ^ n)
