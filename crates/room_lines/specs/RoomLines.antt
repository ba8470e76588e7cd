-- The lines of the rooms left (request Seven): one for each profile in the set-up's order, and the room that they are placed in.
use Rattle.std.specs.Prelude.{cond, List, [], ◌∷◌, ◌++◌, ℕ, ◌+◌, eqb, leb, length, get_or}
use Rattle.std.proofs.lemmas.List.Edits.{sets}
use Rattle.rules.specs.declared.Place.{Place}
use Rattle.rules.specs.declared.Place.TheVariants.{One, Two, Three, Four}
use Rattle.rules.specs.Rules.{Rules, four, profile_at}
use Rattle.rooms.specs.Rooms.{stored_at}
use Rattle.text.specs.Text.{line}
use Rattle.numerals.specs.Numeral.{numeral}

-- "room"
abbrev pub word : List ℕ
word = 114 ∷ 111 ∷ 111 ∷ 109 ∷ []

-- the word, the profile's number, its four rooms
unfoldable pub room_line : (number : ℕ) (rooms : List ℕ) → List ℕ
room_line number rooms = line word (numeral number ∷ four (λ i. numeral (get_or rooms i 0)))

-- its first two fields, a space behind each
abbrev pub heading : (number : ℕ) → List ℕ
heading number = (word ++ 32 ∷ []) ++ (numeral number ++ 32 ∷ [])

-- as they are stored for the profile at a place; no profile has number 0
unfoldable pub place_line : Rules → (rooms : List ℕ) → Place → List ℕ
place_line rules rooms place =
    cond (eqb (profile_at rules place).number 0) [] (room_line (profile_at rules place).number (stored_at rooms place))

unfoldable pub room_lines : Rules → (rooms : List ℕ) → List ℕ
room_lines rules rooms = place_line rules rooms One ++ place_line rules rooms Two ++ place_line rules rooms Three ++ place_line rules rooms Four

-- the most bytes that they have, 93 for each of four profiles: 4 + 1 + 3 + 1 + 20 + 1 + 20 + 1 + 20 + 1 + 20 + 1
abbrev pub longest : ℕ
longest = 372

-- the room after them: from the place on it holds them, and all else stays; where the longest would not fit all stays
unfoldable pub placed : (room : List ℕ) (at : ℕ) (text : List ℕ) → List ℕ
placed room at text = cond (leb (at + longest) (length room)) (sets room at text) room

-- the place behind them in a room of some bytes, or the same place
unfoldable pub place_behind : (bytes at : ℕ) (text : List ℕ) → ℕ
place_behind bytes at text = cond (leb (at + longest) bytes) (at + length text) at
