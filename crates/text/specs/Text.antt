-- A text put into a room from a place on.
use Rattle.std.specs.Prelude.{ℕ, ◌+◌, Bool, cond, List, [], ◌∷◌, ◌++◌, leb, length}
use Rattle.std.proofs.lemmas.List.Edits.{sets}

-- the room has so many bytes from the place on
abbrev pub fits : (room at bytes : ℕ) → Bool
fits room at bytes = leb (at + bytes) room

-- the text stands there, and all else stays; where there is no room for all of it all stays
unfoldable pub placed : (room : List ℕ) (at : ℕ) (text : List ℕ) → List ℕ
placed room at text = cond (fits (length room) at (length text)) (sets room at text) room

-- the place behind it
unfoldable pub place_behind : (room at : ℕ) (text : List ℕ) → ℕ
place_behind room at text = cond (fits room at (length text)) (at + length text) at

-- fields with one space between them, and a line feed at the end
abbrev pub line : List ℕ → List (List ℕ) → List ℕ
line field [] = field ++ 10 ∷ []
line field (next ∷ more) = field ++ 32 ∷ [] ++ line next more

-- lines, one behind the other
unfoldable pub joined : (lines : List (List ℕ)) → List ℕ
joined [] = []
joined (line ∷ more) = line ++ joined more
