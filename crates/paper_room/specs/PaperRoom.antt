-- The room that a paper of so many bytes is asked: 8 bytes for each of its bytes, and one line more.
use Rattle.std.specs.Prelude.{Bool, ℕ, ◌+◌, ◌*◌, leb}

-- the bytes of the longest line; that they are: `line-more` of `transcript`
abbrev pub line_more : ℕ
line_more = 82

abbrev pub room_for : (bytes : ℕ) → ℕ
room_for bytes = 8 * bytes + line_more

abbrev pub has_room : (room at bytes : ℕ) → Bool
has_room room at bytes = leb (at + room_for bytes) room
