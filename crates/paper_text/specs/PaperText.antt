-- The text of a whole paper (document 01, "A sitting in full"; document 02, Eight): its lines, and behind them those of its log.
use Rattle.std.specs.Prelude.{ℕ, ◌+◌, ◌≤◌, ◌<◌, ◌≡◌, cond, List, ◌++◌, ltb, length, None, Option, Some}
use Rattle.std.proofs.lemmas.List.Edits.{sets}
use Rattle.wire.specs.Wire.{byte}
use Rattle.rules.specs.Rules.{blank_words}
use Rattle.conversation.specs.Events.{words_left}
use Rattle.transcript.specs.Transcript.{transcript_of}
use Rattle.paper_log.specs.Log.{tail_at}
unfoldable pub use Rattle.log_behind.specs.LogBehind.{log_behind}
pub use Rattle.log_behind.specs.LogBehind.{room_for_text, has_text_room}
use Rattle.paper_text.specs.declared.Parts.{Parts}

-- THE TEXT of a paper, with the words that it was lent
unfoldable pub text_of : (words paper : List ℕ) → List ℕ
text_of words paper = let lines = transcript_of words paper in lines ++ log_behind paper lines

-- where the lines end and where the log does, or that there is no room
unfoldable pub parts_put : (words paper : List ℕ) (room at : ℕ) → Option Parts
parts_put words paper room at =
    cond (has_text_room room at (length paper)) (Some (record { lines = at + length (transcript_of words paper); end = at + length (text_of words paper) })) None

-- where the text ends, or that there is no room
unfoldable pub text_put : (words paper room : List ℕ) (at : ℕ) → Option ℕ
text_put words paper room at = cond (has_text_room (length room) at (length paper)) (Some (at + length (text_of words paper))) None

-- the room holds the text from the place on, and all else stays; where there is no room all stays, and so do the words
unfoldable pub room_put : (words paper room : List ℕ) (at : ℕ) → List ℕ
room_put words paper room at = cond (has_text_room (length room) at (length paper)) (sets room at (text_of words paper)) room

unfoldable pub words_put : (words paper room : List ℕ) (at : ℕ) → List ℕ
words_put words paper room at = cond (has_text_room (length room) at (length paper)) (words_left words paper) words

-- it ends in the room that it was asked, with a byte to spare
abbrev pub EndsIn : (at bytes : ℕ) → Option ℕ → Type 0
EndsIn at bytes (Some end) = end < at + room_for_text bytes
EndsIn at bytes None = Unit

abbrev pub PartsIn : (at bytes : ℕ) → Option Parts → Type 0
PartsIn at bytes (Some parts) = parts.end < at + room_for_text bytes
PartsIn at bytes None = Unit

-- FOR ITS LOG ALONE a paper is answered into the room, from its first byte on; below version 07 nothing is done
unfoldable pub log_put : (paper : List ℕ) (room : ℕ) → Option Parts
log_put paper room = cond (ltb (byte paper 0) 7) (Some (record { lines = 0; end = 0 })) (parts_put blank_words paper room 0)

unfoldable pub room_logged : (paper room : List ℕ) → List ℕ
room_logged paper room = cond (ltb (byte paper 0) 7) room (room_put blank_words paper room 0)

-- a text stands in the room behind the lines
unfoldable pub Stands : (room text : List ℕ) → Option Parts → Type 0
Stands room text (Some parts) = (tail_at room parts.lines parts.end ≡ text) × (parts.lines ≤ parts.end) × (parts.end ≤ length room)
Stands room text None = Unit
