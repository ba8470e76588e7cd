-- The lines of a paper's log behind its own (document 02, Eight), and the room that both are asked.
use Rattle.std.specs.Prelude.{ℕ, ◌+◌, Bool, cond, List, [], leb, ltb}
use Rattle.wire.specs.Wire.{byte}
use Rattle.rules.specs.Rules.{rules_of, blank_words}
use Rattle.opening.specs.Opening.{begun_of, words_begun}
use Rattle.paper_room.specs.PaperRoom.{room_for}
use Rattle.log_text.specs.LogText.{longest}
use Rattle.log_book.specs.Logbook.{shaped_behind}

-- the text of a paper's log, behind the text of its lines; below version 07 there is none
unfoldable pub log_behind : (paper text : List ℕ) → List ℕ
log_behind paper text =
    let begun = begun_of paper in
    let rules = rules_of (words_begun blank_words paper) in
    cond (ltb (byte paper 0) 7) [] (shaped_behind rules begun.shape paper begun.at text)

-- the room that a paper of so many bytes is asked: that for its lines, and the longest log
abbrev pub room_for_text : (bytes : ℕ) → ℕ
room_for_text bytes = room_for bytes + longest

abbrev pub has_text_room : (room at bytes : ℕ) → Bool
has_text_room room at bytes = leb (at + room_for_text bytes) room
