-- A paper shown record by record, in lent room: what a step leaves where the longest text fits, and that otherwise all stays and room is wanted.
use Rattle.std.specs.Prelude.{cond, List, ℕ, ◌+◌, length}
use Rattle.std.proofs.lemmas.List.Edits.{sets}
use Rattle.rules.specs.Rules.{Rules, rules_of}
use Rattle.script.specs.Script.{rules_after, words_after}
use Rattle.records.specs.declared.Taken.{Taken}
use Rattle.conversation.specs.Conversation.{taken_of, taken_writes}
use Rattle.opening.specs.Opening.{begun_of, words_begun}
use Rattle.keeper.specs.Keeper.{rooms_taken, rooms_begun}
use Rattle.record_lines.specs.declared.Showing.{Showing}
use Rattle.record_lines.specs.RecordLines.{set_up_text, record_text, has_room}
use Rattle.shown.specs.declared.Wants.TheVariants.{Room}
use Rattle.shown.specs.declared.Shown.{Shown}
use Rattle.shown.specs.Shown.{wants_after, unshown, shown_behind}

-- THE SET-UP: its text, and where the paper then is
unfoldable pub begun_text : Showing → (words rooms paper : List ℕ) → List ℕ
begun_text showing words rooms paper = set_up_text showing (rules_of (words_begun words paper)) (rooms_begun words rooms paper) (begun_of paper).event

unfoldable pub begun_shown : (paper : List ℕ) (end : ℕ) → Shown
begun_shown paper end =
    let begun = begun_of paper in
    record { shape = begun.shape; state = begun.state; at = begun.at; number = 1; end = end; wants = wants_after begun.event }

unfoldable pub set_up_shown : Showing → (words rooms paper : List ℕ) (bytes to : ℕ) → Shown
set_up_shown showing words rooms paper bytes to =
    cond (has_room bytes to) (begun_shown paper (to + length (begun_text showing words rooms paper))) (unshown to)

unfoldable pub set_up_words : (words paper : List ℕ) (bytes to : ℕ) → List ℕ
set_up_words words paper bytes to = cond (has_room bytes to) (words_begun words paper) words

unfoldable pub set_up_rooms : (words rooms paper : List ℕ) (bytes to : ℕ) → List ℕ
set_up_rooms words rooms paper bytes to = cond (has_room bytes to) (rooms_begun words rooms paper) rooms

unfoldable pub set_up_room : Showing → (words rooms paper room : List ℕ) (to : ℕ) → List ℕ
set_up_room showing words rooms paper room to =
    cond (has_room (length room) to) (sets room to (begun_text showing words rooms paper)) room

-- THE NEXT RECORD: what it comes to, the rules and the cells that it leaves, its text, and where the paper then is
module _ (rules : Rules) (shown : Shown) (paper : List ℕ) where
  abbrev pub taken_next : Taken
  taken_next = taken_of rules shown.shape shown.state paper shown.at

  unfoldable pub next_rules : Rules
  next_rules = rules_after rules (taken_writes shown.shape shown.state paper shown.at)

  unfoldable pub next_rooms : (rooms : List ℕ) → List ℕ
  next_rooms rooms = rooms_taken rules shown.shape shown.state paper shown.at rooms

  unfoldable pub next_text : Showing → (rooms : List ℕ) → List ℕ
  next_text showing rooms = record_text showing next_rules (next_rooms rooms) shown.number taken_next.event

  unfoldable pub next_shown : (end : ℕ) → Shown
  next_shown end = shown_behind shown taken_next end

-- without room the paper is where it was
unfoldable pub still_shown : Shown → (to : ℕ) → Shown
still_shown shown to =
    record { shape = shown.shape; state = shown.state; at = shown.at; number = shown.number; end = to; wants = Room }

unfoldable pub record_shown : Showing → Rules → (rooms : List ℕ) → Shown → (paper : List ℕ) (bytes to : ℕ) → Shown
record_shown showing rules rooms shown paper bytes to =
    cond (has_room bytes to) (next_shown rules shown paper (to + length (next_text rules shown paper showing rooms))) (still_shown shown to)

unfoldable pub record_words : (words : List ℕ) → Shown → (paper : List ℕ) (bytes to : ℕ) → List ℕ
record_words words shown paper bytes to =
    cond (has_room bytes to) (words_after words (taken_writes shown.shape shown.state paper shown.at)) words

unfoldable pub record_rules : Rules → Shown → (paper : List ℕ) (bytes to : ℕ) → Rules
record_rules rules shown paper bytes to = cond (has_room bytes to) (next_rules rules shown paper) rules

unfoldable pub record_rooms : Rules → (rooms : List ℕ) → Shown → (paper : List ℕ) (bytes to : ℕ) → List ℕ
record_rooms rules rooms shown paper bytes to = cond (has_room bytes to) (next_rooms rules shown paper rooms) rooms

unfoldable pub record_room : Showing → Rules → (rooms : List ℕ) → Shown → (paper room : List ℕ) (to : ℕ) → List ℕ
record_room showing rules rooms shown paper room to =
    cond (has_room (length room) to) (sets room to (next_text rules shown paper showing rooms)) room
