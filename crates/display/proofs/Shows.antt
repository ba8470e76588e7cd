-- A step where there is room, and one where there is none. Assumes nothing.
use mathlib.Core.Path.{◌≡◌, refl, sym, ap, ◌∙◌}
use mathlib.Core.Bool.{true, false}
use mathlib.Core.List.{List}
use Prim.Native.Nat.{ℕ, ◌+◌}
use lib.ListN.{length}
use Rattle.rules.specs.Rules.{Rules, rules_of}
use Rattle.script.specs.Script.{rules_after, words_after}
use Rattle.begun.specs.declared.Begun.{Begun}
use Rattle.records.specs.declared.Taken.{Taken}
use Rattle.conversation.specs.Conversation.{taken_of, taken_writes}
use Rattle.opening.specs.Opening.{begun_of, words_begun}
use Rattle.keeper.specs.Keeper.{rooms_taken, rooms_begun}
use Rattle.record_lines.specs.declared.Showing.{Showing}
use Rattle.record_lines.specs.RecordLines.{has_room, set_up_text, record_text, placed, place_behind}
use Rattle.shown.specs.declared.Wants.{Wants}
use Rattle.shown.specs.declared.Shown.{Shown}
use Rattle.shown.specs.Shown.{wants_after, unshown, shown_behind}
use Rattle.display.specs.Shown.{begun_text, begun_shown, set_up_shown, set_up_words, set_up_rooms, set_up_room}
use Rattle.display.specs.Shown.{next_rules, next_rooms, next_text, next_shown, still_shown, record_shown, record_words, record_rules, record_rooms, record_room}

-- ---- the set-up

module _ (showing : Showing) (words rooms paper room : List ℕ) (to : ℕ) where
  abbrev SetUp : Shown → (words rooms room : List ℕ) → Type 0
  SetUp shown words' rooms' room' =
      (shown ≡ set_up_shown showing words rooms paper (length room) to) × (words' ≡ set_up_words words paper (length room) to)
      × (rooms' ≡ set_up_rooms words rooms paper (length room) to)
      × (room' ≡ set_up_room showing words rooms paper room to)

  pub no_set_up : {shown : Shown} → has_room (length room) to ≡ false → shown ≡ unshown to → SetUp shown words rooms room
  unfolding set_up_shown set_up_words set_up_rooms set_up_room
  no_set_up full e = (rw full e, rw full, rw full, rw full)

  pub set_up_lem : {begun : Begun} {words' rooms' room' : List ℕ} {end : ℕ} {wants : Wants} → has_room (length room) to ≡ true
      → begun ≡ begun_of paper → words' ≡ words_begun words paper → rooms' ≡ rooms_begun words rooms paper
      → end ≡ place_behind (length room) to (set_up_text showing (rules_of words') rooms' begun.event)
      → room' ≡ placed room to (set_up_text showing (rules_of words') rooms' begun.event)
      → wants ≡ wants_after begun.event
      → SetUp (record { shape = begun.shape; state = begun.state; at = begun.at; number = 1; end = end; wants = wants }) words' rooms' room'
  unfolding set_up_shown set_up_words set_up_rooms set_up_room begun_shown begun_text placed place_behind
  set_up_lem {begun} {words'} {rooms'} {room'} {end} {wants} fits b w r e p n =
      let text : set_up_text showing (rules_of words') rooms' begun.event ≡ begun_text showing words rooms paper = rw (w, r, b) in
      let ends : end ≡ to + length (begun_text showing words rooms paper) = rw (← text) (rw fits at e) in
      (rw (fits, n, ends, b), rw fits w, rw fits r, rw (fits, ← text) (rw fits at p))

-- ---- a record

module _ (showing : Showing) (words rooms : List ℕ) (shown : Shown) (paper room : List ℕ) (to : ℕ) where
  abbrev Recorded : Shown → (words rooms room : List ℕ) → Type 0
  Recorded shown' words' rooms' room' =
      (shown' ≡ record_shown showing (rules_of words) rooms shown paper (length room) to) × (words' ≡ record_words words shown paper (length room) to)
      × (rules_of words' ≡ record_rules (rules_of words) shown paper (length room) to)
      × (rooms' ≡ record_rooms (rules_of words) rooms shown paper (length room) to)
      × (room' ≡ record_room showing (rules_of words) rooms shown paper room to)

  pub no_record : {shown' : Shown} → has_room (length room) to ≡ false → shown' ≡ still_shown shown to → Recorded shown' words rooms room
  unfolding record_shown record_words record_rules record_rooms record_room
  no_record full e = (rw full e, rw full, rw full, rw full, rw full)

  pub recorded : {taken : Taken} {shown' : Shown} {words' rooms' room' : List ℕ} {end : ℕ} → has_room (length room) to ≡ true
      → taken ≡ taken_of (rules_of words) shown.shape shown.state paper shown.at
      → words' ≡ words_after words (taken_writes shown.shape shown.state paper shown.at)
      → rules_of words' ≡ rules_after (rules_of words) (taken_writes shown.shape shown.state paper shown.at)
      → rooms' ≡ rooms_taken (rules_of words) shown.shape shown.state paper shown.at rooms
      → end ≡ place_behind (length room) to (record_text showing (rules_of words') rooms' shown.number taken.event)
      → room' ≡ placed room to (record_text showing (rules_of words') rooms' shown.number taken.event)
      → shown' ≡ shown_behind shown taken end
      → Recorded shown' words' rooms' room'
  unfolding record_shown record_words record_rules record_rooms record_room next_shown next_text next_rules next_rooms placed place_behind
  recorded {taken} {shown'} {words'} {rooms'} {room'} {end} fits t w u r e p n =
      let text : record_text showing (rules_of words') rooms' shown.number taken.event ≡ next_text (rules_of words) shown paper showing rooms = rw (u, r, t) in
      let ends : end ≡ to + length (next_text (rules_of words) shown paper showing rooms) = rw (← text) (rw fits at e) in
      (rw (fits, n, ends, t), rw fits w, rw fits u, rw fits r, rw (fits, ← text) (rw fits at p))
