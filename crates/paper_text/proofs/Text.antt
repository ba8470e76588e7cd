-- The lines stand in the room, and the log's text behind them. Assumes nothing.
use mathlib.Core.Path.{◌≡◌, refl, ap, subst, ◌∙◌}
use mathlib.Core.Bool.{Bool, true, false, cond}
use mathlib.Core.List.{List, ◌++◌, append_assoc}
use Prim.Native.Nat.{ℕ, ◌+◌, ◌-◌, ◌≤◌, ◌<◌}
use native.Mathlib.Omega.{arith}
use borrow.Author.Tests.{leb-true, le-leb}
use lib.Dec.{ltb}
use lib.ListN.{length, take, drop, length-append}
use lib.Seq.{sets, length-sets, sets-eq, length-take-le, take_at, drop_at}
use Rattle.wire.specs.Wire.{byte}
use Rattle.rules.specs.Rules.{blank_words}
use Rattle.paper_log.specs.Log.{tail_at}
use Rattle.transcript.specs.Transcript.{transcript_of, room_for, has_room, transcribed, room_after, words_after}
use Rattle.text.proofs.Laws.{sets_on}
use Rattle.transcript.proofs.Long.{long}
use Rattle.conversation.specs.Events.{words_left}
use Rattle.log_text.specs.LogText.{longest, placed, place_behind}
use Rattle.paper_text.specs.PaperText.{log_behind, text_of, room_for_text, has_text_room, parts_put, text_put, room_put, PartsIn, log_put, room_logged, Stands}
use Rattle.std.specs.Prelude.{None, Option, Some}
use Rattle.paper_text.specs.declared.Parts.{Parts}

-- a text that was put is found again
found_again : (room text : List ℕ) (at : ℕ) → at + length text ≤ length room → tail_at (sets room at text) at (at + length text) ≡ text
found_again room text at fits =
    let end = at + length text in
    let front = take at room in
    let back = drop end room in
    let size : end - at ≡ length text = omega arith in
    let parts = sets-eq text room at fits ∙ append_assoc front text back in
    let from_at = ap (drop at) parts ∙ drop_at front (text ++ back) at (length-take-le at room (omega arith)) in
    rw (length-sets room at text, le-leb at end (omega arith), le-leb end (length room) fits)
    (ap (take (end - at)) from_at ∙ ap (λ (n : ℕ). take n (text ++ back)) size ∙ take_at text back (length text) refl)

pub lines_length : (words paper room : List ℕ) (at : ℕ) → length (room_after words paper room at) ≡ length room
unfolding room_after
lines_length words paper room at = by (has_room (length room) at (length paper)) where
  by : (b : Bool) → length (cond b (sets room at (transcript_of words paper)) room) ≡ length room
  by true = length-sets room at (transcript_of words paper)
  by false = refl

module _ (words paper room : List ℕ) (at : ℕ) (fits : has_text_room (length room) at (length paper) ≡ true) where
  abbrev lines : List ℕ
  lines = transcript_of words paper

  room_for_lem : has_room (length room) at (length paper) ≡ true
  room_for_lem = le-leb (at + room_for (length paper)) (length room) (omega (arith, leb-true (at + room_for_text (length paper)) (length room) fits))

  -- the lines are put
  pub lines-put : (transcribed words paper room at ≡ Some (at + length lines)) × (room_after words paper room at ≡ sets room at lines)
      × (words_after words paper room at ≡ words_left words paper)
  unfolding transcribed room_after words_after
  lines-put = (rw room_for_lem, rw room_for_lem, rw room_for_lem)

  -- and the log's text behind them
  pub log-put : {between after : List ℕ} {end r : ℕ} → end ≡ at + length lines → between ≡ sets room at lines
      → r ≡ place_behind (length between) end (log_behind paper (tail_at between at end))
      → after ≡ placed between end (log_behind paper (tail_at between at end)) → r ≤ end + longest
      → (r ≡ at + length (text_of words paper)) × (after ≡ sets room at (text_of words paper)) × (r < at + room_for_text (length paper))
  unfolding text_of placed place_behind
  log-put {between} {after} {end} {r} ends there behind put most =
      let asked = leb-true (at + room_for_text (length paper)) (length room) fits in
      let short = long words paper in
      let log = log_behind paper lines in
      let size = length-append lines log in
      let still : length between ≡ length room = ap length there ∙ length-sets room at lines in
      let again : tail_at between at end ≡ lines = rw (there, ends) (found_again room lines at (omega (arith, asked, short))) in
      let room-behind = le-leb (end + longest) (length between) (omega (arith, asked, short, still, ends)) in
      let place : r ≡ end + length log = behind ∙ rw (room-behind, again) in
      let text : after ≡ sets between end log = put ∙ rw (room-behind, again) in
      (omega (arith, place, ends, size), text ∙ rw (there, ends) (sets_on room lines log at), omega (arith, most, ends, short))

-- ---- the text is its two parts

abbrev pub whole : Option Parts → Option ℕ
whole (Some parts) = Some parts.end
whole None = None

pub text_of_parts : (words paper room : List ℕ) (at : ℕ) → text_put words paper room at ≡ whole (parts_put words paper (length room) at)
unfolding text_put parts_put
text_of_parts words paper room at = by (has_text_room (length room) at (length paper)) where
  lines : ℕ
  lines = at + length (transcript_of words paper)

  end : ℕ
  end = at + length (text_of words paper)

  by : (b : Bool) → cond b (Some end) None ≡ whole (cond b (Some (record { lines = lines; end = end })) None)
  by true = refl
  by false = refl

-- the log's text stands behind the lines
pub stands : (words paper room : List ℕ) → PartsIn 0 (length paper) (parts_put words paper (length room) 0)
    → Stands (room_put words paper room 0) (log_behind paper (transcript_of words paper)) (parts_put words paper (length room) 0)
unfolding Stands parts_put room_put text_of
stands words paper room = by (has_text_room (length room) 0 (length paper)) refl where
  lines : List ℕ
  lines = transcript_of words paper

  log : List ℕ
  log = log_behind paper lines

  by : (b : Bool) → has_text_room (length room) 0 (length paper) ≡ b
      → PartsIn 0 (length paper) (cond b (Some (record { lines = 0 + length lines; end = 0 + length (lines ++ log) })) None)
      → Stands (cond b (sets room 0 (lines ++ log)) room) log (cond b (Some (record { lines = 0 + length lines; end = 0 + length (lines ++ log) })) None)
  by true e in-it =
      let asked = leb-true (0 + room_for_text (length paper)) (length room) e in
      let size = length-append lines log in
      let still = length-sets room 0 (lines ++ log) in
      let first = length-sets room 0 lines in
      let seam : 0 + length (lines ++ log) ≡ 0 + length lines + length log = omega arith in
      let apart : tail_at (sets (sets room 0 lines) (0 + length lines) log) (0 + length lines) (0 + length lines + length log) ≡ log =
      found_again (sets room 0 lines) log (0 + length lines) (omega arith) in
      (rw (seam, ← sets_on room lines log 0) apart, omega arith, omega arith)
  by false e in-it = tt

-- ---- for its log alone

-- below version 07 there is none
pub none-stands : (paper room text : List ℕ) → ltb (byte paper 0) 7 ≡ true
    → ((Some (record { lines = 0; end = 0 })) ≡ log_put paper (length room)) × (room ≡ room_logged paper room) × Stands room (log_behind paper text) (Some (record { lines = 0; end = 0 }))
unfolding Stands log_put room_logged log_behind
none-stands paper room text low =
    let inside = le-leb 0 (length room) (omega arith) in
    (rw low, rw low, (rw (low, inside), omega arith, omega arith))

pub some-stands : (paper room : List ℕ) {words after : List ℕ} {parts : Option Parts} → ltb (byte paper 0) 7 ≡ false → words ≡ blank_words
    → parts ≡ parts_put words paper (length room) 0 → after ≡ room_put words paper room 0 → PartsIn 0 (length paper) parts
    → (parts ≡ log_put paper (length room)) × (after ≡ room_logged paper room) × Stands after (log_behind paper (transcript_of blank_words paper)) parts
unfolding log_put room_logged
some-stands paper room high blank put there in-it =
    let parts_are = rw blank at put in
    let room_is = rw blank at there in
    (rw high parts_are, rw high room_is, rw (parts_are, room_is) (stands blank_words paper room (subst (PartsIn 0 (length paper)) parts_are in-it)))

-- what stands in the room is a part of it
pub within : (room text : List ℕ) (parts : Option Parts) (start end : ℕ) → Stands room text parts → parts ≡ Some (record { lines = start; end = end }) → (start ≤ end) × (end ≤ length room)
unfolding Stands
within room text parts start end there e = let put = subst (Stands room text) e there in (put.1, put.2)
