-- `apart-lines`, computed for pairs of papers that are the same but for what accumulator 1 starts from: the premise's clauses are needed. Assumes
-- nothing.
use mathlib.Core.Bool.{Bool, true, false, not, ◌&&◌}
use mathlib.Core.List.{List, [], ◌∷◌, ◌++◌}
use Prim.Native.Nat.{ℕ, ◌+◌}
use lib.Dec.{T, eqb}
use lib.ListN.{length, get_or, replicate}
use Rattle.wire.specs.Wire.{byte, number}
use Rattle.rules.specs.Rules.{blank_words}
use Rattle.block.specs.Block.{slot_of, is_slot_sound}
use Rattle.slot.specs.Slot.{tests_slot, lacks_amount, slot_value, slot_passes}
use Rattle.entry.specs.Entry.{action_of, slot_action, action_taken}
use Rattle.selection.specs.Selection.{entries_of, follow, select_from, selection_of}
use Rattle.choice.specs.Choice.{slots_of}
use Rattle.command.specs.Command.{start_selected, selecting_of}
use Rattle.marks.specs.Marks.{heard as heard_again}
use Rattle.closing.specs.Closing.{closed, ordered}
use Rattle.second.specs.Second.{unable_performed, verified_performed, second_performed}
use Rattle.card.specs.Card.{second_step}
use Rattle.lines.specs.Sitting.{sitting_lines}
use Rattle.spelling.specs.Spelling.{big, record_of, unsaid, on, unshown, names, brings, first, second, script, kind_of, body_of, spell, paper_of}
use Rattle.spelling.proofs.Computed.{answered, heard}

abbrev pub zeros : ℕ → List ℕ
zeros n = replicate n 0

-- ---- set-ups: accumulator 1 in 0978, from a byte; profile 1 declines at its limits, 5 and 9, and has its switches and the accumulator sent

abbrev pub base : (start switches sent : ℕ) → List ℕ
base start switches sent =
    1 ∷ 3 ∷ 0 ∷ 1 ∷ zeros 4 ++ 0x09 ∷ 0x78 ∷ zeros 7 ++ start ∷ zeros 34
    ++ 1 ∷ zeros 6 ++ 0x04 ∷ 0x40 ∷ zeros 15 ++ switches ∷ zeros 7 ++ 5 ∷ zeros 7 ++ 9 ∷ zeros 63 ++ sent ∷ 0 ∷ 0 ∷ []

-- version 05, a CPACE card: one entry asks whether accumulator 1 is greater than 5, and leads to profile 1 or to profile 2, which is not there
abbrev testing : List ℕ
testing = 1 ∷ 1 ∷ 0x0C ∷ 0 ∷ 6 ∷ 1 ∷ zeros 5 ++ 0x05 ∷ 0xD1 ∷ 1 ∷ 2 ∷ 0 ∷ 0 ∷ 1 ∷ zeros 9

-- ---- records

abbrev pub sale : (type : ℕ) → List ℕ
sale type = spell (names unsaid 1) ++ spell (first type 1 0x0978 0x22 unshown)

-- a script that puts accumulator 1 to 5, its MAC taken as verified
abbrev pub putting : List ℕ
putting =
    let list : List ℕ = 0x81 ∷ 0x09 ∷ 0xDF ∷ 0x01 ∷ 0x06 ∷ 0 ∷ 0 ∷ 0 ∷ 0 ∷ 0 ∷ 5 ∷ [] in
    spell (script 1 (0x71 ∷ 0x18 ∷ 0x86 ∷ 0x16 ∷ 0x0C ∷ 0xDA ∷ 0xBF ∷ 0x30 ∷ 0x11 ∷ list ++ 0x8E ∷ 0x04 ∷ 0x11 ∷ 0x22 ∷ 0x33 ∷ 0x44 ∷ []))

-- approved, declined, online and reset by the issuer, online and unable; and one out of turn
abbrev day : List ℕ
day =
    sale 1 ++ sale 0 ++ sale 2 ++ spell (second 1 0x3030 1 0x820000) ++ sale 2 ++ spell (second 1 0x5933 0 0) ++ spell (first 1 1 0x0978 0x22 unshown)

-- ---- pairs of papers

abbrev same : List ℕ → List ℕ → Bool
same [] [] = true
same [] (n ∷ more) = false
same (m ∷ more) [] = false
same (m ∷ more) (n ∷ others) = eqb m n && same more others

abbrev alike : List (List ℕ) → List (List ℕ) → Bool
alike [] [] = true
alike [] (n ∷ more) = false
alike (m ∷ more) [] = false
alike (m ∷ more) (n ∷ others) = same m n && alike more others

abbrev lines_from : (start version switches sent : ℕ) (tails records : List ℕ) → List (List ℕ)
lines_from start version switches sent tails records = sitting_lines blank_words (paper_of version (base start switches sent ++ tails) records)

-- from 3 and from 8, by version, switches, what is sent, the tails and the records
unfoldable pub pair : (version switches sent : ℕ) (tails records : List ℕ) → Bool
pair version switches sent tails records =
    alike (lines_from 3 version switches sent tails records) (lines_from 8 version switches sent tails records)

-- two bytes of a line
abbrev pub reads : List (List ℕ) → (line at one two : ℕ) → Bool
reads lines line at one two = eqb (byte (get_or lines line []) at) one && eqb (byte (get_or lines line []) (at + 1)) two

-- the day's CIDs, 40, 00, 80, 40, 80 and 40, and refusal 2 at its end; the script's line, of a script that is done
unfoldable pub is_day : List (List ℕ) → Bool
is_day lines =
    eqb (length lines) 12 && reads lines 2 4 0x34 0x30 && reads lines 4 4 0x30 0x30 && reads lines 6 4 0x38 0x30 && reads lines 7 4 0x34 0x30
    && reads lines 9 4 0x38 0x30
    && reads lines 10 5 0x34 0x30
    && reads lines 11 3 0x32 0x0A

unfoldable pub is_scripted : List (List ℕ) → Bool
is_scripted lines = eqb (length lines) 6 && reads lines 3 2 0x30 0x0A && reads lines 5 4 0x34 0x30

pub record Samples : Type 0 where
  -- inactive and not sent: the same lines, also where a script puts it, which brings both cards to the same value
  pub off : T (pair 1 0 0 [] (sale 1))
  pub whole-day : T (pair 1 6 0 [] day)
  pub is-day : T (is_day (lines_from 3 1 6 0 [] day))
  pub script_puts : T (pair 6 6 0 (zeros 4 ++ 1 ∷ []) (sale 1 ++ putting ++ sale 1))
  pub is-scripted : T (is_scripted (lines_from 3 6 6 0 (zeros 4 ++ 1 ∷ []) (sale 1 ++ putting ++ sale 1)))
  -- EACH CLAUSE IS NEEDED: sent, active, or tested by the entry that chose the profile, two starts give two lines
  pub sent_shows : T (not (pair 1 6 1 [] (sale 1)))
  pub active_shows : T (not (pair 1 1 0 [] (sale 1)))
  pub tested_shows : T (not (pair 5 0 0 testing (spell (brings (on 0) (0x22 ∷ [])))))

pub samples : Samples
unfolding pair is_day is_scripted kind_of body_of record_of big number second_step second_performed unable_performed verified_performed closed ordered
    heard_again start_selected selecting_of selection_of select_from entries_of follow action_taken action_of slots_of tests_slot slot_action is_slot_sound slot_of
    lacks_amount slot_passes slot_value answered heard
samples = record { off = tt; whole-day = tt; is-day = tt; script_puts = tt; is-scripted = tt; sent_shows = tt; active_shows = tt; tested_shows = tt }
