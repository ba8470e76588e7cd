-- Conversations worked out: of which transactions a ring shows which. Of a wrong journal the statements are then shown to be false. Assumes nothing.
use mathlib.Core.Bool.{Bool, true, false, ◌&&◌}
use mathlib.Core.List.{List, [], ◌∷◌, ◌++◌}
use Prim.Native.Nat.{ℕ, zero, suc, ◌+◌, ◌*◌}
use lib.Dec.{T, eqb}
use lib.ListN.{length}
use Rattle.wire.specs.Wire.{number}
use Rattle.refusal.specs.declared.Refusal.TheVariants.{OutOfTurn}
use Rattle.state.specs.declared.Kind.{Kind}
use Rattle.state.specs.declared.Kind.TheVariants.{Aac, Tc, Arqc}
use Rattle.state.specs.declared.Answer.{Answer}
use Rattle.state.specs.declared.Answer.TheVariants.{Refused, Started, Given, Done}
use Rattle.ring.specs.Ring.{no_records, record_in, record_put, added_in, added, count_in, found}
use Rattle.journal.specs.declared.Logging.{Logging}
use Rattle.journal.specs.declared.Heard.{Heard}
use Rattle.journal.specs.declared.Heard.TheVariants.{First, Second, Other}
use Rattle.journal.specs.Journal.{is_logging, closed_by, noted, watched}
use Rattle.journal.specs.Logged.{Seen, cvr_number, cryptogram, ring_through}
use Rattle.std.specs.Prelude.{None, Option, Some}
use Rattle.ring.specs.declared.Record.{Record}

-- profiles 1 and 2, of which the first logs
abbrev set_up_lem : (size switches : ℕ) → Logging
set_up_lem size switches =
    record { size = size; switches = switches; numbers = 1 ∷ 2 ∷ 0 ∷ 0 ∷ []; logs = true ∷ false ∷ false ∷ false ∷ [] }

-- an answer under a profile whose CVR has this first byte
abbrev given : Kind → (atc cvr profile : ℕ) → Answer
given kind atc cvr profile =
    Given kind atc
    (record {
      accumulator = record { 0 = 0 };
      key = 1;
      cvr = record { byte1 = cvr; byte2 = 0x30; byte3 = 0x20; byte4 = 1; byte5 = 0 };
      first = 0;
      second = 0;
      profile = profile;
    })

abbrev start : (at atc : ℕ) → Seen
start at atc = record { said = Other; at = at; answer = Started atc 0 }

abbrev script : (at : ℕ) → Seen
script at = record { said = Other; at = at; answer = Done }

abbrev first : (at : ℕ) → Kind → (atc cvr : ℕ) → Seen
first at kind atc cvr = record { said = First; at = at; answer = given kind atc cvr 1 }

abbrev second : (at code : ℕ) → Kind → (atc cvr : ℕ) → Seen
second at code kind atc cvr = record { said = Second code; at = at; answer = given kind atc cvr 1 }

abbrev refused : Heard → (at : ℕ) → Seen
refused said at = record { said = said; at = at; answer = Refused OutOfTurn }

-- each record, the newest first: First's place, Second's, the CVR, ATC, CID
abbrev cells : Option Record → List ℕ
cells None = []
cells (Some r) = r.first ∷ r.second ∷ r.cvr ∷ r.atc ∷ r.cid ∷ []

abbrev shown_from : (ring : List ℕ) (size k n : ℕ) → List (List ℕ)
shown_from ring size k zero = []
shown_from ring size k (suc n) = cells (found ring size (k + 1)) ∷ shown_from ring size (k + 1) n

unfoldable pub same : (a b : List ℕ) → Bool
same [] [] = true
same [] (y ∷ b) = false
same (x ∷ a) [] = false
same (x ∷ a) (y ∷ b) = eqb x y && same a b

unfoldable pub alike : (a b : List (List ℕ)) → Bool
alike [] [] = true
alike [] (y ∷ b) = false
alike (x ∷ a) [] = false
alike (x ∷ a) (y ∷ b) = same x y && alike a b

-- these are the first records of the log after a conversation, told from its beginning; where one is empty there is none
abbrev shows : Logging → List Seen → List (List ℕ) → Bool
shows logging seen records = alike (shown_from (ring_through logging no_records seen) logging.size 0 (length records)) records

-- the CVR with a first byte
abbrev cvr : ℕ → ℕ
cvr byte1 = byte1 * 4294967296 + 0x30200100

-- sitting E, with the places of its bodies in the paper; and sitting F
abbrev said_e : List Seen
said_e =
    start 189 1 ∷ first 193 Tc 1 0x90 ∷ start 208 2 ∷ first 212 Arqc 2 0xA0 ∷ second 227 0x5933 Tc 2 0x62 ∷ start 238 3 ∷ first 242 Aac 3 0x82
    ∷ refused (Second 0x5933) 257
    ∷ []

abbrev said_f : List Seen
said_f =
    start 180 1 ∷ first 184 Tc 1 0x90 ∷ start 199 2 ∷ first 203 Arqc 2 0xA0 ∷ second 218 0x3030 Tc 2 0x60 ∷ start 229 3 ∷ first 233 Arqc 3 0xA0
    ∷ second 248 0x5A33 Tc 3 0x62
    ∷ start 259 4
    ∷ first 263 Aac 4 0x82
    ∷ []

-- a Second after an ARQC at 30
abbrev closing : (at code : ℕ) → Kind → (cvr : ℕ) → List Seen
closing at code kind cvr = first 30 Arqc 1 0xA0 ∷ second at code kind 1 cvr ∷ []

abbrev refused-between : List Seen
refused-between = first 30 Arqc 1 0xA0 ∷ refused First 50 ∷ second 70 0x5933 Tc 1 0x62 ∷ []

abbrev dropped_before : List Seen
dropped_before = first 30 Arqc 1 0xA0 ∷ start 45 2 ∷ first 50 Arqc 2 0xA0 ∷ second 70 0x5933 Tc 2 0x62 ∷ []

abbrev unclosed : List Seen
unclosed = start 20 1 ∷ first 30 Arqc 1 0xA0 ∷ script 45 ∷ refused (Second 0x3030) 60 ∷ refused First 80 ∷ start 95 2 ∷ []

abbrev declines : List Seen
declines = closing 50 0x3030 Aac 0x20 ++ first 70 Aac 2 0x82 ∷ []

abbrev others : List Seen
others = record { said = First; at = 30; answer = given Tc 1 0x90 2 } ∷ record { said = First; at = 50; answer = given Tc 2 0x90 3 } ∷ []

pub record Samples : Type 0 where
  -- of three the newest two; approvals, offline ones only
  pub sitting_e : T (shows (set_up_lem 2 0xDC) said_e ((242 ∷ 0 ∷ cvr 0x82 ∷ 3 ∷ 0x00 ∷ []) ∷ (212 ∷ 227 ∷ cvr 0x62 ∷ 2 ∷ 0x40 ∷ []) ∷ [] ∷ []))
  pub sitting_f : T (shows (set_up_lem 20 0x78) said_f ((233 ∷ 248 ∷ cvr 0x62 ∷ 3 ∷ 0x40 ∷ []) ∷ (184 ∷ 0 ∷ cvr 0x90 ∷ 1 ∷ 0x40 ∷ []) ∷ [] ∷ []))
  -- a refused First is not the one that Second closes, a dropped one neither
  pub refused-first : T (shows (set_up_lem 1 0xE0) refused-between ((30 ∷ 70 ∷ cvr 0x62 ∷ 1 ∷ 0x40 ∷ []) ∷ []))
  pub dropped_first : T (shows (set_up_lem 1 0xE0) dropped_before ((50 ∷ 70 ∷ cvr 0x62 ∷ 2 ∷ 0x40 ∷ []) ∷ []))
  -- an ARQC, a refusal, a Start and a script leave no record
  pub no_record : T (shows (set_up_lem 2 0xC0) unclosed ([] ∷ []))
  -- "offline only" stops online approvals, and neither declines nor Y3, Z3 and First
  pub online-stopped : T (shows (set_up_lem 1 0x60) (closing 50 0x3030 Tc 0x60) ([] ∷ []))
  pub online-logged : T (shows (set_up_lem 1 0x40) (closing 50 0x3030 Tc 0x60) ((30 ∷ 50 ∷ cvr 0x60 ∷ 1 ∷ 0x40 ∷ []) ∷ []))
  pub y3_stays : T (shows (set_up_lem 1 0x60) (closing 50 0x5933 Tc 0x62) ((30 ∷ 50 ∷ cvr 0x62 ∷ 1 ∷ 0x40 ∷ []) ∷ []))
  pub z3_stays : T (shows (set_up_lem 1 0x60) (closing 50 0x5A33 Tc 0x62) ((30 ∷ 50 ∷ cvr 0x62 ∷ 1 ∷ 0x40 ∷ []) ∷ []))
  pub declines_stay : T (shows (set_up_lem 2 0xA0) declines ((70 ∷ 0 ∷ cvr 0x82 ∷ 2 ∷ 0x00 ∷ []) ∷ (30 ∷ 50 ∷ cvr 0x20 ∷ 1 ∷ 0x00 ∷ []) ∷ []))
  -- each switch by itself: declines without "declined", approvals without "approved"
  pub approvals_only : T (shows (set_up_lem 2 0x5C) (first 30 Aac 1 0x80 ∷ first 50 Tc 2 0x90 ∷ []) ((50 ∷ 0 ∷ cvr 0x90 ∷ 2 ∷ 0x40 ∷ []) ∷ [] ∷ []))
  pub declines-only : T (shows (set_up_lem 2 0x9C) (first 30 Aac 1 0x80 ∷ first 50 Tc 2 0x90 ∷ []) ((30 ∷ 0 ∷ cvr 0x80 ∷ 1 ∷ 0x00 ∷ []) ∷ [] ∷ []))
  -- profile 2 does not log, nor does one that the set-up lacks
  pub other-profile : T (shows (set_up_lem 2 0xC0) others ([] ∷ []))
  pub no_slot : T (shows (set_up_lem 0 0xC0) (first 30 Tc 1 0x90 ∷ []) ([] ∷ []))

pub samples : Samples
unfolding same alike number cvr_number cryptogram is_logging closed_by noted watched ring_through record_in record_put added_in added count_in found
samples =
    record {
      sitting_e = tt;
      sitting_f = tt;
      refused-first = tt;
      dropped_first = tt;
      no_record = tt;
      online-stopped = tt;
      online-logged = tt;
      y3_stays = tt;
      z3_stays = tt;
      declines_stay = tt;
      approvals_only = tt;
      declines-only = tt;
      other-profile = tt;
      no_slot = tt;
    }
