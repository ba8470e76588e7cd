-- The records of the printed sitting as a run: which transactions the ring then has, and where their bodies lie. Assumes nothing.
use mathlib.Core.Path.{◌≡◌, refl}
use mathlib.Core.Bool.{true, false}
use mathlib.Core.List.{List, [], ◌∷◌, ◌++◌}
use Prim.Native.Nat.{ℕ, zero, suc, ◌+◌}
use lib.ListN.{replicate, take}
use Rattle.wire.specs.Wire.{number}
use Rattle.paper.specs.Paper.{next_at}
use Rattle.paper.specs.Walk.{met_in}
use Rattle.ring.specs.Ring.{no_records, record_in, record_put, added_in, added, count_in, found}
use Rattle.journal.specs.declared.Logging.{Logging}
use Rattle.journal.specs.Journal.{is_logging, closed_by, noted, watched}
use Rattle.run_log.specs.RunLog.{given_by, watched_answer, ring_over, ring_run}
use Rattle.std.specs.Prelude.{None, Option, Some}
use Rattle.ring.specs.declared.Record.{Record}

-- declined and approved transactions of profile 1
abbrev logging : (size : ℕ) → Logging
logging size = record { size = size; switches = 0xDC; numbers = 1 ∷ 0 ∷ 0 ∷ 0 ∷ []; logs = true ∷ false ∷ false ∷ false ∷ [] }

-- a Start of profile 1, a First of an amount below 65,536, a Second after Y3
abbrev start : List ℕ
start = 0 ∷ 2 ∷ 2 ∷ 1 ∷ []

abbrev first : (high low : ℕ) → List ℕ
first high low = 0 ∷ 13 ∷ 3 ∷ 1 ∷ replicate 6 0 ++ high ∷ low ∷ 0x09 ∷ 0x78 ∷ 0x22 ∷ []

abbrev second : List ℕ
second = 0 ∷ 9 ∷ 4 ∷ 1 ∷ 0x59 ∷ 0x33 ∷ replicate 5 0

abbrev run : List ℕ
run = start ++ first 0x13 0x88 ++ start ++ first 0 1 ++ second ++ start ++ first 0x13 0x88 ++ second

-- their answers
abbrev started : (atc : ℕ) → List ℕ
started atc = 0 ∷ 0 ∷ 0 ∷ atc ∷ replicate 32 0

abbrev given : (cid atc a b c d : ℕ) → List ℕ
given cid atc a b c d =
    0 ∷ cid ∷ 0 ∷ atc ∷ 0x0F ∷ 0xA5 ∷ 1 ∷ a ∷ b ∷ c ∷ d ∷ 0 ∷ 0 ∷ 0 ∷ 0 ∷ 0 ∷ 0x50 ∷ 0 ∷ 1 ∷ 0 ∷ 0x0F ∷ 1 ∷ replicate 14 0

abbrev refused : List ℕ
refused = 2 ∷ replicate 35 0

abbrev answers : List ℕ
answers =
    started 1 ++ given 0x40 1 0x90 0x30 0 0 ++ started 2 ++ given 0x80 2 0xA0 0x30 0x20 0 ++ given 0x40 2 0x62 0x30 0x20 1
    ++ started 3 ++ given 0x00 3 0x82 0x31 0x30 0 ++ refused

-- each record, the newest first: First's place, Second's, the CVR, ATC, CID
abbrev cells : Option Record → List ℕ
cells None = []
cells (Some r) = r.first ∷ r.second ∷ r.cvr ∷ r.atc ∷ r.cid ∷ []

abbrev shown_from : (ring : List ℕ) (size k n : ℕ) → List (List ℕ)
shown_from ring size k zero = []
shown_from ring size k (suc n) = cells (found ring size k) ∷ shown_from ring size (k + 1) n

-- of a ring of a size, the run lying from a place on
abbrev shown : (size place : ℕ) (answers : List ℕ) → List (List ℕ)
shown size place given =
    let ring = ring_run (logging size) run place given no_records in
    shown_from ring size 1 (count_in ring size)

pub record Samples : Type 0 where
  -- as in the sitting with a log of two records, whose set-up ends at 186
  pub two : shown 2 186 answers ≡ (242 ∷ 0 ∷ 0x8231300000 ∷ 3 ∷ 0 ∷ []) ∷ (212 ∷ 227 ∷ 0x6230200100 ∷ 2 ∷ 0x40 ∷ []) ∷ []
  pub all : shown 20 0 answers
      ≡ (56 ∷ 0 ∷ 0x8231300000 ∷ 3 ∷ 0 ∷ []) ∷ (26 ∷ 41 ∷ 0x6230200100 ∷ 2 ∷ 0x40 ∷ []) ∷ (7 ∷ 0 ∷ 0x9030000000 ∷ 1 ∷ 0x40 ∷ []) ∷ []
  -- of the first four answers there is one to log, and of none there is none
  pub four : shown 2 186 (take 144 answers) ≡ (193 ∷ 0 ∷ 0x9030000000 ∷ 1 ∷ 0x40 ∷ []) ∷ []
  pub cut : shown 2 186 (take 143 answers) ≡ shown 2 186 (take 108 answers)
  pub none : shown 2 186 [] ≡ []

pub samples : Samples
unfolding ring_run ring_over watched_answer given_by watched noted closed_by is_logging added added_in record_put record_in found count_in met_in next_at number
samples = record { two = refl; all = refl; four = refl; cut = refl; none = refl }
