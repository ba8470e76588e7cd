-- The log of a paper (document 02, Eight), from the paper's bytes and the lines that were printed of it.
use Rattle.std.specs.Prelude.{ℕ, ◌+◌, cond, List, [], ◌∷◌, eqb, ltb, length, drop, None, Option, Some}
use Rattle.ring.specs.Ring.{no_records}
use Rattle.journal.specs.declared.Logging.{Logging}
use Rattle.journal.specs.declared.Heard.{Heard}
use Rattle.journal.specs.Journal.{watched}
use Rattle.replies.specs.Replies.{behind, reply_in, is_ending}
use Rattle.rules.specs.Rules.{Rules}
use Rattle.paper.specs.Paper.{place_after}
use Rattle.shape.specs.declared.Shape.{Shape}
use Rattle.paper_log.specs.Log.{log_of, heard_in}
use Rattle.log_text.specs.LogText.{log_text}
use Rattle.journal.specs.declared.Cryptogram.{Cryptogram}

-- a text taken apart at its line feeds (10), which go
abbrev pub begun : ℕ → List (List ℕ) → List (List ℕ)
begun c [] = (c ∷ []) ∷ []
begun c (line ∷ more) = (c ∷ line) ∷ more

unfoldable pub lines_in : (text : List ℕ) → List (List ℕ)
lines_in [] = []
lines_in (c ∷ text) = cond (eqb c 10) ([] ∷ lines_in text) (begun c (lines_in text))

-- A LINE tells what was given to the record at a place, whose body lies behind its length (2) and its kind (1)
abbrev pub replied : Logging → Heard → (at : ℕ) → Option Cryptogram → (ring : List ℕ) → List ℕ
replied logging said at (Some given) ring = watched logging said at given ring
replied logging said at None ring = ring

unfoldable pub watched_line : Logging → (paper : List ℕ) (at : ℕ) (line ring : List ℕ) → List ℕ
watched_line logging paper at line ring = replied logging (heard_in (drop at paper)) (at + 3) (reply_in line) ring

-- THE RING after the lines of the records from a place on; a refusal that ends the paper leaves no log
unfoldable pub ring_by : Logging → (paper : List ℕ) (at : ℕ) → List (List ℕ) → (ring : List ℕ) → List ℕ
ring_by logging paper at [] ring = ring
ring_by logging paper at (line ∷ more) ring =
    cond (is_ending line) no_records (ring_by logging paper (place_after paper at) more (watched_line logging paper at line ring))

-- THE TEXT of the log of a paper of a shape, by the rules that its set-up gives, its records beginning at a place: the first of the paper's lines
-- is its set-up's, and each further one that of a record
unfoldable pub shaped_behind : Rules → Shape → (paper : List ℕ) (start : ℕ) (text : List ℕ) → List ℕ
shaped_behind rules shape paper start text =
    let log = log_of rules shape paper in
    cond (ltb (length paper) start) [] (log_text log paper (ring_by log.logging paper start (lines_in (behind 10 text)) no_records))
