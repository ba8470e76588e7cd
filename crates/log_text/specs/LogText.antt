-- The text of a log (document 02, Eight): the lines of its records behind the lines of a paper, record 1, the newest, first.
use Rattle.std.specs.Prelude.{ℕ, zero, suc, ◌+◌, cond, List, [], ◌∷◌, ◌++◌, length, None, Option, Some}
use Rattle.std.proofs.lemmas.List.Edits.{sets}
use Rattle.text.specs.Text.{fits, joined}
use Rattle.ring.specs.Ring.{count_in, found}
use Rattle.log_fields.specs.declared.Form.{Form}
use Rattle.log_lines.specs.LogLines.{log_line}
use Rattle.paper_log.specs.declared.Log.{Log}
use Rattle.paper_log.specs.Log.{tail_at}
use Rattle.ring.specs.declared.Record.{Record}

-- record k's line
abbrev pub found_line : (paper tail : List ℕ) → Form → (k : ℕ) → Option Record → List ℕ
found_line paper tail form k (Some kept) = log_line k paper tail form kept
found_line paper tail form k None = []

-- the lines of records 1 to n
unfoldable pub lines_up_to : (paper tail : List ℕ) → Form → (ring : List ℕ) (size n : ℕ) → List (List ℕ)
lines_up_to paper tail form ring size zero = []
lines_up_to paper tail form ring size (suc n) =
    lines_up_to paper tail form ring size n ++ found_line paper tail form (n + 1) (found ring size (n + 1)) ∷ []

-- THE LINES of all records of the ring
unfoldable pub log_lines : Log → (paper ring : List ℕ) → List (List ℕ)
log_lines log paper ring =
    let size = log.logging.size in
    lines_up_to paper (tail_at paper log.start log.end) log.form ring size (count_in ring size)

abbrev pub log_text : Log → (paper ring : List ℕ) → List ℕ
log_text log paper ring = joined (log_lines log paper ring)

-- the most bytes that it has: 20 of the longest lines
abbrev pub longest : ℕ
longest = 245740

-- the text stands in the room from a place on, and all else stays; where the longest would not fit all stays
unfoldable pub placed : (room : List ℕ) (at : ℕ) (text : List ℕ) → List ℕ
placed room at text = cond (fits (length room) at longest) (sets room at text) room

-- the place behind it, or the same place
unfoldable pub place_behind : (bytes at : ℕ) (text : List ℕ) → ℕ
place_behind bytes at text = cond (fits bytes at longest) (at + length text) at
