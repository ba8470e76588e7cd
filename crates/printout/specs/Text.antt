-- A text as its reader takes it apart: line by line, each up to its line feed (0A), which belongs to it. It uses nothing of what prints.
use Rattle.std.specs.Prelude.{◌≡◌, cond, List, [], ◌∷◌, ℕ, ◌-◌, eqb, take, drop}
use Rattle.lines.specs.Lines.{refusal_line}
use Rattle.transcript.specs.Transcript.{transcript_of}
use Rattle.paper_text.specs.PaperText.{log_behind}
use Rattle.rows.specs.Whole.{IsInRange, IsPast}
use Rattle.spelling.specs.Faults.{OpenFault, Opens}
use Rattle.papers.specs.Papers.{Accepted}
use Rattle.papers.specs.Lines.{lines_by}

-- a byte in front of the first line
abbrev pub begun : ℕ → List (List ℕ) → List (List ℕ)
begun c [] = (c ∷ []) ∷ []
begun c (line ∷ more) = (c ∷ line) ∷ more

-- bytes behind the last line feed would be a line without one
unfoldable pub lines_read : (text : List ℕ) → List (List ℕ)
lines_read [] = []
lines_read (c ∷ text) = cond (eqb c 10) ((10 ∷ []) ∷ lines_read text) (begun c (lines_read text))

-- the lines of a paper's log, which stand behind its own
abbrev pub logged : (words paper : List ℕ) → List (List ℕ)
logged words paper = lines_read (log_behind paper (transcript_of words paper))

-- A PAPER AND ITS LINES: it does not open, 9; its set-up's fields are not all in their ranges, 1; only its log reaches past its data, 14; or it is
-- accepted, and they are those of its commands
pub data Printed (paper : List ℕ) (lines : List (List ℕ)) : Type 0 where
  unread : OpenFault paper → lines ≡ refusal_line 0 9 ∷ [] → Printed paper lines
  not_set_up : (version : ℕ) (body rest : List ℕ) → Opens paper version body rest → (IsInRange version body → ⊥) → lines ≡ refusal_line 0 1 ∷ []
      → Printed paper lines
  past_data : (version : ℕ) (body rest : List ℕ) → Opens paper version body rest → IsPast version body → lines ≡ refusal_line 0 14 ∷ []
      → Printed paper lines
  heard : Accepted paper → lines ≡ lines_by paper → Printed paper lines

-- A ROOM AFTER IT WAS WRITTEN INTO: between two places it holds these lines, and all else is as before
pub record Holds (before : List ℕ) (at end : ℕ) (lines : List (List ℕ)) (after : List ℕ) : Type 0 where
  pub there : lines_read (take (end - at) (drop at after)) ≡ lines
  pub in_front : take at after ≡ take at before
  pub behind : drop end after ≡ drop end before
