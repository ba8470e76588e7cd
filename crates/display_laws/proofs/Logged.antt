-- A whole paper with its log: the entries and then the log's lines; without the rooms it is the paper's text. Assumes nothing.
use mathlib.Core.Path.{◌≡◌, ap}
use mathlib.Core.List.{List, ◌++◌}
use Prim.Native.Nat.{ℕ}
use Rattle.record_lines.specs.declared.Showing.TheVariants.{Lines, Rooms}
use Rattle.transcript.specs.Transcript.{transcript_of}
use Rattle.paper_text.specs.PaperText.{log_behind, text_of}
use Rattle.display_laws.specs.Display.{display_of, shown_of}
use Rattle.display_laws.proofs.Whole.{steps_show, steps_print}

module _ (words rooms paper : List ℕ) where
  abbrev log : List ℕ
  log = log_behind paper (transcript_of words paper)

  pub shown-whole : shown_of Rooms words rooms paper ≡ display_of words rooms paper ++ log
  unfolding shown_of
  shown-whole = ap (λ (text : List ℕ). text ++ log) (steps_show words rooms paper)

  -- WITHOUT THE ROOMS it is what a sitting prints, byte for byte
  pub shown_prints : shown_of Lines words rooms paper ≡ text_of words paper
  unfolding shown_of text_of
  shown_prints = ap (λ (text : List ℕ). text ++ log) (steps_print words rooms paper)
