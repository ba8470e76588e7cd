-- THE TIE TO `sitting`: what is counted are the events whose lines it prints, whatever words are lent. Assumes nothing.
use mathlib.Core.Path.{◌≡◌, refl, sym, ap, ◌∙◌}
use mathlib.Core.List.{List}
use Prim.Native.Nat.{ℕ}
use lib.ListN.{length}
use Rattle.rules.specs.Word.{word_count}
use Rattle.rules.specs.Rules.{blank_words}
use Rattle.opening.specs.Opening.{begun_of}
use Rattle.conversation.specs.Events.{events_of}
use Rattle.lines.specs.Sitting.{lines_of, sitting_lines}
use Rattle.transcript.proofs.Steps.{Beginning, accepted, refused, begins}
use Rattle.spelling.specs.Spelling.{Bytes}
use Rattle.papers.proofs.Events.{events-are, accepted-exactly}
use Rattle.sales.specs.Sales.{no_sale, tallies_from}
use Rattle.class_sheet.specs.ClassSheet.{paper_tallies}

module _ (words paper : List ℕ) (lent : length words ≡ word_count) (bytes : Bytes paper) where
  pub same-events : events_of words paper ≡ events_of blank_words paper
  same-events = by (begins paper) where
    by : Beginning paper (begun_of paper) → events_of words paper ≡ events_of blank_words paper
    by (accepted e o) =
        let a = (accepted-exactly paper bytes).0 e in
        events-are words paper lent bytes a ∙ sym (events-are blank_words paper refl bytes a)
    by (refused refusal e) = unfold events_of in rw e

  -- both are of the same events
  pub counted_as_printed : (paper_tallies paper ≡ tallies_from no_sale (events_of words paper)) × (sitting_lines words paper ≡ lines_of 0 (events_of words paper))
  unfolding paper_tallies sitting_lines
  counted_as_printed = (ap (tallies_from no_sale) (sym same-events), refl)
