-- A paper's page is its own: it does not hang on the words that it is lent, and so not on the papers before it. Assumes nothing.
use mathlib.Core.Path.{◌≡◌, refl, sym, ap, ◌∙◌}
use mathlib.Core.Bool.{Bool, true, false, cond}
use mathlib.Core.List.{List, ◌++◌}
use Prim.Native.Nat.{ℕ, zero, suc}
use native.Mathlib.Omega.{arith}
use lib.ListN.{length}
use lib.Seq.{length-sets}
use Rattle.refusal.specs.declared.Refusal.{Refusal}
use Rattle.refusal.specs.declared.Refusal.TheVariants.{BadSetup, PastData}
use Rattle.rules.specs.Word.{word_count}
use Rattle.rules.specs.Rules.{rules_of}
use Rattle.load.specs.Load.{stored, loaded}
use Rattle.load_parts.proofs.Sizes.{loaded-size}
use Rattle.load_parts.proofs.Stores.{all}
use Rattle.setup.specs.Setup.{is_accepted, words_after}
use Rattle.setup.proofs.Faithful.{untouched}
use Rattle.shape.specs.declared.Shape.{Shape}
use Rattle.shape.specs.Shape.{base_part, tail_part, family_part, shape_of, shape_at}
use Rattle.paper.specs.Paper.{open_paper}
use Rattle.paper.specs.Walk.{part}
use Rattle.state.specs.declared.State.{State}
use Rattle.script.specs.Script as script
use Rattle.records.specs.declared.Event.{Event}
use Rattle.records.specs.declared.Event.TheVariants.{SetUp, End, Refused, Answered}
use Rattle.begun.specs.declared.Begun.{Begun}
use Rattle.begun.specs.Begun.{set_up_event, base_begun, past_begun}
use Rattle.opening.specs.Opening.{log_judged, logged_begun, logged_words, shaped_begun, setup_begun, opened_begun, begun_of}
use Rattle.opening.specs.Opening.{shaped_words, setup_words, opened_words, words_begun}
use Rattle.conversation.specs.Conversation.{taken_of, taken_writes}
use Rattle.conversation.specs.Events.{ending, words_from, words_left}
use Rattle.lines.specs.Lines.{refusal_line}
use Rattle.transcript.specs.Transcript.{transcript_of, rest_of}
use Rattle.paper_text.specs.PaperText.{text_of}
use Rattle.transcript.proofs.Steps.{Beginning, accepted, refused, begins, set_up_lem, not_set_up}
use Rattle.pages.specs.Stack.{paper_of, behind, pages_in, stack_of}
use Rattle.stacks.specs.Alone.{apart_in, apart_of}
use Rattle.stacks.proofs.Many.{as_many}
use Rattle.std.specs.Prelude.{Err, Ok, Result}
use Rattle.log_tail.specs.declared.Fault.{Fault}
use Rattle.log_tail.specs.declared.Fault.TheVariants.{PastData as TableFault}
use Rattle.log_tail.specs.declared.Fault.TheVariants.{Wrong}
use Rattle.paper.specs.declared.Opened.{Opened}

-- ---- as many words as before

stored_length : (words s t f : List ℕ) (syllabus unnamed : ℕ) → length (words_after words s t f syllabus unnamed) ≡ length words
unfolding words_after
stored_length words s t f syllabus unnamed = by (is_accepted s t f unnamed) where
  by : (b : Bool) → length (cond b (stored words s t f syllabus) words) ≡ length words
  by true = length-sets words 0 (loaded s t f syllabus)
  by false = refl

begun_length : (words paper : List ℕ) → length (words_begun words paper) ≡ length words
unfolding words_begun setup_words
begun_length words paper = by (open_paper paper) where
  by-log : (judged : Result Unit Fault) (then : List ℕ) → length then ≡ length words → length (logged_words judged words then) ≡ length words
  by-log (Ok done) then same = same
  by-log (Err Wrong) then same = refl
  by-log (Err TableFault) then same = refl

  by_shape : (body : List ℕ) (read : Result Shape Refusal) → length (shaped_words words body read) ≡ length words
  by_shape body (Err refusal) = refl
  by_shape body (Ok shape) =
      let base = base_part shape body in
      let cycles = tail_part shape.dating body in
      let family = family_part shape.family body in
      by-log (log_judged shape body) (words_after words base cycles family shape.syllabus shape.unnamed)
      (stored_length words base cycles family shape.syllabus shape.unnamed)

  by : (opened : Result Opened Refusal) → length (opened_words words paper opened) ≡ length words
  by (Err refusal) = refl
  by (Ok opened) = by_shape (part paper opened.start opened.end) (shape_of opened.version (part paper opened.start opened.end))

ending_length : (event : Event) (here more : List ℕ) (n : ℕ) → length here ≡ n → length more ≡ n → length (ending event here more) ≡ n
ending_length SetUp here more n h m = m
ending_length End here more n h m = h
ending_length (Refused refusal) here more n h m = h
ending_length (Answered said answer) here more n h m = m

from_length : (n : ℕ) (words : List ℕ) (shape : Shape) (state : State) (paper : List ℕ) (at : ℕ)
    → length (words_from n words shape state paper at) ≡ length words
unfolding words_from
from_length zero words shape state paper at = refl
from_length (suc n) words shape state paper at =
    let taken = taken_of (rules_of words) shape state paper at in
    let writes = taken_writes shape state paper at in
    let then = script.words_after words writes in
    let here = as_many words writes in
    ending_length taken.event then _ (length words) here (from_length n then shape taken.state paper taken.at ∙ here)

pub words_length : (words paper : List ℕ) → length (words_left words paper) ≡ length words
unfolding words_left
words_length words paper =
    let begun = begun_of paper in
    let then = words_begun words paper in
    let here = begun_length words paper in
    ending_length begun.event then _ (length words) here (from_length (length paper) then begun.shape begun.state paper begun.at ∙ here)

-- ---- the same words

not_both : (refusal : Refusal) → Refused refusal ≡ SetUp → ⊥
not_both refusal e = let z : ◌≡◌ {A = ℕ} 0 1 = cc in omega arith

module _ (words words' paper : List ℕ) (lent : length words ≡ word_count) (lent' : length words' ≡ word_count) where
  -- a set-up that is taken fills all of them
  filled : (s t f : List ℕ) (syllabus unnamed : ℕ) → is_accepted s t f unnamed ≡ true
      → words_after words s t f syllabus unnamed ≡ words_after words' s t f syllabus unnamed
  unfolding words_after
  filled s t f syllabus unnamed good =
      let size = loaded-size s t f syllabus in
      rw good (all words (loaded s t f syllabus) (size ∙ sym lent) ∙ sym (all words' (loaded s t f syllabus) (size ∙ sym lent')))

  same-words : (begun_of paper).event ≡ SetUp → words_begun words paper ≡ words_begun words' paper
  unfolding begun_of setup_begun base_begun past_begun words_begun setup_words
  same-words = by (open_paper paper) where
    by-base : (shape : Shape) (s t f : List ℕ) (end : ℕ) (b : Bool) → is_accepted s t f shape.unnamed ≡ b → (base_begun shape s t f end).event ≡ SetUp
        → words_after words s t f shape.syllabus shape.unnamed ≡ words_after words' s t f shape.syllabus shape.unnamed
    by-base shape s t f end true good e = filled s t f shape.syllabus shape.unnamed good
    by-base shape s t f end false bad e =
        absurd (not_both _ (sym (ap (λ r. set_up_event r.answer) (untouched words s t f shape.syllabus shape.unnamed bad).1) ∙ e))

    by-log : (judged : Result Unit Fault) (good : Bool) (end : ℕ) (begun : Begun) (then then' : List ℕ) → (begun.event ≡ SetUp → then ≡ then')
        → (logged_begun judged good end begun).event ≡ SetUp → logged_words judged words then ≡ logged_words judged words' then'
    by-log (Ok done) good end begun then then' same e = same e
    by-log (Err Wrong) good end begun then then' same e = absurd (not_both BadSetup e)
    by-log (Err TableFault) good end begun then then' same e = absurd (not_both (cond good PastData BadSetup) e)

    by_shape : (body : List ℕ) (place end : ℕ) (read : Result Shape Refusal) → (shaped_begun body place end read).event ≡ SetUp
        → shaped_words words body read ≡ shaped_words words' body read
    by_shape body place end (Err refusal) e = absurd (not_both refusal e)
    by_shape body place end (Ok shape) e =
        let base = base_part shape body in
        let cycles = tail_part shape.dating body in
        let family = family_part shape.family body in
        let good = is_accepted base cycles family shape.unnamed in
        by-log (log_judged shape body) good end (base_begun (shape_at place shape) base cycles family end)
        (words_after words base cycles family shape.syllabus shape.unnamed) (words_after words' base cycles family shape.syllabus shape.unnamed)
        (by-base (shape_at place shape) base cycles family end good refl) e

    by : (opened : Result Opened Refusal) → (opened_begun paper opened).event ≡ SetUp → opened_words words paper opened ≡ opened_words words' paper opened
    by (Err refusal) e = absurd (not_both refusal e)
    by (Ok opened) e = by_shape (part paper opened.start opened.end) opened.start opened.end (shape_of opened.version (part paper opened.start opened.end)) e

  pub each_alone : transcript_of words paper ≡ transcript_of words' paper
  each_alone = by (begins paper) where
    by : Beginning paper (begun_of paper) → transcript_of words paper ≡ transcript_of words' paper
    by (accepted e o) =
        let begun = begun_of paper in
        let rest = ap (λ w. refusal_line 0 0 ++ rest_of (rules_of w) begun.shape begun.state paper begun.at 1) (same-words e) in
        set_up_lem words paper e ∙ rest ∙ sym (set_up_lem words' paper e)
    by (refused refusal e) = not_set_up words paper refusal e ∙ sym (not_set_up words' paper refusal e)

  -- and with it the log's lines, which are read from that
  pub text_alone : text_of words paper ≡ text_of words' paper
  unfolding text_of
  text_alone = rw each_alone

-- ---- a stack

apart_in_lem : (n : ℕ) (words words' stack : List ℕ) → length words ≡ word_count → length words' ≡ word_count
    → pages_in n words stack ≡ apart_in n words' stack
unfolding pages_in apart_in
apart_in_lem zero words words' stack lent lent' = refl
apart_in_lem (suc n) words words' stack lent lent' =
    let paper = paper_of stack in
    rw (text_alone words words' paper lent lent', apart_in_lem n (words_left words paper) words' (behind stack) (words_length words paper ∙ lent) lent')

-- the text of a stack is each paper's own page
pub apart : (words words' stack : List ℕ) → length words ≡ word_count → length words' ≡ word_count
    → stack_of words stack ≡ apart_of words' stack
unfolding stack_of apart_of
apart words words' stack lent lent' = apart_in_lem (length stack) words words' stack lent lent'
