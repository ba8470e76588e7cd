-- A loop over the records: what stands in the room and what is still to come is the whole text. Assumes nothing.
use mathlib.Core.Path.{◌≡◌, refl, sym, ap, subst, ◌∙◌}
use mathlib.Core.List.{List, ◌++◌}
use Prim.Native.Nat.{ℕ, ◌+◌, ◌*◌, ◌-◌, ◌≤◌, ◌<◌}
use native.Mathlib.Omega.{arith}
use lib.ListN.{length, length-append}
use lib.Seq.{sets, length-sets}
use Rattle.text.proofs.Laws.{sets_on}
use Rattle.rules.specs.Rules.{rules_of}
use Rattle.shape.specs.declared.Shape.{Shape}
use Rattle.script.specs.Script.{rules_after, words_after}
use Rattle.state.specs.declared.Answer.{Answer}
use Rattle.state.specs.declared.State.{State}
use Rattle.begun.specs.declared.Begun.{Begun}
use Rattle.records.specs.declared.Taken.{Taken}
use Rattle.records.specs.declared.Event.{Event}
use Rattle.records.specs.declared.Event.TheVariants.{SetUp, End, Refused, Answered}
use Rattle.records.specs.declared.Said.{Said}
use Rattle.opening.specs.Opening.{begun_of, words_begun}
use Rattle.conversation.specs.Conversation.{taken_of, taken_writes}
use Rattle.conversation.specs.Events.{words_from, words_left}
use Rattle.conversation.proofs.Events.{GoesOn, further}
use Rattle.lines.specs.Lines.{longest, refusal_line, placed, place_behind}
use Rattle.lines.specs.Sitting.{answer_line}
use Rattle.lines.proofs.Placed.{behind-is, placed-is}
use Rattle.lines.proofs.Short.{answer-short}
use Rattle.transcript.specs.Transcript.{transcript_of, rest_of, last_line, room_for}
use Rattle.transcript.proofs.Short.{LineOf, record_short}
use Rattle.transcript.proofs.Steps as Steps

-- by the words as they are: the text and the words that the records from the place on leave
pub record Going (words : List ℕ) (shape : Shape) (paper whole left : List ℕ) (before : List ℕ) (to : ℕ) (room : List ℕ) (state : State)
    (at end number : ℕ) : Type 0 where
  pub inside : at ≤ length paper
  pub counted : 3 * number + 1 ≤ at
  pub fits : end + room_for (length paper - at) ≤ length room
  pub text : sets room end (rest_of (rules_of words) shape state paper at number) ≡ sets before to whole
  pub ends : end + length (rest_of (rules_of words) shape state paper at number) ≡ to + length whole
  pub sized : length room ≡ length before
  pub leaves : words_from (length paper) words shape state paper at ≡ left

module _ {words : List ℕ} {shape : Shape} {paper whole left before room : List ℕ} {to at end number : ℕ} {state : State}
    (going : Going words shape paper whole left before to room state at end number) where
  abbrev taken : Taken
  taken = taken_of (rules_of words) shape state paper at

  -- what the record writes
  abbrev Written : (words' : List ℕ) → Type 0
  Written words' =
      (words' ≡ words_after words (taken_writes shape state paper at))
      × (rules_of words' ≡ rules_after (rules_of words) (taken_writes shape state paper at))

  -- a record's line is written, and the next record is reached
  pub go_on : (words' : List ℕ) → Written words' → (said : Said) (answer : Answer) → at < length paper → taken.event ≡ Answered said answer
      → Going words' shape paper whole left before to (placed room end (answer_line number answer)) taken.state taken.at
      (place_behind (length room) end (answer_line number answer)) (number + 1)
  go_on words' w said answer h e =
      let line = answer_line number answer in
      let f = further shape paper (rules_of words) state at (subst GoesOn (sym e) tt) in
      let s = subst (λ v. LineOf number v (taken.at - at)) e (record_short (rules_of words) shape state paper at number) in
      let fits : end + longest ≤ length room = omega (arith, going.fits) in
      let here = placed-is room end line fits (answer-short number answer) in
      let there = behind-is (length room) end line fits in
      let rest = rest_of (rules_of words') shape taken.state paper taken.at (number + 1) in
      let next : rest_of (rules_of words) shape state paper at number ≡ line ++ rest =
      Steps.answered (rules_of words) shape state paper at number h said answer e
      ∙ ap (λ rules. line ++ rest_of rules shape taken.state paper taken.at (number + 1)) (sym w.1) in
      let joined = length-append line rest in
      let size = length-sets room end line in
      rw (here, there)
      (record {
        inside = f.1;
        counted = omega (arith, going.counted, s.0, f.0);
        fits = omega (arith, going.fits, s.1, f.0, f.1);
        text = sets_on room line rest end ∙ ap (λ t. sets room end t) (sym next) ∙ going.text;
        ends = omega (arith, going.ends, ap length next);
        sized = omega (arith, going.sized);
        leaves =
            ap (λ now. words_from (length paper) now shape taken.state paper taken.at) w.0
            ∙ sym (Steps.words-on words shape state paper at h said answer e) ∙ going.leaves;
      })

  pub falls : (said : Said) (answer : Answer) → at < length paper → taken.event ≡ Answered said answer
      → length paper - taken.at < length paper - at
  falls said answer h e =
      let f = further shape paper (rules_of words) state at (subst GoesOn (sym e) tt) in omega (arith, f.0, f.1)

  -- a record that is not answered has the last line, or none, and leaves the words
  pub record Last (event : Event) (words' : List ℕ) : Type 0 where
    pub line : rest_of (rules_of words) shape state paper at number ≡ last_line number event
    pub leaves : words' ≡ left

  pub last-is : (words' : List ℕ) → Written words' → (event : Event) → at < length paper → taken.event ≡ event
      → ((said : Said) (answer : Answer) → event ≡ Answered said answer → ⊥) → Last event words'
  last-is words' w SetUp h e n = absurd (Steps.never_set_up (rules_of words) shape state paper at e)
  last-is words' w End h e n =
      record {
        line = Steps.none (rules_of words) shape state paper at number h e;
        leaves = w.0 ∙ sym (Steps.words_last words shape state paper at h End (λ on. on) e) ∙ going.leaves;
      }
  last-is words' w (Refused refusal) h e n =
      record {
        line = Steps.last (rules_of words) shape state paper at number h refusal e;
        leaves = w.0 ∙ sym (Steps.words_last words shape state paper at h (Refused refusal) (λ on. on) e) ∙ going.leaves;
      }
  last-is words' w (Answered said answer) h e k = absurd (k said answer refl)

  -- nothing is left
  pub over : length paper ≤ at → (end ≡ to + length whole) × (room ≡ sets before to whole) × (words ≡ left)
  over h =
      let none = Steps.at-end (rules_of words) shape state paper at number h in (
        omega (arith, going.ends, ap length none),
        ap (λ t. sets room end t) (sym none) ∙ going.text,
        sym (Steps.words-over words shape state paper at h) ∙ going.leaves,
      )

-- the set-up's line and the records' lines behind it are the paper's text
pub whole-text : (words paper room : List ℕ) (at : ℕ) {between after words' : List ℕ} {end r : ℕ} {begun : Begun} → begun ≡ begun_of paper
    → words' ≡ words_begun words paper → (begun_of paper).event ≡ SetUp → between ≡ sets room at (refusal_line 0 0)
    → end ≡ at + length (refusal_line 0 0)
    → r ≡ end + length (rest_of (rules_of words') begun.shape begun.state paper begun.at 1)
    → after ≡ sets between end (rest_of (rules_of words') begun.shape begun.state paper begun.at 1)
    → {words'' : List ℕ} → words'' ≡ words_from (length paper) words' begun.shape begun.state paper begun.at
    → (r ≡ at + length (transcript_of words paper)) × (after ≡ sets room at (transcript_of words paper)) × (words'' ≡ words_left words paper)
whole-text words paper room at {between} {after} {words'} {end} {r} {begun} b k e there behind size text {words''} leaves =
    let rest = rest_of (rules_of (words_begun words paper)) (begun_of paper).shape (begun_of paper).state paper (begun_of paper).at 1 in
    let same : rest_of (rules_of words') begun.shape begun.state paper begun.at 1 ≡ rest = rw (b, k) in
    let parts = Steps.set_up_lem words paper e in
    let joined = length-append (refusal_line 0 0) rest in (
      omega (arith, size, behind, ap length same, ap length parts),
      rw (text, same, there, behind, parts) (sets_on room (refusal_line 0 0) rest at),
      rw (leaves, b, k) (sym (Steps.words_set_up words paper e)),
    )
