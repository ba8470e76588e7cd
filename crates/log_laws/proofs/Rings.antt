-- The ring that is filled from a paper's bytes and its lines is the one of what was said, where it stood and what was answered. Assumes nothing.
use mathlib.Core.Path.{◌≡◌, refl, sym, ap, ◌∙◌}
use mathlib.Core.Bool.{Bool, true, false, cond}
use mathlib.Core.List.{List, [], ◌∷◌, ◌++◌, append_assoc}
use Prim.Native.Nat.{ℕ, zero, suc, ◌+◌, ◌<◌}
use native.Mathlib.Omega.{arith}
use borrow.Author.Tests.{ne_eqb}
use lib.Dec.{eqb}
use lib.ListN.{length, drop, get_or}
use Rattle.text.specs.Text.{joined}
use Rattle.refusal.specs.declared.Refusal.{Refusal}
use Rattle.refusal.specs.Refusal.{refusal_number}
use Rattle.rules.specs.Rules.{Rules}
use Rattle.shape.specs.declared.Shape.{Shape}
use Rattle.paper.specs.Paper.{place_after}
use Rattle.state.specs.declared.Answer.{Answer}
use Rattle.state.specs.declared.Answer.TheVariants.{Refused as AnswerRefused, Started, Given, Done}
use Rattle.state.specs.declared.State.{State}
use Rattle.state.specs.State.{cid_of}
use Rattle.script.specs.Script.{rules_after}
use Rattle.card.specs.Card.{answer_number}
use Rattle.records.specs.declared.Said.{Said}
use Rattle.records.specs.declared.Event.{Event}
use Rattle.records.specs.declared.Event.TheVariants.{SetUp, End, Refused, Answered}
use Rattle.conversation.specs.Conversation.{taken_of, taken_writes}
use Rattle.conversation.specs.Events.{following, events_from}
use Rattle.ring.specs.Ring.{no_records}
use Rattle.journal.specs.declared.Logging.{Logging}
use Rattle.journal.specs.declared.Heard.{Heard}
use Rattle.journal.specs.Logged.{Seen, heard_out, ring_through}
use Rattle.lines.specs.Lines.{refusal_line, start_line, selected_line}
use Rattle.lines.specs.Sitting.{answer_line, lines_of}
use Rattle.text.proofs.Each.{Each, more}
use Rattle.text.proofs.Fields.{Fed}
use Rattle.lines.proofs.Fields.{OneLine}
use Rattle.lines.proofs.Laws.{refusal_line_lem, start-line, selected_line_lem, cryptogram-line}
use Rattle.replies.specs.Replies.{reply_in, is_ending}
use Rattle.paper_log.specs.Log.{heard_in}
use Rattle.reply_laws.specs.Heard.{heard_reply, Legible}
use Rattle.reply_laws.proofs.Marks.{before-feed}
use Rattle.reply_laws.proofs.Told.{told}
use Rattle.reply_laws.proofs.Ends.{refusal_ends, ends}
use Rattle.log_book.specs.Logbook.{lines_in, replied, watched_line, ring_by}
use Rattle.log_laws.specs.Spoken.{heard_of, seen_then, seen_from, is_whole}
use Rattle.log_laws.proofs.Said.{heard_as_said, place-behind}
use Rattle.log_laws.proofs.Answers.{Told}

-- ---- a text taken apart at its line feeds

apart : (front : List ℕ) → ((i : ℕ) → i < length front → get_or front i 0 ≡ 10 → ⊥) → (rest : List ℕ) → lines_in (front ++ 10 ∷ rest) ≡ front ∷ lines_in rest
unfolding lines_in
apart [] alone rest = refl
apart (c ∷ front) alone rest =
    rw (ne_eqb c 10 (alone 0 (omega arith)), apart front (λ i l. alone (suc i) (omega arith)) rest)

-- a line comes first, less its line feed, and then those behind it
pub lines_in_lem : {line : List ℕ} (fed : Fed line) (rest : List ℕ) → lines_in (line ++ rest) ≡ fed.front ∷ lines_in rest
lines_in_lem fed rest =
    ap (λ (t : List ℕ). lines_in (t ++ rest)) fed.ends
    ∙ ap lines_in (append_assoc fed.front (10 ∷ []) rest)
    ∙ apart fed.front fed.alone rest

-- the line of an answer is one line
pub answer-line : (number : ℕ) (answer : Answer) → OneLine (answer_line number answer)
unfolding answer_line
answer-line number (AnswerRefused refusal) = refusal_line_lem number (refusal_number refusal)
answer-line number (Started atc visits) = by (eqb visits 0) where
  by : (b : Bool) → OneLine (cond b (start_line number atc) (selected_line number atc visits))
  by true = start-line number atc
  by false = selected_line_lem number atc visits
answer-line number (Given kind atc iad) = cryptogram-line number (cid_of kind) atc iad
answer-line number Done = refusal_line_lem number 0

module _ (logging : Logging) (paper : List ℕ) where
  -- ---- one line

  -- what was given is watched, and else the ring stays
  watched-line : (at : ℕ) (line ring : List ℕ) (said : Heard) (answer : Answer) → heard_in (drop at paper) ≡ said → reply_in line ≡ heard_reply answer
      → watched_line logging paper at line ring ≡ heard_out logging said (at + 3) answer ring
  unfolding watched_line
  watched-line at line ring said answer h r = rw (h, r) (by answer) where
    by : (a : Answer) → replied logging said (at + 3) (heard_reply a) ring ≡ heard_out logging said (at + 3) a ring
    by (AnswerRefused refusal) = refl
    by (Started atc visits) = refl
    by (Given kind atc iad) = refl
    by Done = refl

  -- a line that ends the paper, and one that does not
  ring_ends : (at : ℕ) (line : List ℕ) (behind : List (List ℕ)) (ring : List ℕ) → is_ending line ≡ true
      → ring_by logging paper at (line ∷ behind) ring ≡ no_records
  unfolding ring_by
  ring_ends at line behind ring e = rw e

  ring_goes_on : (at : ℕ) (line : List ℕ) (behind : List (List ℕ)) (ring : List ℕ) → is_ending line ≡ false
      → ring_by logging paper at (line ∷ behind) ring ≡ ring_by logging paper (place_after paper at) behind (watched_line logging paper at line ring)
  unfolding ring_by
  ring_goes_on at line behind ring e = rw e

  ended : (at number : ℕ) (refusal : Refusal) (ring : List ℕ) → refusal_number refusal ≡ 9
      → ring_by logging paper at (lines_in (refusal_line number (refusal_number refusal) ++ [])) ring ≡ no_records
  ended at number refusal ring nine =
      rw nine
      (let fed = (refusal_line_lem number 9).fed in
      ap (λ (lines : List (List ℕ)). ring_by logging paper at lines ring) (lines_in_lem fed [])
      ∙ ring_ends at fed.front (lines_in []) ring (ap is_ending (sym (before-feed fed [])) ∙ refusal_ends number [] 9 (omega arith)))

  answered : (at number : ℕ) (said : Said) (answer : Answer) (rest ring : List ℕ) → heard_in (drop at paper) ≡ heard_of said
      → Legible answer → eqb (answer_number answer) 9 ≡ false
      → ring_by logging paper at (lines_in (answer_line number answer ++ rest)) ring
      ≡ ring_by logging paper (place_after paper at) (lines_in rest) (heard_out logging (heard_of said) (at + 3) answer ring)
  answered at number said answer rest ring h legible other =
      let fed = (answer-line number answer).fed in
      let is = before-feed fed rest in
      ap (λ (lines : List (List ℕ)). ring_by logging paper at lines ring) (lines_in_lem fed rest)
      ∙ ring_goes_on at fed.front (lines_in rest) ring (ap is_ending (sym is) ∙ ends number answer rest ∙ other)
      ∙ ap (ring_by logging paper (place_after paper at) (lines_in rest))
      (watched-line at fed.front ring (heard_of said) answer h (ap reply_in (sym is) ∙ told number answer legible rest))

  -- ---- all of them

  -- behind a place come these events, and these records that are answered
  abbrev Rings : (at number : ℕ) → List Event → List Seen → Type 0
  Rings at number events seen =
      (ring : List ℕ)
      → ring_by logging paper at (lines_in (joined (lines_of number events))) ring ≡ cond (is_whole events) (ring_through logging ring seen) no_records

  nothing-more : (at number : ℕ) → Rings at number [] []
  unfolding lines_of joined lines_in ring_by is_whole ring_through
  nothing-more at number ring = refl

  one_more_lem : (at next number : ℕ) (event : Event) (behind : List Event) (seen : List Seen) → Each Told (following event behind)
      → ((said : Said) (answer : Answer) → event ≡ Answered said answer → (heard_in (drop at paper) ≡ heard_of said) × (place_after paper at ≡ next))
      → (Each Told behind → Rings next (number + 1) behind seen) → Rings at number (following event behind) (seen_then at event seen)
  unfolding lines_of joined is_whole ring_through
  one_more_lem at next number SetUp behind seen (more told rest) heeded then = absurd told
  one_more_lem at next number End behind seen all heeded then = nothing-more at number
  one_more_lem at next number (Refused refusal) behind seen (more nine rest) heeded then = λ ring. ended at number refusal ring nine
  one_more_lem at next number (Answered said answer) behind seen (more told rest) heeded then = λ ring.
      let text = joined (lines_of (number + 1) behind) in
      let after = heard_out logging (heard_of said) (at + 3) answer ring in
      let (heard, place) = heeded said answer refl in
      answered at number said answer text ring heard told.0 told.1
      ∙ ap (λ (k : ℕ). ring_by logging paper k (lines_in text) after) place
      ∙ then rest after

  module _ (shape : Shape) where
    -- THE RING BY THE LINES OF RECORDS IS THE ONE OF WHAT WAS SAID, WHERE AND WITH WHAT ANSWER; a refusal that ends the paper leaves none
    pub ring_as_spoken : (n number : ℕ) (rules : Rules) (state : State) (at : ℕ) → Each Told (events_from n rules shape state paper at) → (ring : List ℕ)
        → ring_by logging paper at (lines_in (joined (lines_of number (events_from n rules shape state paper at)))) ring
        ≡ cond (is_whole (events_from n rules shape state paper at)) (ring_through logging ring (seen_from n rules shape state paper at)) no_records
    unfolding events_from seen_from
    ring_as_spoken zero number rules state at all = nothing-more at number
    ring_as_spoken (suc n) number rules state at all =
        let taken = taken_of rules shape state paper at in
        let after = rules_after rules (taken_writes shape state paper at) in
        one_more_lem at taken.at number taken.event (events_from n after shape taken.state paper taken.at)
        (seen_from n after shape taken.state paper taken.at) all
        (λ said answer e. (heard_as_said rules shape state paper at said answer e, place-behind rules shape state paper at said answer e))
        (ring_as_spoken n (number + 1) after taken.state taken.at)
