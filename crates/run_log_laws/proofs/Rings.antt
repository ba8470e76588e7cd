-- The ring behind a run is the one of what was said, where it stood and what was answered; a refused run leaves the ring. Assumes nothing.
use mathlib.Core.Path.{◌≡◌, refl, subst}
use mathlib.Core.Bool.{true}
use mathlib.Core.List.{List, [], ◌∷◌, ◌++◌}
use Prim.Native.Nat.{ℕ, ◌+◌}
use native.Mathlib.Omega.{arith}
use borrow.Author.Tests.{le-ltb}
use lib.ListN.{length, drop, length-append}
use lib.Seq.{drop_at}
use Rattle.refusal.specs.declared.Refusal.{Refusal}
use Rattle.shape.specs.declared.Shape.{Shape}
use Rattle.paper.specs.Walk.{Met}
use Rattle.text.proofs.Each.{Each, more}
use Rattle.records.specs.Records.{can_be_read}
use Rattle.records.specs.declared.Event.{Event}
use Rattle.answers.specs.Answers.{size, answer_bytes}
use Rattle.answers.proofs.Laws.{answer-size}
use Rattle.journal.specs.declared.Logging.{Logging}
use Rattle.journal.specs.Logged.{Seen, heard_out, ring_through}
use Rattle.run_rule.proofs.Rulings.{done-is}
use Rattle.runs.specs.Runs.{records_in, all_read, Card, card_behind, answers_to, ruled_run}
use Rattle.run_laws.proofs.Laws.{both, parts}
use Rattle.run_laws.proofs.Singly.{answers-there}
use Rattle.reply_laws.specs.Heard.{Legible}
use Rattle.run_log.specs.RunLog.{heard_by, watched_answer, ring_over, ring_run}
use Rattle.log_laws.specs.Spoken.{heard_of, seen_then}
use Rattle.run_log_laws.specs.RunSeen.{seen_over, ring_behind}
use Rattle.run_log_laws.proofs.Answers.{answer-watched}
use Rattle.run_log_laws.proofs.Said.{exchanged}
use Rattle.std.specs.Prelude.{Err, Ok}

-- its answer can be read from its bytes
abbrev pub Readable : Seen → Type 0
Readable seen = Legible seen.answer

pub first_of : {A : Type 0} {P : A → Type 0} {a : A} {s : List A} → Each P (a ∷ s) → P a × Each P s
first_of (more p rest) = (p, rest)

module _ (logging : Logging) (shape : Shape) (paper : List ℕ) where
  rings : (mets : List Met) (card : Card) (place : ℕ) (ring : List ℕ) → all_read shape mets ≡ true
      → Each Readable (seen_over shape paper card place mets)
      → ring_over logging place mets (answers_to shape paper card mets) ring ≡ ring_through logging ring (seen_over shape paper card place mets)
  unfolding all_read answers_to seen_over ring_over ring_through
  rings [] card place ring read legible = refl
  rings (met ∷ behind) card place ring read legible =
      let can = both (can_be_read shape met.kind (length met.body)) (all_read shape behind) read in
      let x = exchanged shape paper card met can.0 in
      let then = card_behind shape paper card met in
      let next = place + 3 + length met.body in
      let rest = answers_to shape paper then behind in
      let bytes = answer_bytes x.answer in
      let told = first_of (subst (λ (event : Event). Each Readable (seen_then place event (seen_over shape paper then next behind))) x.event_is legible) in
      let sized = answer-size x.answer in
      let long = le-ltb (length (bytes ++ rest)) size (omega (arith, length-append bytes rest, sized)) in
      let left : drop size (bytes ++ rest) ≡ rest = drop_at bytes rest size sized in
      let heard : watched_answer logging (heard_by met.kind met.body) (place + 3) (bytes ++ rest) ring
      ≡ heard_out logging (heard_of x.said) (place + 3) x.answer ring =
      rw x.heard-is (answer-watched logging (heard_of x.said) (place + 3) x.answer rest ring told.0 x.unheard) in
      rw (x.event_is, long, left, heard)
      (rings behind then next (heard_out logging (heard_of x.said) (place + 3) x.answer ring) can.1 told.1)

  module _ (card : Card) (run : List ℕ) (place : ℕ) (room ring : List ℕ) where
    -- A RUN THAT WAS CARRIED OUT
    pub run-logs : (n : ℕ) → ruled_run shape run (length room) ≡ Ok n → Each Readable (seen_over shape paper card place (records_in run))
        → ring_behind shape paper logging card run place room ring ≡ ring_through logging ring (seen_over shape paper card place (records_in run))
    unfolding ring_behind ring_run
    run-logs n done legible =
        let is = done-is shape run (length room) n done in
        rw (done, answers-there shape paper card run room n done)
        (rings (records_in run) card place ring (parts shape paper run is.0).1 legible)

    -- A REFUSED RUN, 9 or 17, leaves no answer to watch
    pub refused-logs-none : (refusal : Refusal) → ruled_run shape run (length room) ≡ Err refusal
        → ring_behind shape paper logging card run place room ring ≡ ring
    unfolding ring_behind ring_run ring_over
    refused-logs-none refusal refused = rw refused (by (records_in run)) where
      by : (mets : List Met) → ring_over logging place mets [] ring ≡ ring
      by [] = refl
      by (met ∷ behind) = refl
