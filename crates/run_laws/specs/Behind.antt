-- A run behind a paper: what the paper leaves, and the run's answers as lines (document 02, Eleven).
use Rattle.std.specs.Prelude.{ℕ, zero, suc, ◌+◌, ◌≡◌, List, [], ◌∷◌, length}
use Rattle.rules.specs.Rules.{Rules, rules_of}
use Rattle.shape.specs.declared.Shape.{Shape}
use Rattle.script.specs.Script.{rules_after}
use Rattle.state.specs.declared.State.{State}
use Rattle.card.specs.Message.{Message}
use Rattle.records.specs.declared.Event.{Event}
use Rattle.records.specs.declared.Event.TheVariants.{SetUp, End, Refused, Answered}
use Rattle.opening.specs.Opening.{begun_of, words_begun}
use Rattle.conversation.specs.Conversation.{taken_of, taken_writes}
use Rattle.conversation.specs.Events.{ending}
use Rattle.lines.specs.Sitting.{answer_line}
use Rattle.demands.specs.Conversation.{Sitting, outcome_of, told}

-- the rules and the state that records leave
pub record Left : Type 0 where
  pub rules : Rules
  pub state : State

unfoldable pub left_from : ℕ → Rules → Shape → State → (paper : List ℕ) (at : ℕ) → Left
left_from zero rules shape state paper at = record { rules = rules; state = state }
left_from (suc n) rules shape state paper at =
    let taken = taken_of rules shape state paper at in
    ending taken.event (record { rules = rules; state = state })
    (left_from n (rules_after rules (taken_writes shape state paper at)) shape taken.state paper taken.at)

unfoldable pub left_by : (words paper : List ℕ) → Left
left_by words paper =
    let begun = begun_of paper in
    left_from (length paper) (rules_of (words_begun words paper)) begun.shape begun.state paper begun.at

-- no refusal ends the paper
abbrev pub goes : Event → (more : Type 0) → Type 0
goes SetUp more = more
goes End more = Unit
goes (Refused refusal) more = ⊥
goes (Answered said answer) more = more

unfoldable pub ReadFrom : ℕ → Rules → Shape → State → (paper : List ℕ) (at : ℕ) → Type 0
ReadFrom zero rules shape state paper at = Unit
ReadFrom (suc n) rules shape state paper at =
    let taken = taken_of rules shape state paper at in
    goes taken.event (ReadFrom n (rules_after rules (taken_writes shape state paper at)) shape taken.state paper taken.at)

unfoldable pub ReadWhole : (words paper : List ℕ) → Type 0
ReadWhole words paper =
    let begun = begun_of paper in
    (begun.event ≡ SetUp) × ReadFrom (length paper) (rules_of (words_begun words paper)) begun.shape begun.state paper begun.at

-- the answers to messages as lines, from a record's number on
unfoldable pub answer_lines : (number : ℕ) → Sitting → List Message → List (List ℕ)
answer_lines number sitting [] = []
answer_lines number sitting (message ∷ more) =
    answer_line number (outcome_of sitting message).answer ∷ answer_lines (number + 1) (told sitting message) more
