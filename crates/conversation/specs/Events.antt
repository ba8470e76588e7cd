-- The events of a whole paper: the set-up's, then one for each record that is reached, to an ending refusal or the paper's end.
use Rattle.std.specs.Prelude.{ℕ, zero, suc, List, [], ◌∷◌, length}
use Rattle.rules.specs.Rules.{Rules, rules_of}
use Rattle.shape.specs.declared.Shape.{Shape}
use Rattle.state.specs.declared.State.{State}
use Rattle.records.specs.declared.Event.{Event}
use Rattle.records.specs.declared.Event.TheVariants.{SetUp, End, Refused, Answered}
use Rattle.script.specs.Script.{rules_after, words_after}
use Rattle.opening.specs.Opening.{begun_of, words_begun}
use Rattle.conversation.specs.Conversation.{taken_of, taken_writes}

-- an event, and those behind it where the conversation goes on
abbrev pub following : Event → List Event → List Event
following SetUp more = SetUp ∷ more
following End more = []
following (Refused refusal) more = Refused refusal ∷ []
following (Answered said answer) more = Answered said answer ∷ more

-- the events of n records from a place on; the rules are then those that the record left
unfoldable pub events_from : ℕ → Rules → Shape → State → (paper : List ℕ) (at : ℕ) → List Event
events_from zero rules shape state paper at = []
events_from (suc n) rules shape state paper at =
    let taken = taken_of rules shape state paper at in
    following taken.event (events_from n (rules_after rules (taken_writes shape state paper at)) shape taken.state paper taken.at)

-- those of a paper, with the words that it was lent; no paper has more records than bytes
unfoldable pub events_of : (words paper : List ℕ) → List Event
events_of words paper =
    let begun = begun_of paper in
    following begun.event (events_from (length paper) (rules_of (words_begun words paper)) begun.shape begun.state paper begun.at)

-- THE WORDS that a paper leaves: as they are after its set-up, or after the last record that is reached
abbrev pub ending : {A : Type 0} → Event → (here more : A) → A
ending SetUp here more = more
ending End here more = here
ending (Refused refusal) here more = here
ending (Answered said answer) here more = more

unfoldable pub words_from : ℕ → (words : List ℕ) → Shape → State → (paper : List ℕ) (at : ℕ) → List ℕ
words_from zero words shape state paper at = words
words_from (suc n) words shape state paper at =
    let taken = taken_of (rules_of words) shape state paper at in
    let then = words_after words (taken_writes shape state paper at) in
    ending taken.event then (words_from n then shape taken.state paper taken.at)

unfoldable pub words_left : (words paper : List ℕ) → List ℕ
words_left words paper =
    let begun = begun_of paper in
    let then = words_begun words paper in
    ending begun.event then (words_from (length paper) then begun.shape begun.state paper begun.at)
