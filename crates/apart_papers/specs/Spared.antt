-- The records of a paper that spare a meter (document 02, Fourteen).
use Rattle.std.specs.Prelude.{ℕ, zero, suc, List, length}
use Rattle.rules.specs.Rules.{Rules, rules_of}
use Rattle.purchase.specs.Meter.{Meter}
use Rattle.shape.specs.declared.Shape.{Shape}
use Rattle.paper.specs.declared.Next.{Next}
use Rattle.paper.specs.declared.Next.TheVariants.{Record, Fault, End as PaperEnd}
use Rattle.paper.specs.Paper.{next_at}
use Rattle.paper.specs.Walk.{part}
use Rattle.script.specs.Script.{rules_after}
use Rattle.state.specs.declared.State.{State}
use Rattle.records.specs.declared.Event.{Event}
use Rattle.records.specs.declared.Event.TheVariants.{SetUp, End, Refused, Answered}
use Rattle.conversation.specs.Conversation.{taken_of, taken_writes}
use Rattle.opening.specs.Opening.{begun_of, words_begun}
use Rattle.apart.specs.Off.{Spares}

abbrev pub SparesNext : Rules → Shape → State → (paper : List ℕ) → Meter → Next → Type 0
SparesNext rules shape state paper x PaperEnd = Unit
SparesNext rules shape state paper x Fault = Unit
SparesNext rules shape state paper x (Record kind start end) = Spares rules shape state paper kind (part paper start end) x

-- behind an event, where the conversation goes on
abbrev pub going : Event → (more : Type 0) → Type 0
going SetUp more = more
going End more = Unit
going (Refused refusal) more = Unit
going (Answered said answer) more = more

-- n records from a place on, each on the card that the one before left
unfoldable pub SparedFrom : ℕ → Rules → Shape → State → (paper : List ℕ) (at : ℕ) → Meter → Type 0
SparedFrom zero rules shape state paper at x = Unit
SparedFrom (suc n) rules shape state paper at x =
    let taken = taken_of rules shape state paper at in
    SparesNext rules shape state paper x (next_at paper at)
    × going taken.event (SparedFrom n (rules_after rules (taken_writes shape state paper at)) shape taken.state paper taken.at x)

-- all of a paper's, on its fresh card
unfoldable pub SparedBy : (words paper : List ℕ) → Meter → Type 0
SparedBy words paper x =
    let begun = begun_of paper in
    SparedFrom (length paper) (rules_of (words_begun words paper)) begun.shape begun.state paper begun.at x
