-- The room left through a conversation (request Seven): stored after the set-up, every answer and refusal, and after scripts.
use Rattle.std.specs.Prelude.{ℕ, List}
use Rattle.rules.specs.declared.Values.{Values}
use Rattle.rules.specs.Rules.{Rules, rules_of}
use Rattle.rooms.specs.Rooms.{filled}
pub use Rattle.upkeep.specs.Upkeep.{is_done, is_scripted}
unfoldable pub use Rattle.upkeep.specs.Upkeep.{rooms_after}
use Rattle.shape.specs.declared.Shape.{Shape}
use Rattle.script.specs.Script.{rules_after}
use Rattle.state.specs.declared.State.{State}
use Rattle.records.specs.declared.Event.{Event}
use Rattle.records.specs.declared.Event.TheVariants.{SetUp, End, Refused, Answered}
use Rattle.records.specs.Records.{record_taken, record_writes}
use Rattle.conversation.specs.Conversation.{taken_of, taken_writes}
use Rattle.opening.specs.Opening.{begun_of, words_begun}

-- A RECORD wherever its bytes stand, by the rules that it leaves
unfoldable pub rooms_recorded : Rules → Shape → State → (paper : List ℕ) (kind : ℕ) (body : List ℕ) (end : ℕ) (rooms : List ℕ) → List ℕ
rooms_recorded rules shape state paper kind body end rooms =
    let taken = record_taken rules shape state paper kind body end in
    rooms_after (rules_after rules (record_writes shape state kind body)) state.values taken.state.values taken.event rooms

-- and the one at a place of a paper
unfoldable pub rooms_taken : Rules → Shape → State → (paper : List ℕ) (at : ℕ) (rooms : List ℕ) → List ℕ
rooms_taken rules shape state paper at rooms =
    let taken = taken_of rules shape state paper at in
    rooms_after (rules_after rules (taken_writes shape state paper at)) state.values taken.state.values taken.event rooms

-- THE SET-UP; where it is refused there is no card, and the cells stay
abbrev pub set_up_rooms : Rules → Values → Event → (rooms : List ℕ) → List ℕ
set_up_rooms rules values SetUp rooms = filled rules values rooms
set_up_rooms rules values End rooms = rooms
set_up_rooms rules values (Refused refusal) rooms = rooms
set_up_rooms rules values (Answered said answer) rooms = rooms

unfoldable pub rooms_begun : (words rooms paper : List ℕ) → List ℕ
rooms_begun words rooms paper =
    let begun = begun_of paper in
    set_up_rooms (rules_of (words_begun words paper)) begun.state.values begun.event rooms
