-- The cells beside a card over a list of messages (request Seven).
use Rattle.std.specs.Prelude.{ℕ, List, [], ◌∷◌}
use Rattle.rooms.specs.Rooms.{filled}
use Rattle.records.specs.declared.Event.TheVariants.{Answered}
use Rattle.records.specs.declared.Said.TheVariants.{Script}
use Rattle.keeper.specs.Keeper.{rooms_after}
use Rattle.card.specs.Message.{Message}
use Rattle.demands.specs.Setup.{Setup}
use Rattle.demands.specs.Conversation.{Sitting, outcome_of, told, sat}

-- what a message leaves of them, by the rules that it leaves: the answer tells whether a script was carried out
abbrev pub rooms_told : Sitting → Message → (rooms : List ℕ) → List ℕ
rooms_told sitting command rooms =
    let then = told sitting command in
    rooms_after then.rules sitting.state.values then.state.values (Answered Script (outcome_of sitting command).answer) rooms

unfoldable pub rooms_over : Sitting → List Message → (rooms : List ℕ) → List ℕ
rooms_over sitting [] rooms = rooms
rooms_over sitting (command ∷ commands) rooms = rooms_over (told sitting command) commands (rooms_told sitting command rooms)

-- beside a card as reading a set-up makes it, in cells that held anything
abbrev pub rooms_sat : Setup → List Message → (cells : List ℕ) → List ℕ
rooms_sat setup commands cells =
    let fresh = sat setup [] in
    rooms_over fresh commands (filled fresh.rules fresh.state.values cells)
