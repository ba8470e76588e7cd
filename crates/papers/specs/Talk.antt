-- What is said in a paper's sitting: its events as exchanges, and the card between them.
use Rattle.std.specs.Prelude.{Bool, cond, ◌≡◌, List, [], ◌∷◌, ◌++◌, ℕ, zero, suc}
use Rattle.refusal.specs.declared.Refusal.{Refusal}
use Rattle.refusal.specs.declared.Refusal.TheVariants.{Unreadable, PastData}
use Rattle.refusal.specs.Refusal.{refusal_number}
use Rattle.rules.specs.Rules.{Rules, rules_of}
use Rattle.shape.specs.declared.Shape.{Shape}
use Rattle.state.specs.declared.Answer.{Answer}
use Rattle.state.specs.declared.State.{State}
use Rattle.script.specs.Script.{rules_after}
use Rattle.card.specs.Message.{Message}
use Rattle.records.specs.declared.Event.{Event}
use Rattle.records.specs.declared.Event.TheVariants.{SetUp, Refused, Answered}
use Rattle.records.specs.declared.Said.{Said}
use Rattle.records.specs.declared.Said.TheVariants.{Command, Script}
use Rattle.opening.specs.Opening.{begun_of, words_begun}
use Rattle.conversation.specs.Conversation.{taken_of, taken_writes}
use Rattle.conversation.specs.Events.{events_of}
use Rattle.demands.specs.Setup.{Setup}
use Rattle.demands.specs.Conversation.{Exchange, sat}
use Rattle.spelling.specs.Faults.{OpenFault, Opens}
use Rattle.spelling.specs.Sitting.{said_of}
use Rattle.rows.specs.Whole.{IsInRange, IsPast}
use Rattle.papers.specs.Papers.{setup_of, Accepted, commands_of, faulty}

-- a command and its answer as an event
abbrev pub answered : Exchange → Event
answered exchange = Answered (said_of exchange.command) exchange.answer

abbrev pub all_answered : List Exchange → List Event
all_answered [] = []
all_answered (exchange ∷ more) = answered exchange ∷ all_answered more

-- turned round, the newest first or the oldest, in front of others
abbrev pub turned : List Exchange → List Exchange → List Exchange
turned [] others = others
turned (exchange ∷ more) others = turned more (exchange ∷ others)

-- all that is said in a sitting over these commands, the oldest first
unfoldable pub talk : Setup → List Message → List Exchange
talk setup commands = turned (sat setup commands).log []

-- behind them nothing, or refusal 9
abbrev pub ending : (fault : Bool) → List Event
ending fault = cond fault (Refused Unreadable ∷ []) []

-- THE EVENTS OF AN ACCEPTED PAPER: the set-up's, one for each command with the answer that it gets, and the ending
abbrev pub events_by : (paper : List ℕ) → List Event
events_by paper = SetUp ∷ (all_answered (talk (setup_of paper) (commands_of paper)) ++ ending (faulty paper))

-- what was said to the card
abbrev pub commands_in : List Exchange → List Message
commands_in [] = []
commands_in (exchange ∷ more) = exchange.command ∷ commands_in more

-- a paper's events, cut behind some answers, the oldest first, with the paper's own commands: of a script an event tells no byte
pub record CutBehind (words paper : List ℕ) (before : List Exchange) (more : List Event) : Type 0 where
  pub events : events_of words paper ≡ SetUp ∷ (all_answered before ++ more)
  pub left : List Message
  pub commands : commands_of paper ≡ commands_in before ++ left

-- and behind one more, a command and its answer
abbrev pub CutBehindOne : (words paper : List ℕ) (before : List Exchange) (command : Message) (answer : Answer) (more : List Event) → Type 0
CutBehindOne words paper before command answer more = CutBehind words paper (before ++ record { command = command; answer = answer } ∷ []) more

-- no script is among them: then the events alone say where they are cut
abbrev pub IsCommand : Said → Type 0
IsCommand (Command command) = Unit
IsCommand Script = ⊥

abbrev pub Plain : List Exchange → Type 0
Plain [] = Unit
Plain (exchange ∷ more) = IsCommand (said_of exchange.command) × Plain more

-- the conversation so far, the newest first, as the demands read it
abbrev pub newest : List Exchange → List Exchange
newest before = turned before []

-- THE CARD AFTER n COMMANDS: the conversation's own, n turns from the set-up on, each by the rules that the one before left
unfoldable pub turns : ℕ → Rules → Shape → State → (paper : List ℕ) (at : ℕ) → State
turns zero rules shape state paper at = state
turns (suc n) rules shape state paper at =
    let taken = taken_of rules shape state paper at in
    turns n (rules_after rules (taken_writes shape state paper at)) shape taken.state paper taken.at

unfoldable pub card_after : (words paper : List ℕ) (n : ℕ) → State
card_after words paper n =
    let begun = begun_of paper in
    turns n (rules_of (words_begun words paper)) begun.shape begun.state paper begun.at

-- a paper and its events: it does not open, 9; its set-up's fields are not all in their ranges, 1; they are, but a table of its log reaches past its
-- data, 14; or it is accepted
pub data Heard (words paper : List ℕ) : Type 0 where
  unread : OpenFault paper → events_of words paper ≡ Refused Unreadable ∷ [] → Heard words paper
  not_set_up : (version : ℕ) (body rest : List ℕ) → Opens paper version body rest → (IsInRange version body → ⊥)
      → (refusal : Refusal) → refusal_number refusal ≡ 1 → events_of words paper ≡ Refused refusal ∷ [] → Heard words paper
  past_data : (version : ℕ) (body rest : List ℕ) → Opens paper version body rest → IsPast version body
      → events_of words paper ≡ Refused PastData ∷ [] → Heard words paper
  heard : Accepted paper → events_of words paper ≡ events_by paper → Heard words paper
