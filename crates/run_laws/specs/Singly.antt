-- The records of a run as messages, sent singly (document 02, Eleven).
use Rattle.std.specs.Prelude.{ℕ, ◌/◌, ◌%◌, cond, List, [], ◌∷◌, ◌++◌, length, replicate, Err, Ok, Result}
use Rattle.refusal.specs.Refusal.{refusal_number}
use Rattle.iad.specs.Iad.{written}
use Rattle.shape.specs.declared.Shape.{Shape}
use Rattle.paper.specs.Walk.{Met}
use Rattle.command.specs.declared.Command.TheVariants.{Start, First, Second}
use Rattle.command.specs.Command.{command_in}
use Rattle.state.specs.declared.State.{State}
use Rattle.state.specs.declared.Answer.{Answer}
use Rattle.state.specs.declared.Answer.TheVariants.{Refused as AnswerRefused, Started, Given, Done}
use Rattle.state.specs.State.{cid_of}
use Rattle.records.specs.Records.{is_script}
use Rattle.card.specs.Message.{Message, StartCommand, FirstCommand, SecondCommand, ScriptCommand}
use Rattle.demands.specs.Conversation.{Sitting, outcome_of, told}
use Rattle.runs.specs.Runs.{Card, card_behind}
use Rattle.command.specs.declared.Command.{Command}
use Rattle.refusal.specs.declared.Refusal.{Refusal}

-- AN ANSWER in 36 numbers: refusal, CID, ATC with its high byte first, IAD
abbrev pub spelled : Answer → List ℕ
spelled (AnswerRefused refusal) = refusal_number refusal ∷ 0 ∷ 0 ∷ 0 ∷ replicate 32 0
spelled (Started atc visits) = 0 ∷ 0 ∷ atc / 256 ∷ atc % 256 ∷ replicate 32 0
spelled (Given kind atc iad) = 0 ∷ cid_of kind ∷ atc / 256 ∷ atc % 256 ∷ written iad (replicate 32 0)
spelled Done = 0 ∷ 0 ∷ 0 ∷ 0 ∷ replicate 32 0

-- the answers to messages, one behind the other
unfoldable pub answers_over : Sitting → List Message → List ℕ
answers_over sitting [] = []
answers_over sitting (message ∷ more) = spelled (outcome_of sitting message).answer ++ answers_over (told sitting message) more

-- the message that a record carries; one that cannot be read carries none, and stands for an empty script
abbrev pub command_sent : Result Command Refusal → Message
command_sent (Ok (Start start)) = StartCommand start
command_sent (Ok (First first)) = FirstCommand first
command_sent (Ok (Second second)) = SecondCommand second
command_sent (Err refusal) = ScriptCommand 0 []

abbrev pub script_sent : (body : List ℕ) → Message
script_sent [] = ScriptCommand 0 []
script_sent (result ∷ template) = ScriptCommand result template

module _ (shape : Shape) (paper : List ℕ) where
  abbrev pub sent_by : State → Met → Message
  sent_by state met =
      cond (is_script shape met.kind) (script_sent met.body) (command_sent (command_in shape state.values paper met.kind met.body))

  -- those of records, one after the other on the card that the one before left
  unfoldable pub messages_of : Card → List Met → List Message
  messages_of card [] = []
  messages_of card (met ∷ more) = sent_by card.state met ∷ messages_of (card_behind shape paper card met) more

-- a card in the middle of a conversation, of which nothing is remembered
abbrev pub seated : Card → Sitting
seated card = record { rules = card.rules; state = card.state; log = [] }
