-- What is said in a paper, where it stands and what is answered (document 02, Eight): of the commands and not of their bytes, of the answers and not
-- of their lines.
use Rattle.std.specs.Prelude.{ℕ, zero, suc, ◌+◌, Bool, true, false, List, [], ◌∷◌}
use Rattle.rules.specs.Rules.{Rules}
use Rattle.shape.specs.declared.Shape.{Shape}
use Rattle.command.specs.declared.Command.TheVariants.{Start as StartCommand, First as FirstCommand, Second as SecondCommand}
use Rattle.state.specs.declared.Kind.TheVariants.{Aac, Tc, Arqc}
use Rattle.state.specs.declared.Answer.{Answer}
use Rattle.state.specs.declared.Answer.TheVariants.{Refused as AnswerRefused, Started, Given, Done}
use Rattle.state.specs.declared.State.{State}
use Rattle.script.specs.Script.{rules_after}
use Rattle.records.specs.declared.Said.{Said}
use Rattle.records.specs.declared.Said.TheVariants.{Command as SaidCommand, Script}
use Rattle.records.specs.declared.Event.{Event}
use Rattle.records.specs.declared.Event.TheVariants.{SetUp, End, Refused, Answered}
use Rattle.conversation.specs.Conversation.{taken_of, taken_writes}
use Rattle.journal.specs.declared.Heard.{Heard}
use Rattle.journal.specs.declared.Heard.TheVariants.{First, Second, Other}
use Rattle.journal.specs.Logged.{Seen}

-- what a log hears of what was said: First, and Second with its response code; Start and scripts are nothing to it
abbrev pub heard_of : Said → Heard
heard_of (SaidCommand (StartCommand start)) = Other
heard_of (SaidCommand (FirstCommand first)) = First
heard_of (SaidCommand (SecondCommand second)) = Second second.code
heard_of Script = Other

-- an answer that closes a transaction: a TC or an AAC
abbrev pub is_closing : Answer → Bool
is_closing (AnswerRefused refusal) = false
is_closing (Started atc visits) = false
is_closing (Given Aac atc iad) = true
is_closing (Given Tc atc iad) = true
is_closing (Given Arqc atc iad) = false
is_closing Done = false

-- the record at a place is answered, its body standing behind its length (2) and its kind (1), and then those behind it
abbrev pub seen_then : (at : ℕ) → Event → List Seen → List Seen
seen_then at SetUp more = more
seen_then at End more = []
seen_then at (Refused refusal) more = []
seen_then at (Answered said answer) more = record { said = heard_of said; at = at + 3; answer = answer } ∷ more

-- THE RECORDS THAT ARE ANSWERED of n from a place on, the oldest first; the rules are then those that the record left
unfoldable pub seen_from : ℕ → Rules → Shape → State → (paper : List ℕ) (at : ℕ) → List Seen
seen_from zero rules shape state paper at = []
seen_from (suc n) rules shape state paper at =
    let taken = taken_of rules shape state paper at in
    seen_then at taken.event (seen_from n (rules_after rules (taken_writes shape state paper at)) shape taken.state paper taken.at)

-- no refusal ended the paper
abbrev pub goes_on : Event → Bool → Bool
goes_on SetUp more = more
goes_on End more = true
goes_on (Refused refusal) more = false
goes_on (Answered said answer) more = more

unfoldable pub is_whole : List Event → Bool
is_whole [] = true
is_whole (event ∷ more) = goes_on event (is_whole more)
