-- What the readers make of a place in a paper, and the lines of a conversation.
use Rattle.std.specs.Prelude.{◌≡◌, cond, List, [], ◌∷◌, ◌++◌, ℕ, ◌+◌, ◌≤◌, length, drop, Err, None, Ok, Option, Result, Some}
use Rattle.rules.specs.Rules.{Rules}
use Rattle.rules.specs.declared.Values.{Values}
use Rattle.slot.specs.declared.Slots.{Slots}
use Rattle.setup.specs.declared.ReadSetup.{ReadSetup}
use Rattle.setup.specs.Setup.{read_setup, setup_number, rules_in, fresh_in}
use Rattle.refusal.specs.declared.Refusal.{Refusal}
use Rattle.refusal.specs.declared.Refusal.TheVariants.{Unreadable}
use Rattle.refusal.specs.Refusal.{refusal_number}
use Rattle.shape.specs.declared.Shape.{Shape}
use Rattle.shape.specs.Shape.{base_part, tail_part, family_part, shape_of, shape_number}
use Rattle.paper.specs.declared.Next.{Next}
use Rattle.paper.specs.declared.Next.TheVariants.{Record, Fault, End}
use Rattle.paper.specs.Paper.{next_at, next_number}
use Rattle.paper.specs.Walk.{part}
use Rattle.command.specs.declared.Command.TheVariants.{Start, First, Second}
use Rattle.command.specs.Command.{command_in}
use Rattle.state.specs.declared.State.{State}
use Rattle.script.specs.Script.{rules_after}
use Rattle.fresh.specs.Fresh.{fresh_state}
use Rattle.card.specs.Message.{Message, StartCommand, FirstCommand, SecondCommand, ScriptCommand, message_step, message_writes}
use Rattle.opening.specs.Opening.{log_judged}
use Rattle.lines.specs.Lines.{refusal_line}
use Rattle.records.specs.declared.Event.{Event}
use Rattle.records.specs.declared.Event.TheVariants.{Refused as EndRefused, Answered}
use Rattle.records.specs.declared.Said.{Said}
use Rattle.records.specs.declared.Said.TheVariants.{Command, Script}
use Rattle.records.specs.Records.{is_script}
use Rattle.lines.specs.Sitting.{answer_line, sitting_lines}
use Rattle.spelling.specs.Spelling.{Sent, spell, spell_all, Manner, manner_in, Fits, AllFit, slots_in, stands_for}
use Rattle.spelling.specs.Faults.{OpenFault, Opens, RestFault}
use Rattle.command.specs.declared.Command.{Command as Sending}
use Rattle.log_tail.specs.declared.Fault.TheVariants.{PastData}
use Rattle.log_tail.specs.declared.Fault.TheVariants.{Wrong}
use Rattle.shape.specs.declared.SelectionFile.{SelectionFile}

-- what a record is read as: a message, or it is refused
pub data Read : Type 0 where
  sends : Message → Read
  refuses : Refusal → Read

abbrev pub command_read : Result Sending Refusal → Read
command_read (Ok (Start start)) = sends (StartCommand start)
command_read (Ok (First first)) = sends (FirstCommand first)
command_read (Ok (Second second)) = sends (SecondCommand second)
command_read (Err refusal) = refuses refusal

-- a script's body is its result and its template
abbrev pub script_read : (body : List ℕ) → Read
script_read [] = refuses Unreadable
script_read (result ∷ template) = sends (ScriptCommand result template)

abbrev pub record_read : Shape → Values → List ℕ → (kind : ℕ) (body : List ℕ) → Read
record_read shape values s kind body = cond (is_script shape kind) (script_read body) (command_read (command_in shape values s kind body))

-- what is read at a place, by the card's values: the paper's end, a refusal, or a message and the place behind it
pub data Reading : Type 0 where
  over : Reading
  refused : (number : ℕ) → Reading
  message : Message → (end : ℕ) → Reading

abbrev pub reading_of : (end : ℕ) → Read → Reading
reading_of end (sends m) = message m end
reading_of end (refuses refusal) = refused (refusal_number refusal)

abbrev pub reading_in : Shape → Values → List ℕ → Next → Reading
reading_in shape values s End = over
reading_in shape values s Fault = refused (next_number Fault)
reading_in shape values s (Record kind start end) = reading_of end (record_read shape values s kind (part s start end))

unfoldable pub reading : Shape → Values → (paper : List ℕ) (at : ℕ) → Reading
reading shape values s at = reading_in shape values s (next_at s at)

-- the file lies in the paper
abbrev pub Lies : Option SelectionFile → List ℕ → Type 0
Lies None s = Unit
Lies (Some part) s = (part.start ≤ part.end) × (part.end ≤ length s)

-- from a place to an end stands, spelled, what was sent, and it stands for a message
pub record Spelled (manner : Manner) (slots : Slots) (s : List ℕ) (at : ℕ) (m : Message) (end : ℕ) : Type 0 where
  pub sent : Sent
  pub fits : Fits manner sent
  pub stands : stands_for manner slots sent ≡ m
  pub is : drop at s ≡ spell sent ++ drop end s
  pub ends : end ≡ at + length (spell sent)

-- a set-up's base, read with the tails of versions 04 and 05
abbrev pub setup_from : Shape → (body : List ℕ) → ReadSetup
setup_from shape body = read_setup (base_part shape body) (tail_part shape.dating body) (family_part shape.family body) shape.unnamed

-- the set-up is taken: its shape, its base with those tails, and its log
pub record SetUp (version : ℕ) (body : List ℕ) (shape : Shape) : Type 0 where
  pub shape_is : shape_of version body ≡ Ok shape
  pub base : (setup_from shape body).answer ≡ Ok tt
  pub log : log_judged shape body ≡ Ok tt

-- or its shape is refused, or its base, or its log's settings
pub data NotSetUp (version : ℕ) (body : List ℕ) : Type 0 where
  no_shape : shape_number (shape_of version body) ≡ 1 → NotSetUp version body
  no_base : (shape : Shape) → shape_of version body ≡ Ok shape → setup_number (setup_from shape body).answer ≡ 1
      → NotSetUp version body
  no_log : (shape : Shape) → shape_of version body ≡ Ok shape → log_judged shape body ≡ Err Wrong → NotSetUp version body

-- or all of it is right, but that a table of its log reaches past its data
pub record PastSetUp (version : ℕ) (body : List ℕ) : Type 0 where
  pub shape : Shape
  pub shape_is : shape_of version body ≡ Ok shape
  pub base : (setup_from shape body).answer ≡ Ok tt
  pub log : log_judged shape body ≡ Err PastData

-- the rules that a message leaves
abbrev pub rules_left : Rules → State → Message → Rules
rules_left rules state m = rules_after rules (message_writes state m)

-- the message that what is sent stands for at a card, and those of a list, one after the other from a state on
abbrev pub stands_at : Manner → State → Sent → Message
stands_at manner state x = stands_for manner (slots_in manner.family state.values) x

unfoldable pub all_stand_for : Rules → Manner → State → List Sent → List Message
all_stand_for rules manner state [] = []
all_stand_for rules manner state (x ∷ xs) =
    let m = stands_at manner state x in
    m ∷ all_stand_for (rules_left rules state m) manner (message_step rules state m).state xs

-- what an event says of a message
abbrev pub said_of : Message → Said
said_of (StartCommand start) = Command (Start start)
said_of (FirstCommand first) = Command (First first)
said_of (SecondCommand second) = Command (Second second)
said_of (ScriptCommand result template) = Script

-- the events of a list of messages, one after the other from a state on
unfoldable pub happened : Rules → State → List Message → List Event
happened rules state [] = []
happened rules state (m ∷ ms) =
    let outcome = message_step rules state m in
    Answered (said_of m) outcome.answer ∷ happened (rules_left rules state m) outcome.state ms

-- the lines of the answers to a list of messages, one after the other from a state on, with their numbers
unfoldable pub answers : Rules → State → (number : ℕ) → List Message → List (List ℕ)
answers rules state number [] = []
answers rules state number (m ∷ ms) =
    let outcome = message_step rules state m in
    answer_line number outcome.answer ∷ answers (rules_left rules state m) outcome.state (number + 1) ms

-- behind the last message a paper ends, or a fault stands
pub data Ends (manner : Manner) (s : List ℕ) : Type 0 where
  ended : s ≡ [] → Ends manner s
  faulty : RestFault manner s → Ends manner s

-- and then nothing more happens, or refusal 9
abbrev pub last_events : {manner : Manner} {s : List ℕ} → Ends manner s → List Event
last_events (ended is) = []
last_events (faulty fault) = EndRefused Unreadable ∷ []

-- and there is no line more, or the one line with refusal 9
abbrev pub last_lines : {manner : Manner} {s : List ℕ} → Ends manner s → (number : ℕ) → List (List ℕ)
last_lines (ended is) number = []
last_lines (faulty fault) number = refusal_line number 9 ∷ []

-- the rules and the fresh card of a set-up
abbrev pub rules_from : Shape → (body : List ℕ) → Rules
rules_from shape body =
    rules_in (base_part shape body) (tail_part shape.dating body) (family_part shape.family body) shape.syllabus

abbrev pub card_from : Shape → (body : List ℕ) → State
card_from shape body = fresh_state (fresh_in (base_part shape body) (tail_part shape.dating body))

-- the lines of a paper whose set-up is taken: the set-up's, those of the conversation, and perhaps the one of refusal 9
abbrev pub sitting_of : Shape → (body : List ℕ) {manner : Manner} (xs : List Sent) {rest : List ℕ} → Ends manner rest → List (List ℕ)
sitting_of shape body {manner} xs ends =
    let rules = rules_from shape body in
    let card = card_from shape body in
    refusal_line 0 0 ∷ (answers rules card 1 (all_stand_for rules manner card xs) ++ last_lines ends (1 + length xs))

-- a paper and its lines
pub data Sat (words s : List ℕ) : Type 0 where
  unread : OpenFault s → sitting_lines words s ≡ refusal_line 0 9 ∷ [] → Sat words s
  not_set_up : (version : ℕ) (body rest : List ℕ) → Opens s version body rest → NotSetUp version body
      → sitting_lines words s ≡ refusal_line 0 1 ∷ [] → Sat words s
  past_data : (version : ℕ) (body rest : List ℕ) → Opens s version body rest → PastSetUp version body
      → sitting_lines words s ≡ refusal_line 0 14 ∷ [] → Sat words s
  sat : (version : ℕ) (body : List ℕ) (shape : Shape) → SetUp version body shape
      → (xs : List Sent) (rest : List ℕ) → AllFit (manner_in shape body) xs → (ends : Ends (manner_in shape body) rest)
      → Opens s version body (spell_all xs ++ rest) → sitting_lines words s ≡ sitting_of shape body xs ends → Sat words s
