-- What the statements say at chosen inputs, worked out. Assumes nothing.
use mathlib.Core.Bool.{true, false, cond}
use mathlib.Core.List.{List, [], ◌∷◌, ◌++◌}
use Prim.Native.Nat.{ℕ}
use lib.Dec.{T, eqb}
use lib.ListN.{length, replicate, get_or}
use Rattle.wire.specs.Wire.{byte, number}
use Rattle.calendar.specs.Calendar.{date_at}
use Rattle.cpace.specs.declared.Cvm.{Cvm}
use Rattle.cpace.specs.declared.Cvm.TheVariants.{OnlinePin, Signature, NoCvm}
use Rattle.cpace.specs.Cpace.{cvm_at, cashback_at}
use Rattle.slot.specs.declared.Slots.{Slots}
use Rattle.setup.specs.Setup.{rules_in, fresh_in}
use Rattle.shape.specs.declared.Shape.{Shape}
use Rattle.shape.specs.declared.Family.TheVariants.{Cpa, Cpace}
use Rattle.shape.specs.Shape.{based, scripts, base_tail, selection_tail, syllabus_tail, dating_tail, family_tail, scripting_tail, tails_of, shape_of}
use Rattle.shape.specs.Shape.{tail_part, family_part}
use Rattle.paper.specs.Paper.{next_at, open_paper}
use Rattle.command.specs.declared.Command.TheVariants.{Start, First, Second}
use Rattle.command.specs.Command.{start_of, first_of, command_of, command_in}
use Rattle.state.specs.declared.Answer.TheVariants.{Refused as AnswerRefused, Started, Given, Done}
use Rattle.fresh.specs.Fresh.{fresh_state}
use Rattle.card.specs.Card.{step_of}
use Rattle.card.specs.Message.{Message, StartCommand, FirstCommand, SecondCommand, ScriptCommand}
use Rattle.records.specs.declared.Event.{Event}
use Rattle.records.specs.declared.Event.TheVariants.{SetUp, End, Refused, Answered}
use Rattle.records.specs.declared.Said.TheVariants.{Command, Script}
use Rattle.records.specs.Records.{answered_by, scripted_by, body_writes}
use Rattle.opening.specs.Opening.{begun_of}
use Rattle.conversation.specs.Conversation.{taken_of, taken_writes}
use Rattle.conversation.specs.Events.{events_from, events_of}
use Rattle.lines.specs.Lines.{digit, decimal, refusal_line}
use Rattle.lines.specs.Sitting.{lines_of, sitting_lines}
use Rattle.demands.specs.Conversation.{Sitting}
use Rattle.demands.proofs.Computed.{computed}
use Rattle.spelling.specs.Spelling.{big, record_of, by_name, undated, dated, cpa, cpace, Scripting, unscripted, scripted, Manner, unsaid, names, kind_of, body_of, spell}
use Rattle.spelling.specs.Sitting.{Read, sends, refuses, command_read, record_read}
use Rattle.spelling.proofs.Commands.{of}
use Rattle.spelling.specs.Printed.{printed, body}
use Rattle.papers.specs.Papers.{tails_in, entries_long, syllabus_in, cycles_in, family_in, scripts_in, front_of, Meaning, none, means, meant, walk}
use Rattle.std.specs.Prelude.{Err, None, Ok, Option, Result, Some}
use Rattle.calendar.specs.declared.Date.{Date}
use Rattle.refusal.specs.declared.Refusal.{Refusal}
use Rattle.selection.specs.declared.Selected.{Selected}
use Rattle.shape.specs.Shape.{span}

-- `events-are`: the events of two Starts, over the printed set-up, and the ATC that the last of them says
abbrev two_starts : List ℕ
two_starts = spell (names unsaid 1) ++ spell (names unsaid 1)

abbrev card : Sitting
card = record { rules = rules_in body [] [] 0; state = fresh_state (fresh_in body []); log = [] }

abbrev events : List Event
events = events_from 9 card.rules (based 159) card.state two_starts 0

abbrev chosen_in : Option Selected → ℕ
chosen_in (Some chosen) = chosen.profile
chosen_in None = 0

abbrev atc_in : Event → ℕ
atc_in SetUp = 0
atc_in End = 0
atc_in (Refused refusal) = 0
atc_in (Answered said (AnswerRefused refusal)) = 0
atc_in (Answered said (Started atc visits)) = atc
atc_in (Answered said (Given kind atc iad)) = atc
atc_in (Answered said Done) = 0

-- and the profile that the command of an event names
abbrev profile_in : Event → ℕ
profile_in SetUp = 0
profile_in End = 0
profile_in (Refused refusal) = 0
profile_in (Answered (Command (Start start)) answer) = chosen_in start.chosen
profile_in (Answered (Command (First first)) answer) = 0
profile_in (Answered (Command (Second second)) answer) = 0
profile_in (Answered Script answer) = 0

-- `setup-is`: the syllabus that is read of a version 03 set-up without a profile, selection off
abbrev latest : List ℕ
latest = replicate 52 0 ++ 0 ∷ 1 ∷ []

abbrev syllabus_read : Result Shape Refusal → ℕ
syllabus_read (Ok shape) = shape.syllabus
syllabus_read (Err refusal) = 9

-- `setup-is`: the day of the last date, read of a version 04 set-up without a profile, selection off, syllabus 0, dates on
abbrev dating : List ℕ
dating = replicate 52 0 ++ 0 ∷ 0 ∷ 1 ∷ 5 ∷ 7 ∷ 21 ∷ replicate 24 0

abbrev last_day : (cycles : List ℕ) → ℕ
last_day cycles = byte cycles 3

abbrev last_read : Result Shape Refusal → ℕ
last_read (Ok shape) = last_day (tail_part shape.dating dating)
last_read (Err refusal) = 9

-- `events-are`: the day of a First's date
abbrev first : List ℕ
first = 1 ∷ replicate 11 0 ++ 5 ∷ 7 ∷ 21 ∷ []

abbrev day_on : Option Date → ℕ
day_on None = 0
day_on (Some date) = date.day

abbrev on_days : Manner
on_days = of by_name dated cpa unscripted

abbrev day_of : Message → ℕ
day_of (StartCommand start) = 0
day_of (FirstCommand first) = day_on first.when
day_of (SecondCommand second) = 0
day_of (ScriptCommand result template) = 0

abbrev none-tested : Slots
none-tested = record { testable = false; amounts = []; counts = [] }

abbrev field_read : (Message → ℕ) → Read → ℕ
field_read field (sends m) = field m
field_read field (refuses refusal) = 98

abbrev field_meant : (Message → ℕ) → Meaning → ℕ
field_meant field none = 99
field_meant field (means m) = field m

-- `setup-is`: the control of accumulator 1, read of a version 05 set-up without a profile, selection off, syllabus 0, dates off, CPACE
abbrev controlling : List ℕ
controlling = replicate 52 0 ++ 0 ∷ 0 ∷ 0 ∷ 1 ∷ 5 ∷ replicate 7 0

abbrev first_control : (family : List ℕ) → ℕ
first_control family = byte family 1

abbrev control_read : Result Shape Refusal → ℕ
control_read (Ok shape) = first_control (family_part shape.family controlling)
control_read (Err refusal) = 98

-- `events-are`: whether a CPACE First has cashback, and its CVM by the bit in a control
abbrev presenting : List ℕ
presenting = 1 ∷ replicate 11 0 ++ 0x1E ∷ 3 ∷ 0 ∷ 1 ∷ replicate 5 0

abbrev shown_read : Read
shown_read = command_read (command_of None (Cpace 0 0) 3 presenting)

abbrev shown_meant : Meaning
shown_meant = meant (of by_name undated cpace unscripted) none-tested 3 presenting

abbrev cvm_bit : Cvm → ℕ
cvm_bit OnlinePin = 4
cvm_bit Signature = 2
cvm_bit NoCvm = 1

abbrev cvm_in : Message → ℕ
cvm_in (StartCommand start) = 0
cvm_in (FirstCommand first) = cvm_bit first.cvm
cvm_in (SecondCommand second) = 0
cvm_in (ScriptCommand result template) = 0

abbrev cashback_in : Message → ℕ
cashback_in (StartCommand start) = 0
cashback_in (FirstCommand first) = cond first.cashback 1 2
cashback_in (SecondCommand second) = 0
cashback_in (ScriptCommand result template) = 0

-- `setup-is`: whether scripts are on, read of a version 06 set-up without a profile, selection off, syllabus 0, dates off, CPA
abbrev issuing : List ℕ
issuing = replicate 52 0 ++ 0 ∷ 0 ∷ 0 ∷ 0 ∷ 1 ∷ []

abbrev scripts_read : Result Shape Refusal → ℕ
scripts_read (Ok shape) = cond shape.scripting 1 0
scripts_read (Err refusal) = 98

abbrev scripts_meant : Scripting → ℕ
scripts_meant unscripted = 0
scripts_meant scripted = 1

-- `events-are`: a script's result and the last byte of its template, and the ATC of a Start behind it
abbrev issued : List ℕ
issued = 1 ∷ 0x71 ∷ 1 ∷ 0 ∷ []

abbrev scriptly : Shape
scriptly = scripts (based 159) true

abbrev issued_read : Read
issued_read = record_read scriptly card.state.values [] 5 issued

abbrev issued_meant : Meaning
issued_meant = meant (of by_name undated cpa scripted) none-tested 5 issued

abbrev result_of : Message → ℕ
result_of (StartCommand start) = 97
result_of (FirstCommand first) = 97
result_of (SecondCommand second) = 97
result_of (ScriptCommand result template) = result

abbrev last_of : Message → ℕ
last_of (StartCommand start) = 97
last_of (FirstCommand first) = 97
last_of (SecondCommand second) = 97
last_of (ScriptCommand result template) = get_or template 2 97

abbrev behind_script : List Event
behind_script = events_from 9 card.rules scriptly card.state (record_of 5 issued ++ spell (names unsaid 1)) 0

-- `lines_are`: the number that a line begins with, where it has one digit
abbrev number_of : List (List ℕ) → (place : ℕ) → ℕ
number_of lines place = byte (get_or lines place []) 0

pub record Samples : Type 0 where
  pub each_record : T (eqb (length events) (length (walk 9 (of by_name undated cpa unscripted) card two_starts).commands))
  pub latest_card : T (eqb (atc_in (get_or events 1 End)) 2)
  pub its-command : T (eqb (profile_in (get_or events 1 End)) 1)
  pub numbered_from_0 : T (eqb (number_of (sitting_lines [] []) 0) 0x30)
  pub rising_by_1 : T (eqb (number_of (lines_of 0 (SetUp ∷ SetUp ∷ [])) 1) 0x31)
  pub syllabus_1 : T (eqb (syllabus_read (shape_of 3 latest)) (syllabus_in (tails_in latest)))
  pub last-day : T (eqb (last_read (shape_of 4 dating)) (last_day (cycles_in 0 (tails_in dating))))
  pub first-day : T (eqb (field_read day_of (command_read (command_of (Some (span 0 0)) Cpa 3 first))) (field_meant day_of (meant on_days none-tested 3 first)))
  pub first_control_lem : T (eqb (control_read (shape_of 5 controlling)) (first_control (family_in 0 (tails_in controlling))))
  pub first_cvm : T (eqb (field_read cvm_in shown_read) (field_meant cvm_in shown_meant))
  pub first_cashback : T (eqb (field_read cashback_in shown_read) (field_meant cashback_in shown_meant))
  pub scripts-on : T (eqb (scripts_read (shape_of 6 issuing)) (scripts_meant (scripts_in 0 (tails_in issuing))))
  pub script_result : T (eqb (field_read result_of issued_read) (field_meant result_of issued_meant))
  pub script-template : T (eqb (field_read last_of issued_read) (field_meant last_of issued_meant))
  pub behind-script : T (eqb (atc_in (get_or behind_script 1 End)) 1)

pub samples : Samples
unfolding computed printed open_paper next_at command_in command_of start_of kind_of body_of record_of big events_from events_of taken_of answered_by scripted_by body_writes taken_writes begun_of
    sitting_lines lines_of refusal_line decimal digit shape_of tails_of base_tail selection_tail syllabus_tail dating_tail walk front_of meant entries_long
    first_of date_at cvm_at cashback_at number family_tail scripting_tail step_of
samples =
    record {
      each_record = tt;
      latest_card = tt;
      its-command = tt;
      numbered_from_0 = tt;
      rising_by_1 = tt;
      syllabus_1 = tt;
      last-day = tt;
      first-day = tt;
      first_control_lem = tt;
      first_cvm = tt;
      first_cashback = tt;
      scripts-on = tt;
      script_result = tt;
      script-template = tt;
      behind-script = tt;
    }
