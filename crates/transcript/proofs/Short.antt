-- How long the lines of a paper are: no record of k bytes has a line of more than 8 k. Assumes nothing.
use mathlib.Core.Path.{◌≡◌, refl}
use mathlib.Core.Bool.{Bool, true, false, cond, ◌&&◌}
use mathlib.Core.List.{List, [], ◌∷◌}
use Prim.Native.Nat.{ℕ, ◌+◌, ◌*◌, ◌-◌, ◌≤◌}
use native.Mathlib.Omega.{arith}
use borrow.Author.Tests.{eqb-true}
use lib.Dec.{eqb}
use lib.ListN.{length}
use Rattle.refusal.specs.declared.Refusal.TheVariants.{Unreadable}
use Rattle.rules.specs.declared.Place.{Place}
use Rattle.rules.specs.Rules.{Rules}
use Rattle.shape.specs.declared.Family.{Family}
use Rattle.shape.specs.declared.Shape.{Shape}
use Rattle.paper.specs.declared.Next.{Next}
use Rattle.paper.specs.declared.Next.TheVariants.{Record, Fault, End as PaperEnd}
use Rattle.paper.specs.Paper.{next_at}
use Rattle.paper.specs.Walk.{part}
use Rattle.paper.proofs.Walk.{inside}
use Rattle.slot.specs.declared.Slots.{Slots}
use Rattle.selection.specs.Selection.{selection_of, visits_of}
use Rattle.command.specs.declared.Start.{Start}
use Rattle.command.specs.declared.Command.{Command}
use Rattle.command.specs.declared.Command.TheVariants.{Start as StartCommand, First as FirstCommand, Second as SecondCommand}
use Rattle.command.specs.Command.{is_cpace, interface_of, start_length, start_of, plain_length, first_length, first_of, second_of, command_of}
use Rattle.command.specs.Command.{start_selected, selecting_of, slots_of, file_in, read_by, command_in}
use Rattle.state.specs.declared.State.{State}
use Rattle.state.specs.Ruling.{Ruling, take as rule, refuse, carried}
use Rattle.card.specs.Card.{rule_start, start_performed, start_step, step_of}
use Rattle.scripting.specs.Scripting.{rule_script, script_performed, script_step}
use Rattle.records.specs.declared.Event.{Event}
use Rattle.records.specs.declared.Event.TheVariants.{SetUp, End, Refused, Answered}
use Rattle.records.specs.declared.Taken.{Taken as TakenRecord}
use Rattle.records.specs.Records.{answered_by, scripted_by, is_script}
use Rattle.conversation.specs.Conversation.{next_taken, taken_of}
use Rattle.opening.proofs.Parts.{part_length}
use Rattle.lines.specs.Sitting.{answer_line}
use Rattle.lines.proofs.Short.{NotGiven, not_given_short, answer-short}
use Rattle.std.specs.Prelude.{Err, None, Ok, Option, Result, Some}
use Rattle.refusal.specs.declared.Refusal.{Refusal}
use Rattle.selection.specs.declared.Selected.{Selected}
use Rattle.shape.specs.declared.SelectionFile.{SelectionFile}
use Rattle.shape.specs.declared.Span.{Span}

-- ---- a command

-- Start gives no cryptogram; First has a body of 12 bytes or more and Second one of 8
abbrev Sized : Command → (bytes : ℕ) → Type 0
Sized (StartCommand start) bytes = Unit
Sized (FirstCommand first) bytes = 12 ≤ bytes
Sized (SecondCommand second) bytes = bytes ≡ 8

abbrev SizedIn : Result Command Refusal → (bytes : ℕ) → Type 0
SizedIn (Err refusal) bytes = Unit
SizedIn (Ok command) bytes = Sized command bytes

second_of_both : (a b : Bool) → (a && b) ≡ true → b ≡ true
second_of_both true b e = e
second_of_both false b e = absurd (let z : ◌≡◌ {A = ℕ} 0 1 = cc in omega arith)

-- with or without its date, and what a CPACE card asks
plain_length_lem : (dating : Option Span) → 12 ≤ plain_length dating
plain_length_lem None = omega arith
plain_length_lem (Some part) = omega arith

first_length_lem : (dating : Option Span) (family : Family) → 12 ≤ first_length dating family
first_length_lem dating family = by (is_cpace family) where
  by : (b : Bool) → 12 ≤ cond b (plain_length dating + 9) (plain_length dating)
  by true = omega (arith, plain_length_lem dating)
  by false = plain_length_lem dating

module _ (dating : Option Span) (family : Family) (kind : ℕ) (body : List ℕ) where
  abbrev IsFirst : Bool
  IsFirst = eqb kind 3 && eqb (length body) (first_length dating family)

  abbrev IsSecond : Bool
  IsSecond = eqb kind 4 && eqb (length body) 8

  sized-by-kind : SizedIn (command_of dating family kind body) (length body)
  unfolding command_of
  sized-by-kind = by (eqb kind 2 && eqb (length body) (start_length family)) IsFirst IsSecond refl refl where
    by : (start first second : Bool) → IsFirst ≡ first → IsSecond ≡ second
        → SizedIn
        (cond start (Ok (StartCommand (start_of family body)))
        (cond first (Ok (FirstCommand (first_of dating family body))) (cond second (Ok (SecondCommand (second_of body))) (Err Unreadable))))
        (length body)
    by true first second e f = tt
    by false true second e f =
        let size = eqb-true (length body) (first_length dating family) (second_of_both (eqb kind 3) (eqb (length body) (first_length dating family)) e) in
        omega (arith, first_length_lem dating family)
    by false false true e f = eqb-true (length body) 8 (second_of_both (eqb kind 4) (eqb (length body) 8) f)
    by false false false e f = tt

  sized_selected : (chosen : Option Selected) → SizedIn (start_selected family chosen body) (length body)
  unfolding start_selected
  sized_selected chosen = by (is_cpace family && eqb (length body) 0) where
    by : (b : Bool) → SizedIn (cond b (Err Unreadable) (Ok (StartCommand (record { interface = interface_of family body; chosen = chosen }))))
        (length body)
    by true = tt
    by false = tt

  sized : (selecting : Option SelectionFile) (slots : Slots) (paper : List ℕ) → SizedIn (read_by selecting dating family slots paper kind body) (length body)
  unfolding selecting_of
  sized None slots paper = sized-by-kind
  sized (Some part) slots paper = by (eqb kind 2) refl where
    by : (b : Bool) → eqb kind 2 ≡ b → SizedIn (selecting_of dating family slots (file_in paper part.start part.end) part.entries kind body) (length body)
    by true e = rw e (sized_selected (selection_of (file_in paper part.start part.end) part.entries body slots))
    by false e = rw e sized-by-kind

module _ (rules : Rules) (state : State) where
  start_gives_none : (start : Start) → NotGiven (step_of rules state (StartCommand start)).answer
  unfolding step_of start_step
  start_gives_none start = by (rule_start rules state.atc start) where
    by : (ruling : Ruling Place) → NotGiven (carried state (start_performed state (visits_of start.chosen)) ruling).answer
    by (refuse refusal) = tt
    by (rule place) = tt

  script_gives_none : (result : ℕ) (template : List ℕ) → NotGiven (script_step state result template).answer
  unfolding script_step script_performed
  script_gives_none result template = by (rule_script state.phase result template) where
    by : (ruling : Ruling Bool) → NotGiven (carried state (script_performed state template) ruling).answer
    by (refuse refusal) = tt
    by (rule verified) = tt

  -- a command of a record of some bytes has a line of at most 8 for each
  command-short : (number bytes : ℕ) (command : Command) → Sized command bytes
      → length (answer_line number (step_of rules state command).answer) ≤ 8 * (3 + bytes)
  command-short number bytes (StartCommand start) s =
      omega (arith, not_given_short number (step_of rules state (StartCommand start)).answer (start_gives_none start))
  command-short number bytes (FirstCommand first) s = omega (arith, answer-short number (step_of rules state (FirstCommand first)).answer)
  command-short number bytes (SecondCommand second) s = omega (arith, answer-short number (step_of rules state (SecondCommand second)).answer)

-- ---- a record

abbrev pub LineOf : ℕ → Event → ℕ → Type 0
LineOf number SetUp bytes = Unit
LineOf number End bytes = Unit
LineOf number (Refused refusal) bytes = Unit
LineOf number (Answered said answer) bytes = (3 ≤ bytes) × (length (answer_line number answer) ≤ 8 * bytes)

pub record_short : (rules : Rules) (shape : Shape) (state : State) (paper : List ℕ) (at number : ℕ)
    → LineOf number (taken_of rules shape state paper at).event ((taken_of rules shape state paper at).at - at)
unfolding taken_of answered_by scripted_by
record_short rules shape state paper at number = by (next_at paper at) refl where
  by_read : (end bytes : ℕ) (read : Result Command Refusal) → SizedIn read bytes → end - at ≡ 3 + bytes
      → LineOf number (answered_by rules state end read).event ((answered_by rules state end read).at - at)
  by_read end bytes (Err refusal) s e = tt
  by_read end bytes (Ok command) s e = (omega arith, omega (arith, command-short rules state number bytes command s))

  by-body : (end : ℕ) (body : List ℕ) → 3 ≤ end - at → LineOf number (scripted_by state body end).event ((scripted_by state body end).at - at)
  by-body end [] e = tt
  by-body end (result ∷ template) e =
      (e, omega (arith, not_given_short number (script_step state result template).answer (script_gives_none rules state result template)))

  by_kind : (b : Bool) (x y : TakenRecord) → LineOf number x.event (x.at - at) → LineOf number y.event (y.at - at)
      → LineOf number (cond b x y).event ((cond b x y).at - at)
  by_kind true x y h l = h
  by_kind false x y h l = l

  by : (next : Next) → next_at paper at ≡ next
      → LineOf number (next_taken rules shape state paper at next).event ((next_taken rules shape state paper at next).at - at)
  by PaperEnd e = tt
  by Fault e = tt
  by (Record kind start end) e =
      let i = inside paper at kind start end e in
      let size = part_length paper start end (omega (arith, i.holds, i.start_is)) i.fits in
      let holds = i.holds in
      let begins = i.start_is in
      by_kind (is_script shape kind) _ _ (by-body end (part paper start end) (omega arith))
      (by_read end (length (part paper start end)) (command_in shape state.values paper kind (part paper start end))
      (unfold command_in in sized shape.dating shape.family kind (part paper start end) shape.selecting (slots_of shape.family state.values) paper)
      (omega arith))
