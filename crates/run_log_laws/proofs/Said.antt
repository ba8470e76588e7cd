-- What a log hears of a run's record, by its kind and its body, is what its command says. Assumes nothing.
use mathlib.Core.Path.{◌≡◌, refl, sym, ap, subst, ◌∙◌}
use mathlib.Core.Bool.{Bool, true, false, cond, ◌&&◌}
use mathlib.Core.List.{List, [], ◌∷◌}
use Prim.Native.Nat.{ℕ}
use native.Mathlib.Omega.{arith}
use borrow.Author.Tests.{eqb-true, eq-eqb, ne_eqb}
use lib.Dec.{eqb, ltb}
use lib.ListN.{length}
use Rattle.rules.specs.declared.Values.{Values}
use Rattle.shape.specs.declared.Family.{Family}
use Rattle.shape.specs.declared.Shape.{Shape}
use Rattle.paper.specs.Walk.{Met}
use Rattle.state.specs.declared.Answer.{Answer}
use Rattle.state.specs.declared.Answer.TheVariants.{Refused, Started, Given, Done}
use Rattle.command.specs.declared.Command.{Command}
use Rattle.command.specs.declared.Command.TheVariants.{Start, First as FirstCommand, Second as SecondCommand}
use Rattle.command.specs.Command.{is_cpace, start_length, first_length, slots_of, second_of, command_of, start_selected, selecting_of, read_by, command_in, is_command}
use Rattle.command.proofs.Readable.{read_or_not}
use Rattle.scripting.specs.Scripting.{script_step}
use Rattle.card.specs.Card.{answer_number, step_of}
use Rattle.card.specs.Message.{FirstCommand as FirstMessage, SecondCommand as SecondMessage, message_step}
use Rattle.records.specs.declared.Said.{Said}
use Rattle.records.specs.declared.Said.TheVariants.{Command as SaidCommand, Script}
use Rattle.records.specs.declared.Event.TheVariants.{Answered}
use Rattle.records.specs.Records.{answered_by, scripted_by, is_script, can_be_read}
use Rattle.journal.specs.declared.Heard.TheVariants.{First, Second, Other}
use Rattle.demands.specs.Due.{InKind}
use Rattle.demands.proofs.Refusal.{in_kind}
use Rattle.runs.specs.Runs.{Card, taken_by}
use Rattle.run_log.specs.RunLog.{heard_by}
use Rattle.log_laws.specs.Spoken.{heard_of}
use Rattle.log_laws.proofs.Said.{both, fork}
use Rattle.run_log_laws.proofs.Answers.{Unheard}
use Rattle.std.specs.Prelude.{Err, None, Ok, Option, Result, Some}
use Rattle.refusal.specs.declared.Refusal.{Refusal}
use Rattle.shape.specs.declared.SelectionFile.{SelectionFile}
use Rattle.shape.specs.declared.Span.{Span}

module _ (kind : ℕ) (body : List ℕ) where
  heard-other : (kind ≡ 3 → ⊥) → (kind ≡ 4 → ⊥) → heard_by kind body ≡ Other
  heard-other three four = rw (ne_eqb kind 3 three, ne_eqb kind 4 four)

  start-heard : kind ≡ 2 → heard_by kind body ≡ Other
  start-heard is = heard-other (λ q. omega arith) (λ q. omega arith)

  first-heard : kind ≡ 3 → heard_by kind body ≡ First
  first-heard is = rw (eq-eqb kind 3 is)

  second-heard : kind ≡ 4 → heard_by kind body ≡ heard_of (SaidCommand (SecondCommand (second_of body)))
  unfolding second_of
  second-heard is = rw (ne_eqb kind 3 (λ q. omega arith), eq-eqb kind 4 is)

  abbrev AsSaid : Result Command Refusal → Type 0
  AsSaid (Ok command) = heard_by kind body ≡ heard_of (SaidCommand command)
  AsSaid (Err refusal) = Unit

  -- it is of a kind and has a length
  abbrev is_of : (n long : ℕ) → Bool
  is_of n long = eqb kind n && eqb (length body) long

  of : (n long : ℕ) → is_of n long ≡ true → kind ≡ n
  of n long e = (both kind n (length body) long e).0

  named-said : (dating : Option Span) (family : Family) → AsSaid (command_of dating family kind body)
  unfolding command_of
  named-said dating family =
      fork AsSaid (is_of 2 (start_length family)) (λ e. start-heard (of 2 (start_length family) e)) (λ not_start.
      fork AsSaid (is_of 3 (first_length dating family)) (λ e. first-heard (of 3 (first_length dating family) e)) (λ not_first.
      fork AsSaid (is_of 4 8) (λ e. second-heard (of 4 8 e)) (λ no_command. tt)))

  command-said : (shape : Shape) (values : Values) (paper : List ℕ) → AsSaid (command_in shape values paper kind body)
  unfolding command_in
  command-said shape values paper = by shape.selecting where
    by : (selecting : Option SelectionFile)
        → AsSaid (read_by selecting shape.dating shape.family (slots_of shape.family values) paper kind body)
    by None = named-said shape.dating shape.family
    by (Some part) = (unfold selecting_of start_selected in
        fork AsSaid (eqb kind 2)
        (λ e. fork AsSaid (is_cpace shape.family && eqb (length body) 0) (λ none. tt) (λ some. start-heard (eqb-true kind 2 e)))
        (λ not_start. named-said shape.dating shape.family))

-- what is nothing to a log may be answered by anything
other_unheard : (answer : Answer) → Unheard Other answer
other_unheard (Refused refusal) = tt
other_unheard (Started atc visits) = refl
other_unheard (Given kind atc iad) = tt
other_unheard Done = refl

-- a record that can be read is answered, and in its kind
pub record Exchanged (shape : Shape) (paper : List ℕ) (card : Card) (met : Met) : Type 0 where
  pub said : Said
  pub answer : Answer
  pub event_is : (taken_by shape paper card met).event ≡ Answered said answer
  pub heard-is : heard_by met.kind met.body ≡ heard_of said
  pub unheard : Unheard (heard_of said) answer

module _ (shape : Shape) (paper : List ℕ) (card : Card) where
  command_unheard : (command : Command) → Unheard (heard_of (SaidCommand command)) (step_of card.rules card.state command).answer
  unfolding step_of message_step
  command_unheard (Start start) = other_unheard (step_of card.rules card.state (Start start)).answer
  command_unheard (FirstCommand first) =
      by (message_step card.rules card.state (FirstMessage first)).answer (in_kind card.rules card.state (FirstMessage first)) where
        by : (answer : Answer) → (answer_number answer ≡ 0 → InKind (FirstMessage first) answer) → Unheard First answer
        by (Refused refusal) k = tt
        by (Started atc visits) k = absurd (k refl)
        by (Given kind atc iad) k = tt
        by Done k = absurd (k refl)
  command_unheard (SecondCommand second) =
      by (message_step card.rules card.state (SecondMessage second)).answer (in_kind card.rules card.state (SecondMessage second)) where
        by : (answer : Answer) → (answer_number answer ≡ 0 → InKind (SecondMessage second) answer) → Unheard (Second second.code) answer
        by (Refused refusal) k = tt
        by (Started atc visits) k = absurd (k refl)
        by (Given kind atc iad) k = tt
        by Done k = absurd (k refl)

  pub exchanged : (met : Met) → can_be_read shape met.kind (length met.body) ≡ true → Exchanged shape paper card met
  unfolding scripted_by answered_by
  exchanged met can = by (is_script shape met.kind) refl can where
    scripted : (body : List ℕ) → ltb 0 (length body) ≡ true → heard_by met.kind met.body ≡ Other
        → (scripted_by card.state body 0).event ≡ (taken_by shape paper card met).event → Exchanged shape paper card met
    scripted [] some heard is = absurd (let z : ◌≡◌ {A = ℕ} 0 1 = cc in omega arith)
    scripted (result ∷ template) some heard is =
        let answer = (script_step card.state result template).answer in
        record { said = Script; answer = answer; event_is = sym is; heard-is = heard; unheard = other_unheard answer }

    commanded : (read : Result Command Refusal) (command : Command) → read ≡ Ok command → AsSaid met.kind met.body read
        → (answered_by card.rules card.state 0 read).event ≡ (taken_by shape paper card met).event → Exchanged shape paper card met
    commanded read command is as_said there =
        record {
          said = SaidCommand command;
          answer = (step_of card.rules card.state command).answer;
          event_is = sym there ∙ ap (λ (r : Result Command Refusal). (answered_by card.rules card.state 0 r).event) is;
          heard-is = subst (AsSaid met.kind met.body) is as_said;
          unheard = command_unheard command;
        }

    five : is_script shape met.kind ≡ true → met.kind ≡ 5
    five e = to shape.scripting e where
      to : (on : Bool) → (on && eqb met.kind 5) ≡ true → met.kind ≡ 5
      to true q = eqb-true met.kind 5 q
      to false q = absurd (let z : ◌≡◌ {A = ℕ} 0 1 = cc in omega arith)

    by : (script : Bool) → is_script shape met.kind ≡ script
        → cond script (ltb 0 (length met.body)) (is_command shape met.kind (length met.body)) ≡ true → Exchanged shape paper card met
    by true e can =
        let is = five e in
        scripted met.body can (heard-other met.kind met.body (λ q. omega arith) (λ q. omega arith)) (rw e)
    by false e can =
        let read = rw can at (read_or_not shape card.state.values paper met.kind met.body) in
        commanded (command_in shape card.state.values paper met.kind met.body) read.command read.is
        (command-said met.kind met.body shape card.state.values paper) (rw e)
