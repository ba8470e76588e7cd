-- A record that can be read is answered, and every other one ends what it stands in with refusal 9, the card as it was. Assumes nothing.
use mathlib.Core.Path.{◌≡◌, refl}
use mathlib.Core.Bool.{Bool, true, false, cond}
use mathlib.Core.List.{List, [], ◌∷◌}
use Prim.Native.Nat.{ℕ}
use native.Mathlib.Omega.{arith}
use borrow.Author.Tests.{lt-ltb}
use lib.Dec.{ltb}
use lib.ListN.{length}
use Rattle.refusal.specs.declared.Refusal.TheVariants.{Unreadable}
use Rattle.rules.specs.Rules.{Rules}
use Rattle.shape.specs.declared.Shape.{Shape}
use Rattle.command.specs.Command.{command_in, is_command}
use Rattle.command.proofs.Readable.{Reads, read_or_not}
use Rattle.state.specs.declared.State.{State}
use Rattle.state.specs.declared.Answer.{Answer}
use Rattle.records.specs.declared.Said.{Said}
use Rattle.records.specs.declared.Event.TheVariants.{Refused, Answered}
use Rattle.records.specs.declared.Taken.{Taken}
use Rattle.records.specs.Records.{answered_by, scripted_by, is_script, record_taken, can_be_read}
use Rattle.std.specs.Prelude.{Result}
use Rattle.command.specs.declared.Command.{Command}
use Rattle.refusal.specs.declared.Refusal.{Refusal}

pub record IsAnswered (end : ℕ) (taken : Taken) : Type 0 where
  pub said : Said
  pub answer : Answer
  pub event_is : taken.event ≡ Answered said answer
  pub ends : taken.at ≡ end

abbrev pub Answers : Bool → State → (end : ℕ) → Taken → Type 0
Answers true state end taken = IsAnswered end taken
Answers false state end taken = taken ≡ record { state = state; at = end; event = Refused Unreadable }

module _ (rules : Rules) (state : State) (end : ℕ) where
  script : (body : List ℕ) → Answers (ltb 0 (length body)) state end (scripted_by state body end)
  unfolding scripted_by
  script [] = refl
  script (result ∷ template) =
      let some : ltb 0 (length (result ∷ template)) ≡ true = lt-ltb 0 (length (result ∷ template)) (omega arith) in
      rw some (record { said = _; answer = _; event_is = refl; ends = refl })

  command : (b : Bool) (read : Result Command Refusal) → Reads b read → Answers b state end (answered_by rules state end read)
  unfolding answered_by
  command true read taken = rw taken.is (record { said = _; answer = _; event_is = refl; ends = refl })
  command false read refused = rw refused

  pub answered_or_not : (shape : Shape) (paper : List ℕ) (kind : ℕ) (body : List ℕ)
      → Answers (can_be_read shape kind (length body)) state end (record_taken rules shape state paper kind body end)
  answered_or_not shape paper kind body = by (is_script shape kind) where
    by : (b : Bool)
        → Answers (cond b (ltb 0 (length body)) (is_command shape kind (length body))) state end
        (cond b (scripted_by state body end) (answered_by rules state end (command_in shape state.values paper kind body)))
    by true = script body
    by false = command (is_command shape kind (length body)) (command_in shape state.values paper kind body)
        (read_or_not shape state.values paper kind body)
