-- REQUEST FOURTEEN, record by record: two cards that are alike but for x answer a record that spares x the same, and are alike but for x
-- afterwards. Assumes nothing.
use mathlib.Core.Path.{◌≡◌, refl, sym, ap, subst, ◌∙◌}
use mathlib.Core.Bool.{Bool, true, false, cond}
use mathlib.Core.List.{List, [], ◌∷◌}
use Prim.Native.Nat.{ℕ}
use Rattle.rules.specs.declared.Values.{Values}
use Rattle.rules.specs.Rules.{Rules}
use Rattle.purchase.specs.Meter.{Meter}
use Rattle.shape.specs.declared.Shape.{Shape}
use Rattle.element.specs.declared.Write.{Write}
use Rattle.command.specs.Command.{command_in}
use Rattle.state.specs.declared.State.{State}
use Rattle.scripting.specs.Scripting.{script_writes}
use Rattle.records.specs.declared.Event.TheVariants.{Answered}
use Rattle.records.specs.declared.Said.TheVariants.{Command as SaidCommand, Script}
use Rattle.records.specs.declared.Taken.{Taken}
use Rattle.records.specs.Records.{answered_by, scripted_by, is_script, record_taken, body_writes, record_writes}
use Rattle.apart.specs.Off.{Quiet, Spares}
use Rattle.apart.specs.Alike.{with_values, Alike}
use Rattle.apart.proofs.Values.{Beside, beside}
use Rattle.apart.proofs.Steps.{alike_with, step-apart, script-apart}
use Rattle.apart.proofs.Chosen.{command-same}
use Rattle.std.specs.Prelude.{Err, Ok, Result}
use Rattle.command.specs.declared.Command.{Command}
use Rattle.refusal.specs.declared.Refusal.{Refusal}

-- the same event and the same place behind it, and cards that are still alike
pub record SameTaken (x : Meter) (a b : Taken) : Type 0 where
  pub events : a.event ≡ b.event
  pub places : a.at ≡ b.at
  pub states : Alike x a.state b.state

writes_with : (state : State) (values : Values) (body : List ℕ) → body_writes (with_values state values) body ≡ body_writes state body
unfolding body_writes script_writes
writes_with state values [] = refl
writes_with state values (result ∷ template) = refl

module _ (x : Meter) where
  -- what cards that are alike share, and their values
  rest-is : (state other : State) → Alike x state other → with_values state other.values ≡ other
  rest-is state other alike = ap (λ (s : State). with_values s other.values) alike

  values-are : (state other : State) → Alike x state other → Beside x state.values other.values
  values-are state other alike = beside x state.values other.values (ap (λ (s : State). s.values) alike)

  module _ (rules : Rules) (state : State) (w : Values) (b : Beside x state.values w) where
    answered-same : (read : Result Command Refusal) (end : ℕ) → Quiet rules x state.phase
        → SameTaken x (answered_by rules state end read) (answered_by rules (with_values state w) end read)
    unfolding answered_by
    answered-same (Err refusal) end quiet = record { events = refl; places = refl; states = alike_with x state state.values w b }
    answered-same (Ok command) end quiet =
        let same = step-apart x rules state w b command quiet in
        record { events = ap (Answered (SaidCommand command)) same.answers; places = refl; states = same.states }

    scripted-same : (body : List ℕ) (end : ℕ) → SameTaken x (scripted_by state body end) (scripted_by (with_values state w) body end)
    unfolding scripted_by
    scripted-same [] end = record { events = refl; places = refl; states = alike_with x state state.values w b }
    scripted-same (result ∷ template) end =
        let same = script-apart x rules state w b result template in
        record { events = ap (Answered Script) same.answers; places = refl; states = same.states }

  module _ (rules : Rules) (shape : Shape) (paper : List ℕ) (kind : ℕ) (body : List ℕ) (state other : State) (alike : Alike x state other) where
    pub record_apart : (end : ℕ) → Spares rules shape state paper kind body x
        → SameTaken x (record_taken rules shape state paper kind body end) (record_taken rules shape other paper kind body end)
    record_apart end spares =
        subst (λ (s : State). SameTaken x (record_taken rules shape state paper kind body end) (record_taken rules shape s paper kind body end))
        (rest-is state other alike) (by (is_script shape kind))
      where
        w : Values
        w = other.values

        b : Beside x state.values other.values
        b = values-are state other alike

        read : command_in shape state.values paper kind body ≡ command_in shape other.values paper kind body
        read = command-same x state.values other.values b shape paper kind body spares.untested

        by : (t : Bool)
            → SameTaken x
            (cond t (scripted_by state body end) (answered_by rules state end (command_in shape state.values paper kind body)))
            (cond t (scripted_by (with_values state other.values) body end)
            (answered_by rules (with_values state other.values) end (command_in shape other.values paper kind body)))
        by true = scripted-same rules state other.values b body end
        by false =
            subst
            (λ (command : Result Command Refusal). SameTaken x (answered_by rules state end (command_in shape state.values paper kind body))
            (answered_by rules (with_values state other.values) end command))
            read (answered-same rules state other.values b (command_in shape state.values paper kind body) end spares.quiet)

    -- what a script writes is the same
    pub writes_apart : record_writes shape state kind body ≡ record_writes shape other kind body
    writes_apart =
        ap (λ (writes : List Write). cond (is_script shape kind) writes [])
        (sym (writes_with state other.values body) ∙ ap (λ (s : State). body_writes s body) (rest-is state other alike))
