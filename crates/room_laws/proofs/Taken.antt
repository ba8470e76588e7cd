-- The cells hold the room left by the rules and the values: after the set-up, and where they did before a record, after it too. Assumes nothing.
use mathlib.Core.Path.{◌≡◌, refl, sym, ap, ◌∙◌}
use mathlib.Core.Bool.{Bool, true, false, cond}
use mathlib.Core.List.{List, [], ◌∷◌}
use Prim.Native.Nat.{ℕ}
use native.Mathlib.Omega.{arith}
use lib.ListN.{length}
use Rattle.rules.specs.Rules.{Rules, rules_of}
use Rattle.rooms.specs.Rooms.{rooms_of, cell_count, filled, renewed}
use Rattle.room_laws.proofs.Rooms.{filled_is, renewed-is, unmoved, rooms-size, filled-size, renewed-size}
use Rattle.shape.specs.declared.Shape.{Shape}
use Rattle.paper.specs.declared.Next.{Next}
use Rattle.paper.specs.declared.Next.TheVariants.{Record, Fault, End as PaperEnd}
use Rattle.paper.specs.Paper.{next_at}
use Rattle.paper.specs.Walk.{part}
use Rattle.script.specs.Script.{rules_after}
use Rattle.state.specs.declared.State.{State}
use Rattle.element.specs.declared.Write.{Write}
use Rattle.state.specs.Ruling.{Ruling, refuse, take, carried}
use Rattle.scripting.specs.Scripting.{rule_script, script_performed, script_step, writes_ruled, script_writes}
use Rattle.records.specs.declared.Taken.{Taken}
use Rattle.records.specs.declared.Event.{Event}
use Rattle.records.specs.declared.Event.TheVariants.{SetUp}
use Rattle.command.specs.Command.{command_in}
use Rattle.records.specs.Records.{answered_by, scripted_by, is_script, body_writes}
use Rattle.conversation.specs.Conversation.{next_taken, taken_of, next_writes, taken_writes}
use Rattle.opening.specs.Opening.{begun_of, words_begun}
use Rattle.keeper.specs.Keeper.{is_done, is_scripted, rooms_after, rooms_taken, rooms_begun}

-- ---- the set-up

pub begun_right : (words rooms paper : List ℕ) → length rooms ≡ cell_count → (begun_of paper).event ≡ SetUp
    → rooms_begun words rooms paper ≡ rooms_of (rules_of (words_begun words paper)) (begun_of paper).state.values
unfolding rooms_begun
begun_right words rooms paper size e = rw e (filled_is (rules_of (words_begun words paper)) (begun_of paper).state.values rooms size)

-- ---- a record

module _ (rules : Rules) (shape : Shape) (state : State) (paper : List ℕ) (at : ℕ) where
  abbrev taken : Taken
  taken = taken_of rules shape state paper at

  abbrev writes : List Write
  writes = taken_writes shape state paper at

  -- only a script that was carried out writes
  no_writes : is_scripted taken.event ≡ false → writes ≡ []
  unfolding taken_of taken_writes scripted_by body_writes script_step script_writes script_performed
  no_writes = by (next_at paper at) where
    by-ruling : (template : List ℕ) (ruling : Ruling Bool) → is_done (carried state (script_performed state template) ruling).answer ≡ false
        → writes_ruled state.scripts template ruling ≡ []
    by-ruling template (refuse refusal) e = refl
    by-ruling template (take verified) e = let z : ◌≡◌ {A = ℕ} 0 1 = cc in absurd (omega arith)

    by-body : (body : List ℕ) (end : ℕ) → is_scripted (scripted_by state body end).event ≡ false → body_writes state body ≡ []
    by-body [] end e = refl
    by-body (result ∷ template) end e = by-ruling template (rule_script state.phase result template) e

    by : (next : Next) → is_scripted (next_taken rules shape state paper at next).event ≡ false → next_writes shape state paper next ≡ []
    by PaperEnd e = refl
    by Fault e = refl
    by (Record kind start end) e = by_kind (is_script shape kind) e where
      by_kind : (b : Bool)
          → is_scripted (cond b (scripted_by state (part paper start end) end)
          (answered_by rules state end (command_in shape state.values paper kind (part paper start end)))).event ≡ false
          → cond b (body_writes state (part paper start end)) [] ≡ []
      by_kind true f = by-body (part paper start end) end f
      by_kind false f = refl

  abbrev then : Rules
  then = rules_after rules writes

  scripted : (rooms : List ℕ) → is_scripted taken.event ≡ true → rooms_taken rules shape state paper at rooms ≡ filled then taken.state.values rooms
  unfolding rooms_taken rooms_after
  scripted rooms e = rw e

  not_scripted : (rooms : List ℕ) → is_scripted taken.event ≡ false
      → rooms_taken rules shape state paper at rooms ≡ renewed rules state.values taken.state.values rooms
  unfolding rooms_taken rooms_after
  not_scripted rooms e = rw (e, no_writes e)

  pub taken_right : (rooms : List ℕ) → rooms ≡ rooms_of rules state.values
      → rooms_taken rules shape state paper at rooms ≡ rooms_of then taken.state.values
  taken_right rooms right = by (is_scripted taken.event) refl where
    by : (b : Bool) → is_scripted taken.event ≡ b → rooms_taken rules shape state paper at rooms ≡ rooms_of then taken.state.values
    by true e =
        scripted rooms e ∙ filled_is then taken.state.values rooms (ap length right ∙ rooms-size rules state.values)
    by false e =
        let same : rules ≡ then = ap (rules_after rules) (sym (no_writes e)) in
        not_scripted rooms e
        ∙ ap (renewed rules state.values taken.state.values) right
        ∙ renewed-is rules state.values taken.state.values
        ∙ ap (λ r. rooms_of r taken.state.values) same

  -- where no value moved and no script was carried out they stay, whatever they hold: so do they at a refusal
  pub taken-kept : (rooms : List ℕ) → is_scripted taken.event ≡ false → state.values.accumulators ≡ taken.state.values.accumulators
      → rooms_taken rules shape state paper at rooms ≡ rooms
  taken-kept rooms e same = not_scripted rooms e ∙ unmoved rules state.values taken.state.values rooms same

  pub taken-size : (rooms : List ℕ) → length (rooms_taken rules shape state paper at rooms) ≡ length rooms
  taken-size rooms = by (is_scripted taken.event) refl where
    by : (b : Bool) → is_scripted taken.event ≡ b → length (rooms_taken rules shape state paper at rooms) ≡ length rooms
    by true e = ap length (scripted rooms e) ∙ filled-size then taken.state.values rooms
    by false e = ap length (not_scripted rooms e) ∙ renewed-size rules state.values taken.state.values rooms
