-- A step on two cards that are alike but for x, where x is off in the open profile. Assumes nothing.
use mathlib.Core.Path.{◌≡◌, refl, ap, subst}
use mathlib.Core.Bool.{Bool, true, false, cond, not, ◌||◌, ◌&&◌}
use mathlib.Core.List.{List}
use Prim.Native.Nat.{ℕ, ◌%◌}
use lib.Dec.{eqb, ltb, leb}
use Rattle.refusal.specs.declared.Refusal.{Refusal}
use Rattle.refusal.specs.declared.Refusal.TheVariants.{BadType, OutOfRange, NotADay}
use Rattle.calendar.specs.declared.Date.{Date}
use Rattle.calendar.specs.Calendar.{is_before}
use Rattle.wire.specs.Wire.{is_currency}
use Rattle.money.specs.Money.{max}
use Rattle.iad.specs.declared.Cvr.{Cvr}
use Rattle.rules.specs.declared.Place.{Place}
use Rattle.rules.specs.declared.Values.{Values}
use Rattle.rules.specs.Rules.{Rules, profile_at}
use Rattle.purchase.specs.declared.Timing.{Timing}
use Rattle.purchase.specs.declared.Purchase.{Purchase}
use Rattle.purchase.specs.Meter.{Meter}
use Rattle.meters.specs.declared.Change.{Change}
use Rattle.meters.specs.Meters.{offline, applied}
use Rattle.checks.specs.Checks.{meets_mask}
use Rattle.marks.specs.declared.Scripts.{Scripts}
use Rattle.command.specs.declared.Start.{Start}
use Rattle.command.specs.declared.First.{First}
use Rattle.command.specs.declared.Second.{Second}
use Rattle.command.specs.declared.Command.{Command}
use Rattle.command.specs.declared.Command.TheVariants.{Start as StartCommand, First as FirstCommand, Second as SecondCommand}
use Rattle.cycles.specs.Cycles.{timing_of, advanced, dated}
use Rattle.state.specs.declared.History.{History}
use Rattle.state.specs.declared.Kind.{Kind}
use Rattle.state.specs.declared.Kind.TheVariants.{Aac, Tc, Arqc}
use Rattle.state.specs.declared.Answer.TheVariants.{Given}
use Rattle.state.specs.declared.Pending.{Pending}
use Rattle.state.specs.declared.Phase.{Phase}
use Rattle.state.specs.declared.Phase.TheVariants.{Idle, Opened, Asked}
use Rattle.state.specs.declared.State.{State}
use Rattle.state.specs.declared.Outcome.{Outcome}
use Rattle.state.specs.State.{unable_in}
use Rattle.state.specs.Ruling.{Ruling, refuse, take, refused, carried}
use Rattle.cryptogram.specs.declared.Issuer.{Issuer}
use Rattle.cryptogram.specs.declared.Later.TheVariants.{NotRequested}
use Rattle.cryptogram.specs.Cryptogram.{limits_byte, verification, issuer_before}
use Rattle.selection.specs.Selection.{visits_of}
use Rattle.start.specs.Start.{rule_start, start_performed, start_step}
use Rattle.decision.specs.Decision.{decision, settled, asked, concluded}
use Rattle.first.specs.First.{purchase_of, first_bits, first_answered, first_performed}
use Rattle.closing.specs.Closing.{closing_kind, later_kind, closed, ordered_change, ordered}
use Rattle.second.specs.Second.{is_unable, unable_bits, issuer_unable, update_byte}
use Rattle.second.specs.Second.{unable_performed, verified_performed, failed_performed, absent_performed, second_performed}
use Rattle.script.specs.Script.{values_after, template_tried, ran_of}
use Rattle.scripting.specs.Scripting.{rule_script, script_performed, script_step}
use Rattle.card.specs.Card.{is_dated, rule_first, rule_second, first_step, second_step, step_of}
use Rattle.apart.specs.Off.{IsOff, Quiet}
use Rattle.apart.specs.Alike.{with_values, Alike}
use Rattle.apart.proofs.Values.{Beside, wiped-same, applied_beside, begun_beside, scripted_beside}
use Rattle.apart.proofs.Tests.{bits-same}
use Rattle.apart.proofs.Sent.{iad_same}
use Rattle.std.specs.Prelude.{None, Option, Some}

-- the same answer, and cards that are still alike
pub record Same (x : Meter) (a b : Outcome) : Type 0 where
  pub answers : a.answer ≡ b.answer
  pub states : Alike x a.state b.state

pub alike_with : (x : Meter) (state : State) (v w : Values) → Beside x v w → Alike x (with_values state v) (with_values state w)
alike_with x state v w b = ap (with_values state) (wiped-same x v w b)

module _ (x : Meter) (rules : Rules) where
  -- ---- First

  module _ (state : State) (w : Values) (b : Beside x state.values w) where
    abbrev other : State
    other = with_values state w

    module _ (place : Place) (off : IsOff rules x place) where
      settled_same : (cvr : Cvr) (kind : Kind) (change : Change)
          → Same x (settled rules state place cvr kind change) (settled rules other place cvr kind change)
      unfolding settled
      settled_same cvr kind change =
          let v' = applied rules place state.values change in
          let w' = applied rules place w change in
          let b' = applied_beside x state.values w b rules place change in
          record {
            answers = ap (Given kind state.atc) (iad_same x v' w' b' rules place cvr off);
            states = alike_with x (settled rules state place cvr kind change).state v' w' b';
          }

      asked-same : (purchase : Purchase) (limits : ℕ) (cvr : Cvr)
          → Same x (asked rules state place purchase limits cvr) (asked rules other place purchase limits cvr)
      unfolding asked
      asked-same purchase limits cvr =
          record {
            answers = ap (Given Arqc state.atc) (iad_same x state.values w b rules place cvr off);
            states = alike_with x (asked rules state place purchase limits cvr).state state.values w b;
          }

      concluded-same : (purchase : Purchase) (limits : ℕ) (cvr : Cvr) (kind : Kind)
          → Same x (concluded rules state place purchase limits cvr kind) (concluded rules other place purchase limits cvr kind)
      unfolding concluded
      concluded-same purchase limits cvr Aac = settled_same cvr Aac (offline false purchase)
      concluded-same purchase limits cvr Tc = settled_same cvr Tc (offline true purchase)
      concluded-same purchase limits cvr Arqc = asked-same purchase limits cvr

      answered-same : (first : First) (timing : Timing)
          → Same x (first_answered rules state first place timing) (first_answered rules other first place timing)
      unfolding first_answered
      answered-same first timing =
          let history = state.history in
          let kind : ℕ → Kind = λ bits. decision first.requested bits (profile_at rules place).masks first.terminal in
          let cvr : ℕ → Cvr =
          λ bits. verification rules history (limits_byte bits) state.scripts (kind bits) NotRequested (issuer_before history) in
          let bits = first_bits rules state place first timing in
          subst
          (λ (bits' : ℕ). Same x (first_answered rules state first place timing)
          (concluded rules other place (purchase_of first timing) (limits_byte bits') (cvr bits') (kind bits')))
          (bits-same rules place x off state.values w b (purchase_of first timing) history)
          (concluded-same (purchase_of first timing) (limits_byte bits) (cvr bits) (kind bits))

    -- the cycles of its date begin
    dated_with : (when : Option Date) → with_values (dated rules state when) (dated rules other when).values ≡ dated rules other when
    unfolding dated advanced
    dated_with None = refl
    dated_with (Some date) = by (is_before date state.last) where
      by : (t : Bool) → with_values (cond t state (advanced rules state date)) (cond t other (advanced rules other date)).values
          ≡ cond t other (advanced rules other date)
      by true = refl
      by false = refl

    dated_beside : (when : Option Date) → Beside x (dated rules state when).values (dated rules other when).values
    unfolding dated advanced
    dated_beside None = b
    dated_beside (Some date) = by (is_before date state.last) where
      by : (t : Bool) → Beside x (cond t state (advanced rules state date)).values (cond t other (advanced rules other date)).values
      by true = b
      by false = begun_beside x state.values w b rules state.last date

  module _ (state : State) (w : Values) (b : Beside x state.values w) where
    first-same : (first : First) (place : Place) → IsOff rules x place
        → Same x (first_performed rules state first place) (first_performed rules (with_values state w) first place)
    unfolding first_performed
    first-same first place off =
        let when = first.when in
        let timing = timing_of state.last when in
        let w' = (dated rules (with_values state w) when).values in
        subst
        (λ (other : State). Same x (first_answered rules (dated rules state when) first place timing) (first_answered rules other first place timing))
        (dated_with state w b when)
        (answered-same (dated rules state when) w' (dated_beside state w b when) place off first timing)

    -- ---- Second

    closed_same : (pending : Pending) (approves : Bool) (v' w' : Values) (last : Date) (history : History) (scripts : Scripts) (issuer : Issuer)
        → IsOff rules x pending.place → Beside x v' w'
        → Same x (closed rules state.atc pending approves v' last history scripts issuer)
        (closed rules state.atc pending approves w' last history scripts issuer)
    unfolding closed
    closed_same pending approves v' w' last history scripts issuer off b' =
        let cvr = verification rules pending.history pending.limits pending.scripts Arqc (later_kind approves) issuer in
        record {
          answers = ap (Given (closing_kind approves) state.atc) (iad_same x v' w' b' rules pending.place cvr off);
          states = alike_with x (closed rules state.atc pending approves v' last history scripts issuer).state v' w' b';
        }

    unable-same : (requested : ℕ) (pending : Pending) → IsOff rules x pending.place
        → Same x (unable_performed rules state requested pending) (unable_performed rules (with_values state w) requested pending)
    unfolding unable_performed
    unable-same requested pending off =
        let place = pending.place in
        let approves : ℕ → Bool = λ bits. not (eqb requested 0 || meets_mask bits (profile_at rules place).masks.default) in
        let change : ℕ → Change = λ bits. offline (approves bits) pending.purchase in
        let bits = unable_bits rules state pending in
        subst
        (λ (bits' : ℕ). Same x (unable_performed rules state requested pending)
        (closed rules state.atc pending (approves bits') (applied rules place w (change bits')) state.last (unable_in state.history)
        state.scripts (issuer_unable pending.history)))
        (bits-same rules place x off state.values w b pending.purchase (unable_in pending.history))
        (closed_same pending (approves bits) (applied rules place state.values (change bits)) (applied rules place w (change bits)) state.last
        (unable_in state.history) state.scripts (issuer_unable pending.history) off
        (applied_beside x state.values w b rules place (change bits)))

    ordered_beside : (place : Place) (purchase : Purchase) (update : ℕ)
        → Beside x (ordered rules place state.values purchase update) (ordered rules place w purchase update)
    unfolding ordered
    ordered_beside place purchase update = by (eqb (update % 4) 0) where
      change : Change
      change = ordered_change (update % 4) purchase

      by : (t : Bool) → Beside x (cond t state.values (applied rules place state.values change)) (cond t w (applied rules place w change))
      by true = b
      by false = applied_beside x state.values w b rules place change

    second-same : (second : Second) (pending : Pending) → IsOff rules x pending.place
        → Same x (second_performed rules state second pending) (second_performed rules (with_values state w) second pending)
    unfolding second_performed verified_performed failed_performed absent_performed
    second-same second pending off = by (is_unable second.code) (eqb second.issuer 1) (eqb second.issuer 2) where
      other : State
      other = with_values state w

      by : (unable verified failed : Bool)
          → Same x
          (cond unable (unable_performed rules state second.requested pending)
          (cond verified (verified_performed rules state second pending)
          (cond failed (failed_performed rules state pending) (absent_performed rules state second.requested pending))))
          (cond unable (unable_performed rules other second.requested pending)
          (cond verified (verified_performed rules other second pending)
          (cond failed (failed_performed rules other pending) (absent_performed rules other second.requested pending))))
      by true verified failed = unable-same second.requested pending off
      by false true failed =
          closed_same pending _ (ordered rules pending.place state.values pending.purchase (update_byte second.csu))
          (ordered rules pending.place w pending.purchase (update_byte second.csu)) _ _ _ _ off
          (ordered_beside pending.place pending.purchase (update_byte second.csu))
      by false false true = closed_same pending _ state.values w _ _ _ _ off b
      by false false false = closed_same pending _ state.values w _ _ _ _ off b

    -- ---- rulings see no value

    refused-same : (refusal : Refusal) → Same x (refused state refusal) (refused (with_values state w) refusal)
    refused-same refusal = record { answers = refl; states = alike_with x state state.values w b }

    start-same : (start : Start) → Same x (start_step rules state start) (start_step rules (with_values state w) start)
    unfolding start_step
    start-same start = by (rule_start rules state.atc start) where
      visits : ℕ
      visits = visits_of start.chosen

      by : (ruling : Ruling Place)
          → Same x (carried state (start_performed state visits) ruling) (carried (with_values state w) (start_performed (with_values state w) visits) ruling)
      by (refuse refusal) = refused-same refusal
      by (take place) = record { answers = refl; states = alike_with x (start_performed state visits place).state state.values w b }

    first-step-same : (first : First) → Quiet rules x state.phase → Same x (first_step rules state first) (first_step rules (with_values state w) first)
    unfolding first_step
    first-step-same first quiet = by state.phase quiet where
      performed : (ruling : Ruling Place) → Type 0
      performed ruling =
          Same x (carried state (first_performed rules state first) ruling)
          (carried (with_values state w) (first_performed rules (with_values state w) first) ruling)

      by-fields : (place : Place) → IsOff rules x place → (a b c : Bool)
          → performed (cond a (refuse BadType) (cond b (cond c (take place) (refuse NotADay)) (refuse OutOfRange)))
      by-fields place off true b c = refused-same BadType
      by-fields place off false true true = first-same first place off
      by-fields place off false true false = refused-same NotADay
      by-fields place off false false c = refused-same OutOfRange

      by : (phase : Phase) → Quiet rules x phase → performed (rule_first phase first)
      by Idle quiet = refused-same _
      by (Opened place) off =
          by-fields place off (ltb 2 first.requested) (leb first.amount.0 max && is_currency first.currency) (is_dated first.when)
      by (Asked pending) off = refused-same _

    second-step-same : (second : Second) → Quiet rules x state.phase
        → Same x (second_step rules state second) (second_step rules (with_values state w) second)
    unfolding second_step
    second-step-same second quiet = by state.phase quiet where
      performed : (ruling : Ruling Pending) → Type 0
      performed ruling =
          Same x (carried state (second_performed rules state second) ruling)
          (carried (with_values state w) (second_performed rules (with_values state w) second) ruling)

      by-fields : (pending : Pending) → IsOff rules x pending.place → (a b : Bool)
          → performed (cond a (refuse BadType) (cond b (refuse OutOfRange) (take pending)))
      by-fields pending off true b = refused-same BadType
      by-fields pending off false true = refused-same OutOfRange
      by-fields pending off false false = second-same second pending off

      by : (phase : Phase) → Quiet rules x phase → performed (rule_second phase second)
      by Idle quiet = refused-same _
      by (Opened place) off = refused-same _
      by (Asked pending) off = by-fields pending off (ltb 1 second.requested) (ltb 2 second.issuer)

    -- A COMMAND
    pub step-apart : (command : Command) → Quiet rules x state.phase → Same x (step_of rules state command) (step_of rules (with_values state w) command)
    unfolding step_of
    step-apart (StartCommand start) quiet = start-same start
    step-apart (FirstCommand first) quiet = first-step-same first quiet
    step-apart (SecondCommand second) quiet = second-step-same second quiet

    -- A SCRIPT, whatever it writes
    pub script-apart : (result : ℕ) (template : List ℕ) → Same x (script_step state result template) (script_step (with_values state w) result template)
    unfolding script_step script_performed ran_of
    script-apart result template = by (rule_script state.phase result template) where
      by : (ruling : Ruling Bool)
          → Same x (carried state (script_performed state template) ruling) (carried (with_values state w) (script_performed (with_values state w) template) ruling)
      by (refuse refusal) = record { answers = refl; states = alike_with x state state.values w b }
      by (take verified) =
          let writes = (template_tried verified state.scripts template).writes in
          record {
            answers = refl;
            states =
                alike_with x (script_performed state template verified).state (values_after state.values writes) (values_after w writes)
                (scripted_beside x writes state.values w b);
          }
