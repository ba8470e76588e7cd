-- What a script writes to values is what the auditor enters; and a card keeps four accumulators, whatever is done to them. Assumes nothing.
use mathlib.Core.Path.{◌≡◌, refl, sym, ap, ◌∙◌}
use mathlib.Core.Bool.{Bool, true, false, cond}
use mathlib.Core.List.{List, [], ◌∷◌, ◌++◌, append_assoc}
use Prim.Native.Nat.{ℕ, ◌%◌}
use native.Mathlib.Omega.{arith}
use borrow.Author.Tests.{eqb-true, eqb-false}
use lib.Dec.{eqb}
use lib.ListN.{length}
use lib.Seq.{get_or-set_same, get_or-set_other}
use Rattle.money.specs.declared.AccumulatorAmount.{AccumulatorAmount}
use Rattle.money.specs.Money.{max}
use Rattle.iad.specs.declared.Cvr.{Cvr}
use Rattle.rules.specs.declared.Place.{Place}
use Rattle.rules.specs.declared.Values.{Values}
use Rattle.rules.specs.Rules.{Rules}
use Rattle.command.specs.declared.First.{First}
use Rattle.command.specs.declared.Second.{Second}
use Rattle.purchase.specs.declared.Purchase.{Purchase}
use Rattle.purchase.specs.Meter.{Meter, accumulator, counter, cyclic, IsMeter, value_of}
use Rattle.meters.specs.declared.Change.{Change}
use Rattle.meters.specs.Meters.{Entry, put, applied}
use Rattle.element.specs.declared.Write.{Write}
use Rattle.element.specs.declared.Write.TheVariants.{Value, AccumulatorLimits, CounterLimits}
use Rattle.script.specs.Script.{value_in, values_with, values_after, template_tried, ran_of}
use Rattle.script.proofs.Stays.{as_many}
use Rattle.auditor.specs.Template.{IsInRange, InRange}
use Rattle.state.specs.declared.Kind.{Kind}
use Rattle.state.specs.declared.Kind.TheVariants.{Aac, Tc, Arqc}
use Rattle.state.specs.declared.Pending.{Pending}
use Rattle.state.specs.declared.State.{State}
use Rattle.state.specs.declared.Outcome.{Outcome}
use Rattle.cycles.specs.Cycles.{dated}
use Rattle.first.specs.First.{first_performed, first_answered, settled, asked, concluded}
use Rattle.closing.specs.Closing.{closed, ordered, ordered_change}
use Rattle.second.specs.Second.{is_unable, unable_performed, verified_performed, failed_performed, absent_performed, second_performed, update_byte}
use Rattle.scripting.specs.Scripting.{script_performed}
use Rattle.card.specs.Message.{Message}
use Rattle.demands.specs.Ledger.{owed}
use Rattle.demands.specs.Audit.{cap_of, put_by, all_put}
use Rattle.demands.proofs.Dated.{same-accumulators}
use Rattle.demands.proofs.Step.{Did, refused_it, started_it, took_first, took_second, took_script}

-- ---- one write, and all of a script's

module _ (start : ℕ) (meter : Meter) where
  -- the value is what a ledger owes
  abbrev Owes : Values → List Entry → Type 0
  Owes values ledger = value_of values meter ≡ owed (cap_of meter) start ledger

one-put : (start : ℕ) (meter : Meter) → IsMeter meter → (values : Values) → length values.accumulators ≡ 4 → (w : Write) → IsInRange w
    → (older : List Entry) → Owes start meter values older → Owes start meter (values_with values w) (put_by w meter ++ older)
unfolding value_in owed
one-put start (accumulator i) l values four (Value slot amount) within older held = by (eqb slot i) refl where
  at_once : amount.0 ≡ owed max start (put amount.0 ∷ older)
  at_once = let small = within.1 in omega arith

  by : (b : Bool) → eqb slot i ≡ b
      → value_of (value_in values slot amount) (accumulator i) ≡ owed max start (cond b (put amount.0 ∷ []) [] ++ older)
  by true e =
      ap (λ s. value_of (value_in values s amount) (accumulator i)) (eqb-true slot i e)
      ∙ ap (λ (a : AccumulatorAmount). a.0) (get_or-set_same values.accumulators i amount (record { 0 = 0 }) (omega arith))
      ∙ at_once
  by false e =
      ap (λ (a : AccumulatorAmount). a.0)
      (get_or-set_other values.accumulators slot i amount (record { 0 = 0 }) (λ same. eqb-false slot i e (sym same)))
      ∙ held
one-put start (counter i) l values four (Value slot amount) within older held = held
one-put start (cyclic i) l values four (Value slot amount) within older held = held
one-put start meter l values four (AccumulatorLimits slot lower upper) within older held = held
one-put start meter l values four (CounterLimits slot lower upper) within older held = held

pub all-put : (start : ℕ) (meter : Meter) → IsMeter meter → (ws : List Write) → InRange ws → (values : Values) → length values.accumulators ≡ 4
    → (older : List Entry) → Owes start meter values older → Owes start meter (values_after values ws) (all_put ws meter ++ older)
unfolding InRange
all-put start meter l [] within values four older held = held
all-put start meter l (w ∷ ws) within values four older held =
    all-put start meter l ws within.1 (values_with values w) (as_many values (w ∷ []) ∙ four) (put_by w meter ++ older)
    (one-put start meter l values four w within.0 older held)
    ∙ ap (owed (cap_of meter) start) (sym (append_assoc (all_put ws meter) (put_by w meter) older))

-- ---- four accumulators

abbrev pub Four : Values → Type 0
Four values = length values.accumulators ≡ 4

module _ (rules : Rules) (state : State) (four : Four state.values) where
  applied-four : (place : Place) (values : Values) (change : Change) → Four (applied rules place values change)
  unfolding applied
  applied-four place values change = refl

  concluded-four : (first : First) (place : Place) (purchase : Purchase) (limits : ℕ) (cvr : Cvr) (kind : Kind)
      → Four (concluded rules (dated rules state first.when) place purchase limits cvr kind).state.values
  unfolding settled asked concluded
  concluded-four first place purchase limits cvr Tc = applied-four place _ _
  concluded-four first place purchase limits cvr Aac = applied-four place _ _
  concluded-four first place purchase limits cvr Arqc = ap length (same-accumulators rules state first.when) ∙ four

  ordered-four : (b : Bool) (place : Place) (change : Change) → Four (cond b state.values (applied rules place state.values change))
  ordered-four true place change = four
  ordered-four false place change = applied-four place state.values change

  second-four : (second : Second) (pending : Pending) → Four (second_performed rules state second pending).state.values
  unfolding second_performed unable_performed verified_performed failed_performed absent_performed closed ordered applied
  second-four second pending = by (is_unable second.code) (eqb second.issuer 1) (eqb second.issuer 2) where
    by : (u v f : Bool) → Four (cond u (unable_performed rules state second.requested pending)
        (cond v (verified_performed rules state second pending)
        (cond f (failed_performed rules state pending) (absent_performed rules state second.requested pending)))).state.values
    by true v f = refl
    by false true f = let order = update_byte second.csu % 4 in ordered-four (eqb order 0) pending.place (ordered_change order pending.purchase)
    by false false true = four
    by false false false = four

  pub did_four : {command : Message} {outcome : Outcome} → Did rules state command outcome → Four outcome.state.values
  unfolding first_performed first_answered script_performed ran_of
  did_four (refused_it r wrote) = four
  did_four (started_it start place holds) = four
  did_four (took_first first place is type small day) = concluded-four first place _ _ _ _
  did_four (took_second second pending is type issuer) = second-four second pending
  did_four (took_script result template sound wrote) =
      as_many state.values (template_tried (eqb result 1) state.scripts template).writes ∙ four
