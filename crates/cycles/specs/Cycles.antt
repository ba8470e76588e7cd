-- A First's date, before the tests (document 02, Five): whether it is in order, the cycles that begin with it, and the last date.
use Rattle.std.specs.Prelude.{ℕ, cond, None, Option, Some}
use Rattle.calendar.specs.declared.Date.{Date}
use Rattle.calendar.specs.Calendar.{is_before, begins}
use Rattle.money.specs.declared.AccumulatorAmount.{AccumulatorAmount}
use Rattle.rules.specs.declared.Values.{Values}
use Rattle.rules.specs.Rules.{Rules, two, cycle_of}
use Rattle.purchase.specs.declared.Timing.{Timing}
use Rattle.purchase.specs.declared.Timing.TheVariants.{Undated, InOrder, DateError}
use Rattle.purchase.specs.Meter.{cyclic_at}
use Rattle.state.specs.declared.State.{State}

-- a date earlier than the last one is a date error
unfoldable pub timing_of : Date → Option Date → Timing
timing_of last None = Undated
timing_of last (Some date) = cond (is_before date last) (DateError date) InOrder

-- a present cycle begins when a date after the last one falls in another cycle: the amount becomes zero, active or not
abbrev pub amount_begun : Rules → (i : ℕ) → AccumulatorAmount → (last date : Date) → AccumulatorAmount
amount_begun rules i amount last date =
    cond (begins (cycle_of rules i).period (cycle_of rules i).first last date) (record { 0 = 0 }) amount

abbrev pub begun : Rules → Values → (last date : Date) → Values
begun rules values last date =
    record {
      accumulators = values.accumulators;
      counters = values.counters;
      cyclic = two (λ i. amount_begun rules i (cyclic_at values i) last date);
    }

-- it leaves its date as the last one
unfoldable pub advanced : Rules → State → Date → State
advanced rules state date =
    record {
      values = begun rules state.values state.last date;
      phase = state.phase;
      atc = state.atc;
      last = date;
      history = state.history;
      scripts = state.scripts;
    }

-- the card after an accepted First's date: a date error leaves both amounts and the last date as they were
unfoldable pub dated : Rules → State → Option Date → State
dated rules state None = state
dated rules state (Some date) = cond (is_before date state.last) state (advanced rules state date)
