-- Cards that are alike but for one value (document 02, Fourteen): with 0 for it they are equal.
use Rattle.std.specs.Prelude.{◌≡◌, set}
use Rattle.rules.specs.declared.Values.{Values}
use Rattle.purchase.specs.Meter.{Meter, accumulator, counter, cyclic}
use Rattle.state.specs.declared.State.{State}

abbrev pub wiped : Meter → Values → Values
wiped (accumulator i) values =
    record { accumulators = set values.accumulators i (record { 0 = 0 }); counters = values.counters; cyclic = values.cyclic }
wiped (counter i) values =
    record { accumulators = values.accumulators; counters = set values.counters i 0; cyclic = values.cyclic }
wiped (cyclic i) values =
    record { accumulators = values.accumulators; counters = values.counters; cyclic = set values.cyclic i (record { 0 = 0 }) }

-- the same card with other values
abbrev pub with_values : State → Values → State
with_values state values =
    record {
      values = values;
      phase = state.phase;
      atc = state.atc;
      last = state.last;
      history = state.history;
      scripts = state.scripts;
    }

abbrev pub wiped_state : Meter → State → State
wiped_state x state = with_values state (wiped x state.values)

-- ALIKE BUT FOR x: phase, ATC, last date, history, what is kept of scripts, and every other value are the same
abbrev pub Alike : Meter → State → State → Type 0
Alike x state other = wiped_state x state ≡ wiped_state x other
