-- The card's state in 37 cells: its values (10), its phase (17), and its marks (10): ATC, last date (3), history (5) and what is kept of scripts.
use Rattle.std.specs.Prelude.{◌≡◌, ℕ, ◌+◌, ◌%◌, List, [], ◌∷◌, ◌++◌, length}
use Rattle.purchase.specs.Meter.{amount_at, count_at, cyclic_at}
use Rattle.rules.specs.declared.Values.{Values}
use Rattle.rules.specs.Rules.{four, two}
use Rattle.state.specs.declared.State.{State}
use Rattle.cells.specs.Cells.{cell_at, date_cells, date_at, history_cells, history_at, Byte, TwoBytes, DateFits}
use Rattle.phase_seat.specs.Phases.{phase_cells, phase_at, PhaseFits}

-- the values: accumulators, counters, cyclic accumulators
unfoldable pub value_cells : Values → List ℕ
value_cells values = four (λ i. (amount_at values i).0) ++ four (count_at values) ++ two (λ i. (cyclic_at values i).0)

unfoldable pub values_at : List ℕ → (at : ℕ) → Values
values_at cells at =
    record {
      accumulators =
          record { 0 = cell_at cells at } ∷ record { 0 = cell_at cells (at + 1) } ∷ record { 0 = cell_at cells (at + 2) } ∷ record { 0 = cell_at cells (at + 3) } ∷ [];
      counters = cell_at cells (at + 4) % 256 ∷ cell_at cells (at + 5) % 256 ∷ cell_at cells (at + 6) % 256 ∷ cell_at cells (at + 7) % 256 ∷ [];
      cyclic = record { 0 = cell_at cells (at + 8) } ∷ record { 0 = cell_at cells (at + 9) } ∷ [];
    }

-- ATC, last date, history, scripts
unfoldable pub mark_cells : State → List ℕ
mark_cells state = (state.atc ∷ []) ++ date_cells state.last ++ history_cells state.history ++ (state.scripts.0 ∷ [])

-- THE STATE
abbrev pub state_cells : State → List ℕ
state_cells state = value_cells state.values ++ phase_cells state.phase ++ mark_cells state

unfoldable pub state_in : List ℕ → State
state_in cells =
    record {
      values = values_at cells 0;
      phase = phase_at cells 10;
      atc = cell_at cells 27 % 65536;
      last = date_at cells 28;
      history = history_at cells 31;
      scripts = record { 0 = cell_at cells 36 % 256 };
    }

-- fields in the ranges of their types, where a cell is wider than the field
pub record ValuesFit (values : Values) : Type 0 where
  pub accumulators : length values.accumulators ≡ 4
  pub counters : length values.counters ≡ 4
  pub cyclic : length values.cyclic ≡ 2
  pub bytes : (i : ℕ) → Byte (count_at values i)

pub record MarksFit (state : State) : Type 0 where
  pub atc : TwoBytes state.atc
  pub last : DateFits state.last
  pub scripts : Byte state.scripts.0

pub record StateFits (state : State) : Type 0 where
  pub values : ValuesFit state.values
  pub phase : PhaseFits state.phase
  pub marks : MarksFit state
