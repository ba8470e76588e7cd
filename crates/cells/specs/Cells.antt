-- What several parts of a card share in cells, one cell to a field: `..Cells` and `..Number` are the cells of a value, `..At` and `..Of` what any
-- cells from a place on are read as. A cell that is too large for its field is read modulo the field's width.
use Rattle.std.specs.Prelude.{ℕ, ◌+◌, ◌%◌, ◌<◌, Bool, cond, List, [], ◌∷◌, eqb, get_or}
use Rattle.calendar.specs.declared.Date.{Date}
use Rattle.state.specs.declared.History.{History}

-- a cell; past the end it is 0
abbrev pub cell_at : List ℕ → (at : ℕ) → ℕ
cell_at cells at = get_or cells at 0

-- on or off
abbrev pub flag_of : Bool → ℕ
flag_of on = cond on 1 0

abbrev pub is_on : ℕ → Bool
is_on cell = eqb cell 1

-- a date
abbrev pub date_cells : Date → List ℕ
date_cells date = date.year ∷ date.month ∷ date.day ∷ []

abbrev pub date_at : List ℕ → (at : ℕ) → Date
date_at cells at =
    record { year = cell_at cells at % 256; month = cell_at cells (at + 1) % 256; day = cell_at cells (at + 2) % 256 }

-- the previous transactions
abbrev pub history_cells : History → List ℕ
history_cells history =
    flag_of history.uncompleted ∷ flag_of history.online ∷ flag_of history.failed ∷ flag_of history.unable ∷ flag_of history.missing ∷ []

abbrev pub history_at : List ℕ → (at : ℕ) → History
history_at cells at =
    record {
      uncompleted = is_on (cell_at cells at);
      online = is_on (cell_at cells (at + 1));
      failed = is_on (cell_at cells (at + 2));
      unable = is_on (cell_at cells (at + 3));
      missing = is_on (cell_at cells (at + 4));
    }

-- fields in the ranges of their types, where a cell is wider than the field
abbrev pub Byte : ℕ → Type 0
Byte n = n < 256

abbrev pub TwoBytes : ℕ → Type 0
TwoBytes n = n < 65536

pub record DateFits (date : Date) : Type 0 where
  pub year : Byte date.year
  pub month : Byte date.month
  pub day : Byte date.day
