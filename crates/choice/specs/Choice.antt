-- The profile that a paper's file selects (document 02, Three and Thirteen).
use Rattle.std.specs.Prelude.{ℕ, ◌-◌, cond, ◌&&◌, List, [], ◌∷◌, length, get_or, take, drop, leb, None, Option, Some}
use Rattle.money.specs.declared.AccumulatorAmount.{AccumulatorAmount}
use Rattle.rules.specs.declared.Values.{Values}
use Rattle.slot.specs.declared.Slots.{Slots}
use Rattle.selection.specs.Selection.{selection_of}
use Rattle.shape.specs.declared.Family.{Family}
use Rattle.bodies.specs.Bodies.{is_cpace}
use Rattle.selection.specs.declared.Selected.{Selected}
use Rattle.shape.specs.declared.SelectionFile.{SelectionFile}

-- a file that does not lie in the paper is empty
abbrev pub file_in : (paper : List ℕ) (start end : ℕ) → List ℕ
file_in paper start end = cond (leb start end && leb end (length paper)) (take (end - start) (drop start paper)) []

abbrev pub selected_in : Option SelectionFile → Slots → (paper terminal : List ℕ) → Option Selected
selected_in None slots paper terminal = None
selected_in (Some part) slots paper terminal = selection_of (file_in paper part.start part.end) part.entries terminal slots

-- what the file's entries may test: a CPACE card's accumulators and counters, as they are
abbrev pub amount_at : List AccumulatorAmount → ℕ → ℕ
amount_at amounts i = (get_or amounts i (record { 0 = 0 })).0

unfoldable pub slots_of : Family → Values → Slots
slots_of family values =
    let amounts = values.accumulators in
    record {
      testable = is_cpace family;
      amounts = amount_at amounts 0 ∷ amount_at amounts 1 ∷ amount_at amounts 2 ∷ amount_at amounts 3 ∷ [];
      counts = values.counters;
    }
