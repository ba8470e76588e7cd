-- A ledger: what was put into a value and what was added to it, the newest entry first; and what the value must then be
-- (demand 3: the amount at the last put, else the starting amount, plus all that was added later, the sum stopping at the cap).
use Rattle.std.specs.Prelude.{ℕ, ◌+◌, min, List, [], ◌∷◌}
use Rattle.meters.specs.Meters.{Entry, put, add}

-- the amount at the last put, else the starting amount
abbrev pub base : ℕ → List Entry → ℕ
base start [] = start
base start (put n ∷ older) = n
base start (add n ∷ older) = base start older

-- all that was added since
abbrev pub since : List Entry → ℕ
since [] = 0
since (put n ∷ older) = 0
since (add n ∷ older) = n + since older

unfoldable pub owed : (cap start : ℕ) → List Entry → ℕ
owed cap start ledger = min cap (base start ledger + since ledger)
