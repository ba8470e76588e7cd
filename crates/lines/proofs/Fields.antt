-- A number's digits are plain, and a line of plain fields is one line. Assumes nothing.
use mathlib.Core.List.{List, ◌∷◌}
use Prim.Native.Nat.{ℕ, ◌≤◌}
use native.Mathlib.Omega.{arith}
use lib.ListN.{length}
use Rattle.text.specs.Text.{line}
use Rattle.text.proofs.Each.{Each, weaken}
use Rattle.text.proofs.Fields.{Plain, Fed, fed_line}
use Rattle.lines.specs.Lines.{decimal, longest}
use Rattle.lines.proofs.Decimal as Decimal

pub decimal-plain : (n : ℕ) → Plain (decimal n)
decimal-plain n = weaken (λ b h. omega (arith, h.0)) (Decimal.digits n)

-- a line feed at its end and no other, and no longer than a sitting's longest line
pub record OneLine (s : List ℕ) : Type 0 where
  pub fed : Fed s
  pub short : length s ≤ longest

pub one_line : (f : List ℕ) (fs : List (List ℕ)) → Each Plain (f ∷ fs) → length (line f fs) ≤ longest → OneLine (line f fs)
one_line f fs p h = record { fed = fed_line f fs p; short = h }
