-- Cells taken from an array one by one are its list. Assumes nothing.
use mathlib.Core.Path.{◌≡◌, refl}
use mathlib.Core.List.{List, ◌++◌}
use Prim.Native.Nat.{ℕ}
use Rattle.shape.specs.declared.Family.{Family}
use Rattle.shape.specs.declared.Family.TheVariants.{Cpa, Cpace}
use Rattle.cells.proofs.Spread.{three, four}
use Rattle.shape_seat.specs.Shapes.{selecting_cells, span_cells, family_cells}
use Rattle.std.specs.Prelude.{None, Option, Some}
use Rattle.shape.specs.declared.SelectionFile.{SelectionFile}
use Rattle.shape.specs.declared.Span.{Span}

pub selecting_spread : (selecting : Option SelectionFile) (rest : List ℕ) → four (selecting_cells selecting) rest ≡ selecting_cells selecting ++ rest
selecting_spread None rest = refl
selecting_spread (Some part) rest = refl

pub span_spread : (tail : Option Span) (rest : List ℕ) → three (span_cells tail) rest ≡ span_cells tail ++ rest
span_spread None rest = refl
span_spread (Some part) rest = refl

pub family_spread : (family : Family) (rest : List ℕ) → three (family_cells family) rest ≡ family_cells family ++ rest
family_spread Cpa rest = refl
family_spread (Cpace start end) rest = refl
