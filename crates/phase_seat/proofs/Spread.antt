-- A timing's cells taken from an array one by one are its list. Assumes nothing.
use mathlib.Core.Path.{◌≡◌, refl}
use mathlib.Core.List.{List, ◌++◌}
use Prim.Native.Nat.{ℕ}
use Rattle.purchase.specs.declared.Timing.{Timing}
use Rattle.purchase.specs.declared.Timing.TheVariants.{Undated, InOrder, DateError}
use Rattle.cells.proofs.Spread.{four}
use Rattle.phase_seat.specs.Phases.{timing_cells}

pub timing_spread : (timing : Timing) (rest : List ℕ) → four (timing_cells timing) rest ≡ timing_cells timing ++ rest
timing_spread Undated rest = refl
timing_spread InOrder rest = refl
timing_spread (DateError date) rest = refl
