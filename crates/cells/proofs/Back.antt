-- A flag that is stored is read back. Assumes nothing.
use mathlib.Core.Path.{◌≡◌, refl}
use mathlib.Core.Bool.{Bool, true, false}
use Rattle.cells.specs.Cells.{flag_of, is_on}

pub flag_back : (on : Bool) → is_on (flag_of on) ≡ on
flag_back true = refl
flag_back false = refl
