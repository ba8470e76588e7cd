-- A Start that selects is what the file selects, and every other record reads as where nothing is selected. Assumes nothing.
use mathlib.Core.Path.{◌≡◌, refl}
use mathlib.Core.Bool.{true, false}
use mathlib.Core.List.{List}
use Prim.Native.Nat.{ℕ}
use native.Mathlib.Omega.{arith}
use Rattle.slot.specs.declared.Slots.{Slots}
use Rattle.shape.specs.declared.Family.{Family}
use Rattle.command.specs.Command.{command_of, start_selected, selecting_of, is_selecting, selected_in, read_by}
use Rattle.std.specs.Prelude.{None, Option, Some}
use Rattle.shape.specs.declared.SelectionFile.{SelectionFile}
use Rattle.shape.specs.declared.Span.{Span}

module _ (selecting : Option SelectionFile) (dating : Option Span) (family : Family) (slots : Slots) (paper : List ℕ) (kind : ℕ) (body : List ℕ) where
  pub selected : is_selecting selecting kind ≡ true
      → read_by selecting dating family slots paper kind body ≡ start_selected family (selected_in selecting slots paper body) body
  unfolding selecting_of
  selected e = by selecting e where
    by : (selecting : Option SelectionFile) → is_selecting selecting kind ≡ true
        → read_by selecting dating family slots paper kind body ≡ start_selected family (selected_in selecting slots paper body) body
    by None e = absurd (let z : ◌≡◌ {A = ℕ} 0 1 = cc in omega arith)
    by (Some part) e = rw e

  pub unselected : is_selecting selecting kind ≡ false → read_by selecting dating family slots paper kind body ≡ command_of dating family kind body
  unfolding selecting_of
  unselected e = by selecting e where
    by : (selecting : Option SelectionFile) → is_selecting selecting kind ≡ false
        → read_by selecting dating family slots paper kind body ≡ command_of dating family kind body
    by None e = refl
    by (Some part) e = rw e
