-- A shape that is stored is read back, whatever stands behind it, and how many cells it takes. Assumes nothing.
use mathlib.Core.Path.{◌≡◌, refl, sym, ap, ◌∙◌}
use mathlib.Core.List.{List, [], ◌∷◌, ◌++◌, append_assoc, append-nil}
use Prim.Native.Nat.{ℕ}
use native.Mathlib.Nat.{mod-eq_of_lt}
use lib.ListN.{length}
use Rattle.shape.specs.declared.Family.{Family}
use Rattle.shape.specs.declared.Family.TheVariants.{Cpa, Cpace}
use Rattle.shape.specs.declared.Shape.{Shape}
use Rattle.cells.specs.Cells.{flag_of}
use Rattle.cells.proofs.Spread.{three, four}
use Rattle.cells.proofs.Back.{flag_back}
use Rattle.shape_seat.specs.Shapes.{selecting_cells, selecting_at, span_cells, span_at, family_cells, family_at, shape_cells, shape_in}
use Rattle.shape_seat.specs.Shapes.{SelectingFits, ShapeFits}
use Rattle.shape_seat.proofs.Spread.{selecting_spread, span_spread, family_spread}
use Rattle.std.specs.Prelude.{None, Option, Some}
use Rattle.shape.specs.Shape.{file}
use Rattle.shape.specs.declared.SelectionFile.{SelectionFile}
use Rattle.shape.specs.declared.Span.{Span}

selecting_back : (selecting : Option SelectionFile) → SelectingFits selecting → selecting_at (selecting_cells selecting) 0 ≡ selecting
selecting_back None fits = refl
selecting_back (Some part) fits = ap ((λ entries. Some (file part.start part.end entries))) (mod-eq_of_lt fits)

span_back : (tail : Option Span) → span_at (span_cells tail) 0 ≡ tail
span_back None = refl
span_back (Some part) = refl

family_back : (family : Family) → family_at (family_cells family) 0 ≡ family
family_back Cpa = refl
family_back (Cpace start end) = refl

module _ (shape : Shape) where
  spread : (rest : List ℕ) → shape_cells shape ++ rest
      ≡ shape.base ∷ four (selecting_cells shape.selecting) (shape.syllabus
      ∷ three (span_cells shape.dating) (three (family_cells shape.family) (flag_of shape.scripting
      ∷ three (span_cells shape.logging) (shape.unnamed ∷ rest))))
  unfolding shape_cells
  spread rest =
      simp (
        append_assoc,
        selecting_spread shape.selecting,
        span_spread shape.dating,
        family_spread shape.family,
        span_spread shape.logging,
      )

  pub shape_back : ShapeFits shape → (rest : List ℕ) → shape_in (shape_cells shape ++ rest) ≡ shape
  unfolding shape_in
  shape_back fits rest =
      rw (spread rest)
      (simp (
        selecting_back shape.selecting fits.selecting,
        span_back shape.dating,
        family_back shape.family,
        flag_back shape.scripting,
        span_back shape.logging,
        mod-eq_of_lt fits.syllabus,
        mod-eq_of_lt fits.unnamed,
      ))

  pub shape_size : length (shape_cells shape) ≡ 17
  shape_size = sym (ap length (append-nil (shape_cells shape))) ∙ ap length (spread [])
