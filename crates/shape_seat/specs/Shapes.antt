-- The shape of a paper in 17 cells: base, selecting (4), syllabus, dating (3), family (3), scripting, logging (3), unnamed.
use Rattle.std.specs.Prelude.{ℕ, ◌+◌, ◌%◌, ◌<◌, cond, List, [], ◌∷◌, ◌++◌, None, Option, Some}
use Rattle.shape.specs.declared.Family.{Family}
use Rattle.shape.specs.declared.Family.TheVariants.{Cpa, Cpace}
use Rattle.shape.specs.declared.Shape.{Shape}
use Rattle.cells.specs.Cells.{cell_at, flag_of, is_on, Byte}
use Rattle.shape.specs.Shape.{file, span}
use Rattle.shape.specs.declared.SelectionFile.{SelectionFile}
use Rattle.shape.specs.declared.Span.{Span}

abbrev pub selecting_cells : Option SelectionFile → List ℕ
selecting_cells None = 0 ∷ 0 ∷ 0 ∷ 0 ∷ []
selecting_cells (Some part) = 1 ∷ part.start ∷ part.end ∷ part.entries ∷ []

abbrev pub selecting_at : List ℕ → (at : ℕ) → Option SelectionFile
selecting_at cells at =
    cond (is_on (cell_at cells at)) (Some (file (cell_at cells (at + 1)) (cell_at cells (at + 2)) (cell_at cells (at + 3) % 256))) None

abbrev pub span_cells : Option Span → List ℕ
span_cells None = 0 ∷ 0 ∷ 0 ∷ []
span_cells (Some part) = 1 ∷ part.start ∷ part.end ∷ []

abbrev pub span_at : List ℕ → (at : ℕ) → Option Span
span_at cells at = cond (is_on (cell_at cells at)) (Some (span (cell_at cells (at + 1)) (cell_at cells (at + 2)))) None

abbrev pub family_cells : Family → List ℕ
family_cells Cpa = 0 ∷ 0 ∷ 0 ∷ []
family_cells (Cpace start end) = 1 ∷ start ∷ end ∷ []

abbrev pub family_at : List ℕ → (at : ℕ) → Family
family_at cells at = cond (is_on (cell_at cells at)) (Cpace (cell_at cells (at + 1)) (cell_at cells (at + 2))) Cpa

unfoldable pub shape_cells : Shape → List ℕ
shape_cells shape =
    (shape.base ∷ []) ++ selecting_cells shape.selecting ++ (shape.syllabus ∷ []) ++ span_cells shape.dating ++ family_cells shape.family
    ++ (flag_of shape.scripting ∷ []) ++ span_cells shape.logging ++ (shape.unnamed ∷ [])

unfoldable pub shape_in : List ℕ → Shape
shape_in cells =
    record {
      base = cell_at cells 0;
      selecting = selecting_at cells 1;
      syllabus = cell_at cells 5 % 256;
      dating = span_at cells 6;
      family = family_at cells 9;
      scripting = is_on (cell_at cells 12);
      logging = span_at cells 13;
      unnamed = cell_at cells 16 % 4294967296;
    }

-- fields in the ranges of their types, where a cell is wider than the field
abbrev pub SelectingFits : Option SelectionFile → Type 0
SelectingFits None = Unit
SelectingFits (Some part) = Byte part.entries

pub record ShapeFits (shape : Shape) : Type 0 where
  pub selecting : SelectingFits shape.selecting
  pub syllabus : Byte shape.syllabus
  pub unnamed : shape.unnamed < 4294967296
