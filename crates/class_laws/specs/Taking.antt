-- Papers taken into a class's sheet one after the other (document 02, Ten).
use Rattle.std.specs.Prelude.{ℕ, Bool, true, false, cond, ◌&&◌, List, [], ◌∷◌, Err, Ok, Result}
use Rattle.class_sheet.specs.ClassSheet.{taken_of, sheet_after}
use Rattle.refusal.specs.declared.Refusal.{Refusal}

abbrev pub is_done : Result Unit Refusal → Bool
is_done (Ok done) = true
is_done (Err refusal) = false

-- the sheet after papers, and those of them that were taken
unfoldable pub sheet_of : (sheet : List ℕ) (papers : List (List ℕ)) → List ℕ
sheet_of sheet [] = sheet
sheet_of sheet (paper ∷ more) = sheet_of (sheet_after sheet paper) more

unfoldable pub taken_from : (sheet : List ℕ) (papers : List (List ℕ)) → List (List ℕ)
taken_from sheet [] = []
taken_from sheet (paper ∷ more) =
    let later = taken_from (sheet_after sheet paper) more in
    cond (is_done (taken_of sheet paper)) (paper ∷ later) later

-- every one of them
unfoldable pub all_done : (sheet : List ℕ) (papers : List (List ℕ)) → Bool
all_done sheet [] = true
all_done sheet (paper ∷ more) = is_done (taken_of sheet paper) && all_done (sheet_after sheet paper) more
