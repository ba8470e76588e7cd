-- Fields worked out: of which bytes of a paper they are. Assumes nothing.
use mathlib.Core.Bool.{Bool, true, false, ◌&&◌}
use mathlib.Core.List.{List, [], ◌∷◌}
use Prim.Native.Nat.{ℕ}
use lib.Dec.{T, eqb}
use Rattle.log_tail.specs.LogTail.{entry_in}
use Rattle.field.specs.Field.{stretch_of, field_of}
use Rattle.log_fields.specs.declared.Form.{Form}
use Rattle.log_fields.specs.LogFields.{part_of, field_in}

-- a byte, First's body (12), a byte, Second's body (8)
abbrev paper : List ℕ
paper = 0 ∷ 11 ∷ 12 ∷ 13 ∷ 14 ∷ 15 ∷ 16 ∷ 17 ∷ 18 ∷ 19 ∷ 20 ∷ 21 ∷ 22 ∷ 0 ∷ 31 ∷ 32 ∷ 33 ∷ 34 ∷ 35 ∷ 36 ∷ 37 ∷ 38 ∷ []

abbrev form : Form
form = record { profiles = 1; dated = false; cpace = false }

-- First's table: (0, 12, 1). Second's: (0, 12, 1), (1, 2, 2), (1, 0, 9)
abbrev tail : List ℕ
tail = 1 ∷ 2 ∷ 0xDC ∷ 1 ∷ 1 ∷ 0 ∷ 12 ∷ 1 ∷ 3 ∷ 0 ∷ 12 ∷ 1 ∷ 1 ∷ 2 ∷ 2 ∷ 1 ∷ 0 ∷ 9 ∷ []

abbrev field : (second i : ℕ) → List ℕ
field second i = field_in paper tail form (record { first = 1; second = second; cvr = 0; atc = 1; cid = 0x40 }) i

unfoldable pub same : (a b : List ℕ) → Bool
same [] [] = true
same [] (y ∷ b) = false
same (x ∷ a) [] = false
same (x ∷ a) (y ∷ b) = eqb x y && same a b

pub record Samples : Type 0 where
  pub of_first_lem : T (same (field 0 0) (22 ∷ []))
  pub first_of_second : T (same (field 14 0) (22 ∷ []))
  pub code_of_second : T (same (field 14 1) (32 ∷ 33 ∷ []))
  pub not_logged : T (same (field 14 2) [])

pub samples : Samples
unfolding same entry_in stretch_of field_of part_of field_in
samples =
    record {
      of_first_lem = tt;
      first_of_second = tt;
      code_of_second = tt;
      not_logged = tt;
    }
