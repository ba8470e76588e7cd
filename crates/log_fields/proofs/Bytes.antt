-- Which bytes of the paper a field is, by its table's bytes. Assumes nothing.
use mathlib.Core.Path.{◌≡◌, refl, ◌∙◌}
use mathlib.Core.Bool.{Bool, true, false, cond}
use mathlib.Core.List.{List}
use Prim.Native.Nat.{ℕ, ◌+◌, ◌-◌, ◌*◌, ◌≤◌, ◌<◌}
use native.Mathlib.Omega.{arith}
use borrow.Author.Tests.{le-leb, eq-eqb, ne_eqb, eqb-true}
use lib.Dec.{eqb}
use lib.ListN.{length, drop, length-drop}
use lib.Seq.{length-take-le, get_or-take, get_or-drop}
use Rattle.wire.specs.Wire.{byte}
use Rattle.log_tail.specs.LogTail.{entry_in}
use Rattle.field.specs.Field.{stretch_of, field_of}
use Rattle.ring.specs.declared.Record.{Record}
use Rattle.log_fields.specs.declared.Form.{Form}
use Rattle.log_fields.specs.LogFields.{first_length, part_of, first_data, second_data, field_in}

-- a stretch of so many bytes of the paper, from a place on
module _ (paper : List ℕ) (at bytes : ℕ) (lies : at + bytes ≤ length paper) where
  part-size : length (part_of paper at bytes) ≡ bytes
  unfolding part_of
  part-size = length-take-le bytes (drop at paper) (omega (arith, length-drop at paper))

  part-byte : (k : ℕ) → k < bytes → byte (part_of paper at bytes) k ≡ byte paper (at + k)
  unfolding part_of
  part-byte k h = get_or-take bytes (drop at paper) k 0 h ∙ get_or-drop at paper k 0

  part-stretch : (position long : ℕ) → 1 ≤ position → position - 1 + long ≤ bytes
      → (length (stretch_of (part_of paper at bytes) position long) ≡ long)
      × ((j : ℕ) → j < long → byte (stretch_of (part_of paper at bytes) position long) j ≡ byte paper (at + (position - 1 + j)))
  unfolding stretch_of
  part-stretch position long some fits =
      let s = part_of paper at bytes in
      let size = part-size in
      rw (ne_eqb position 0 (λ e. omega arith), le-leb (position - 1 + long) (length s) (omega arith)) (
        length-take-le long (drop (position - 1) s) (omega (arith, length-drop (position - 1) s)),
        λ j h. get_or-take long (drop (position - 1) s) j 0 h ∙ get_or-drop (position - 1) s j 0 ∙ part-byte (position - 1 + j) (omega arith),
      )

-- THE FIELD of an entry at a place of the tail, source, position and length: so many bytes from the position on, the first of First's body having
-- position 1 for source 0, and the first of Second's for source 1
abbrev pub IsField : (paper tail : List ℕ) → Form → Record → (at : ℕ) → (field : List ℕ) → Type 0
IsField paper tail form kept at field =
    let of_first = eqb (byte tail at) 0 in
    let position = byte tail (at + 1) in
    let long = byte tail (at + 2) in
    1 ≤ position → position - 1 + long ≤ cond of_first (first_length form) 8
    → (length field ≡ long)
    × ((j : ℕ) → j < long → byte field j ≡ byte paper (cond of_first kept.first kept.second + (position - 1 + j)))

module _ (paper tail : List ℕ) (form : Form) (kept : Record) (first : kept.first + first_length form ≤ length paper) where
  abbrev p : ℕ
  p = form.profiles

  abbrev field_by : (at : ℕ) (second : List ℕ) → List ℕ
  field_by at second = field_of (first_data paper form kept) second (byte tail at) (byte tail (at + 1)) (byte tail (at + 2))

  -- by an entry of source 0, and by any other where Second lies in the paper
  of_first_lem : (at : ℕ) (second : List ℕ) → byte tail at ≡ 0 → IsField paper tail form kept at (field_by at second)
  unfolding field_of
  of_first_lem at second source =
      rw (eq-eqb (byte tail at) 0 source)
      (part-stretch paper kept.first (first_length form) first (byte tail (at + 1)) (byte tail (at + 2)))

  of_either : kept.second + 8 ≤ length paper → (at : ℕ) → IsField paper tail form kept at (field_by at (part_of paper kept.second 8))
  unfolding field_of
  of_either lies at = by (eqb (byte tail at) 0) refl where
    by : (b : Bool) → eqb (byte tail at) 0 ≡ b → IsField paper tail form kept at (field_by at (part_of paper kept.second 8))
    by true e = of_first_lem at (part_of paper kept.second 8) (eqb-true (byte tail at) 0 e)
    by false e = rw e (part-stretch paper kept.second 8 lies (byte tail (at + 1)) (byte tail (at + 2)))

  -- the entry is First's table's, or Second's
  by_first : kept.second ≡ 0 → (i : ℕ) → field_in paper tail form kept i ≡ field_by (4 + p + 3 * i) (second_data paper kept)
  unfolding field_in entry_in
  by_first none i = let at : 3 + p + 1 + 3 * i ≡ 4 + p + 3 * i = omega arith in rw (eq-eqb kept.second 0 none, at)

  by-second : (kept.second ≡ 0 → ⊥) → (i : ℕ) → field_in paper tail form kept i ≡ field_by (5 + p + 3 * byte tail (3 + p) + 3 * i) (part_of paper kept.second 8)
  unfolding field_in entry_in
  by-second there i =
      let n = byte tail (3 + p) in
      let at : 3 + p + 1 + 3 * n + 1 + 3 * i ≡ 5 + p + 3 * n + 3 * i = omega arith in
      rw (ne_eqb kept.second 0 there, at)

  -- OF A RECORD OF FIRST: by First's table, which names First's data alone
  pub first_field : kept.second ≡ 0 → (i : ℕ) → byte tail (4 + p + 3 * i) ≡ 0 → IsField paper tail form kept (4 + p + 3 * i) (field_in paper tail form kept i)
  first_field none i source = rw (by_first none i) (of_first_lem (4 + p + 3 * i) (second_data paper kept) source)

  -- OF A RECORD OF SECOND: by Second's table, behind First's
  pub second-field : (kept.second ≡ 0 → ⊥) → kept.second + 8 ≤ length paper
      → (i : ℕ) → IsField paper tail form kept (5 + p + 3 * byte tail (3 + p) + 3 * i) (field_in paper tail form kept i)
  second-field there lies i = rw (by-second there i) (of_either lies (5 + p + 3 * byte tail (3 + p) + 3 * i))
