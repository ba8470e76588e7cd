-- The stretch of First's data or of Second's that an entry of a log table names, and where it lies (document 02, Eight; CPA Annex D3).
use Rattle.std.specs.Prelude.{ℕ, ◌+◌, ◌-◌, Bool, cond, not, ◌&&◌, List, [], leb, eqb, length, take, drop}
use Rattle.std.specs.Borrow.{Bor}

-- so many bytes from a position on lie within the data; its first byte has position 1, and position 0 is "not logged"
abbrev pub is_within : (data-length position long : ℕ) → Bool
is_within data-length position long = not (eqb position 0) && leb (position - 1 + long) data-length

-- ITS BYTES; none where it does not lie within the data
unfoldable pub stretch_of : (s : List ℕ) (position long : ℕ) → List ℕ
stretch_of s position long = cond (is_within (length s) position long) (take long (drop (position - 1) s)) []

-- ITS PLACE: a pointer is a block of memory and an offset in it. The stretch begins position - 1 bytes behind the data's first byte, in the data's own
-- block; the empty one, where it does not lie within the data, at the data's first byte
unfoldable pub stretch_place : (s : Bor (List ℕ)) (position long : ℕ) → ℕ × ℕ
stretch_place s position long = cond (is_within (length s.now) position long) (s.ref_ptr.0, s.ref_ptr.1 + (position - 1)) s.ref_ptr

-- source 0 is First's data, any other Second's
abbrev pub source_of : {A : Type 0} → (first second : A) (source : ℕ) → A
source_of first second source = cond (eqb source 0) first second

-- A FIELD
unfoldable pub field_of : (first second : List ℕ) (source position long : ℕ) → List ℕ
field_of first second source position long = stretch_of (source_of first second source) position long

unfoldable pub field_place : (first second : Bor (List ℕ)) (source position long : ℕ) → ℕ × ℕ
field_place first second source position long = stretch_place (source_of first second source) position long
