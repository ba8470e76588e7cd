-- How long a stretch is, and where a field lies. Assumes nothing.
use mathlib.Core.Path.{◌≡◌, refl}
use mathlib.Core.Bool.{Bool, true, false, cond, not, ◌&&◌}
use mathlib.Core.List.{List}
use Prim.Native.Nat.{ℕ, ◌+◌, ◌-◌, ◌≤◌}
use native.Mathlib.Omega.{arith}
use borrow.Author.Tests.{leb-true}
use lib.Dec.{leb, eqb}
use lib.ListN.{length, drop, length-drop}
use lib.Seq.{length-take-le}
use denote.Ref.{Bor}
use Rattle.field.specs.Field.{is_within, stretch_of, stretch_place, field_place}

module _ (s : List ℕ) (position long : ℕ) where
  fits : is_within (length s) position long ≡ true → position - 1 + long ≤ length s
  fits = by (eqb position 0) (leb (position - 1 + long) (length s)) refl where
    by : (none within : Bool) → leb (position - 1 + long) (length s) ≡ within → (not none && within) ≡ true → position - 1 + long ≤ length s
    by false true h q = leb-true (position - 1 + long) (length s) h
    by false false h q = let z : ◌≡◌ {A = ℕ} 0 1 = cc in absurd (omega arith)
    by true within h q = let z : ◌≡◌ {A = ℕ} 0 1 = cc in absurd (omega arith)

  -- one that lies within the data has the length asked for
  pub whole : is_within (length s) position long ≡ true → length (stretch_of s position long) ≡ long
  unfolding stretch_of
  whole e =
      let within = fits e in
      rw e (length-take-le long (drop (position - 1) s) (omega (arith, length-drop (position - 1) s)))

  -- every one is at most that long, and no longer than the data
  pub short : (length (stretch_of s position long) ≤ long) × (length (stretch_of s position long) ≤ length s)
  unfolding stretch_of
  short = by (is_within (length s) position long) refl where
    by : (b : Bool) → is_within (length s) position long ≡ b
        → (length (stretch_of s position long) ≤ long) × (length (stretch_of s position long) ≤ length s)
    by true e =
        let size = whole e in
        let within = fits e in
        (omega arith, omega arith)
    by false e = rw e (omega arith, omega arith)

-- the place is told by the data's bytes and their place
pub same_place : (f f' s s' : Bor (List ℕ)) → f.now ≡ f'.now → f.ref_ptr ≡ f'.ref_ptr → s.now ≡ s'.now → s.ref_ptr ≡ s'.ref_ptr → (source position long : ℕ)
    → field_place f s source position long ≡ field_place f' s' source position long
unfolding field_place stretch_place
same_place f f' s s' bytes place bytes' place' source position long = by (eqb source 0) where
  by : (b : Bool) → stretch_place (cond b f s) position long ≡ stretch_place (cond b f' s') position long
  by true = rw (bytes, place)
  by false = rw (bytes', place')
