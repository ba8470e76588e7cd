-- Laws of the definitions, as the code goes through the bytes. Assumes nothing.
use mathlib.Core.Path.{◌≡◌, refl, sym, ap, ap₂, ◌∙◌}
use mathlib.Core.List.{List}
use mathlib.Core.Bool.{Bool, true, false, ◌&&◌, cond}
use Prim.Native.Nat.{ℕ, ◌+◌, ◌-◌, ◌≤◌, ◌<◌}
use native.Mathlib.Omega.{arith}
use lib.ListN.{length, take, drop, get_or-eq_default}
use lib.Dec.{ltb, leb, eqb}
use borrow.Author.Tests.{ltb-true, ltb-false, leb-true}
use Rattle.wire.specs.Wire.{byte, number}
use Rattle.wire.proofs.Pairs.{both}
use Rattle.element.specs.declared.Write.{Write}
use Rattle.element.specs.Element.{is_length, length_size, length_at, is_one_of, meaning_of, head_size, element_size, element_meaning}
use Rattle.std.specs.Prelude.{None, Some, Option}

-- ---- a part of a list
-- the part from a to e, by the size that it has
pub part : (s : List ℕ) (a e h n : ℕ) → a ≡ h → e ≡ h + n → take (e - a) (drop a s) ≡ take n (drop h s)
part s a e h n p q = let r : e - a ≡ n = omega arith in ap₂ (λ (m k : ℕ). take m (drop k s)) r p

-- a byte that is not 0 stands within the list
pub stands : (s : List ℕ) (at : ℕ) → 0 < byte s at → at < length s
stands s at h = by (ltb at (length s)) refl where
  by : (t : Bool) → ltb at (length s) ≡ t → at < length s
  by true e = ltb-true at (length s) e
  by false e = let z : byte s at ≡ 0 = get_or-eq_default s 0 (ltb-false at (length s) e) in absurd (omega arith)

-- ---- a test that something passed
pub tested : {A : Type 0} (t : Bool) (m : Option A) (w : A) → cond t m None ≡ Some w → (t ≡ true) × (m ≡ Some w)
tested true m w e = (refl, e)
tested false m w e = let z : ◌≡◌ {A = ℕ} 0 1 = cc in absurd (omega arith)

-- ---- an element
pub and_fits : (a : Bool) (m n : ℕ) → (a && leb m n) ≡ true → m ≤ n
and_fits a m n h = leb-true m n (both a (leb m n) h).1

-- a tag that is one of four is not before the first
pub from_first : (object wanted first tag : ℕ) (r : Bool) → r ≡ is_one_of first tag → (eqb object wanted && r) ≡ true → first ≤ tag
from_first object wanted first tag r e h = leb-true first tag (both _ (leb tag (first + 3)) (sym e ∙ (both (eqb object wanted) r h).1)).0

some_bytes : (b : Bool) → 1 ≤ cond b 2 1
some_bytes true = omega arith
some_bytes false = omega arith

pub head-some : (s : List ℕ) → 3 ≤ head_size s
unfolding head_size length_size
head-some s = omega (arith, some_bytes (eqb (byte s 2) 0x81))

pub element-some : (s : List ℕ) → 3 ≤ element_size s
unfolding element_size
element-some s = omega (arith, head-some s)

-- an element that writes lies within the list
pub element-fits : (o : ℕ) (s : List ℕ) (w : Write) → element_meaning o s ≡ Some w → element_size s ≤ length s
unfolding element_meaning
element-fits o s w e =
    let m = meaning_of o (number s 0 2) (take (length_at s 2) (drop (head_size s) s)) in
    and_fits (is_length (byte s 2)) (element_size s) (length s) (tested (is_length (byte s 2) && leb (element_size s) (length s)) m w e).0
