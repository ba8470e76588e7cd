-- Bytes taken apart: a part written out, and the two forms of a length. Assumes nothing.
use mathlib.Core.Path.{◌≡◌, refl, sym, ap, ap₂, ◌∙◌}
use mathlib.Core.List.{List, [], ◌∷◌, ◌++◌}
use mathlib.Core.Bool.{Bool, true, false, ◌||◌}
use Prim.Native.Nat.{ℕ, zero, suc, ◌+◌, ◌*◌, ◌≤◌, ◌<◌}
use native.Mathlib.Nat.{add-zero}
use native.Mathlib.Omega.{arith}
use lib.ListN.{length, take, drop, take-append-drop}
use lib.Seq.{drop-cons, drop-drop}
use lib.Dec.{ltb, eqb}
use borrow.Author.Tests.{ltb-true, eqb-true}
use Rattle.wire.specs.Wire.{byte, number}
use Rattle.element.specs.Element.{is_length, length_size, length_at}
use Rattle.put_laws.specs.Written.{Form, short, long, length_bytes, limit}
use Rattle.put_laws.specs.Written.{Bytes}

-- ---- parts of bytes, written out
pub two_at : (s : List ℕ) (at : ℕ) → byte s at * 256 + byte s (at + 1) ≡ number s at 2
unfolding number
two_at s at = rw (add-zero at) (omega arith)

unfoldable pub spell : ℕ → ℕ → List ℕ → List ℕ
spell k zero s = []
spell k (suc n) s = byte s k ∷ spell (k + 1) n s

pub spelled : (k n : ℕ) (s : List ℕ) → k + n ≤ length s → take n (drop k s) ≡ spell k n s
unfolding spell
spelled k zero s h = refl
spelled k (suc n) s h =
    let e : suc k ≡ k + 1 = omega arith in
    ap (take (suc n)) (drop-cons s k 0 (omega arith)) ∙ ap (λ l. byte s k ∷ l) (ap (λ m. take n (drop m s)) e ∙ spelled (k + 1) n s (omega arith))

-- a part and what is behind it; four parts of a list
rejoined : (s : List ℕ) (a b : ℕ) → take b (drop a s) ++ drop (a + b) s ≡ drop a s
rejoined s a b = ap (λ r. take b (drop a s) ++ r) (sym (drop-drop b a s)) ∙ take-append-drop b (drop a s)

pub behind-two : (s : List ℕ) (a b c : ℕ) → take b (drop a s) ++ (take c (drop (a + b) s) ++ drop (a + b + c) s) ≡ drop a s
behind-two s a b c = ap (λ r. take b (drop a s) ++ r) (rejoined s (a + b) c) ∙ rejoined s a b

-- ---- a length at a place is in one of the two forms
pub record LengthIs (s : List ℕ) (k : ℕ) : Type 0 where
  pub form : Form
  pub bytes : take (length_size s k) (drop k s) ≡ length_bytes form (length_at s k)
  pub fits : length_at s k < limit form

one_test : (t : Bool) → (t || false) ≡ true → t ≡ true
one_test true e = refl
one_test false e = e

length_by : (s : List ℕ) (k : ℕ) → Bytes s → is_length (byte s k) ≡ true → k + length_size s k ≤ length s → (t : Bool) → eqb (byte s k) 0x81 ≡ t → LengthIs s k
unfolding length_size length_at spell
length_by s k h r l true e =
    let n : length_size s k ≡ 2 = simp (e) in
    let v : length_at s k ≡ byte s (k + 1) = simp (e) in
    record {
      form = long;
      bytes = ap (λ m. take m (drop k s)) n ∙ spelled k 2 s (omega arith) ∙ ap₂ (λ x y. x ∷ y ∷ []) (eqb-true (byte s k) 0x81 e) (sym v);
      fits = rw v (h (k + 1));
    }
length_by s k h r l false e =
    let n : length_size s k ≡ 1 = simp (e) in
    let v : length_at s k ≡ byte s k = simp (e) in
    let small = ltb-true (byte s k) 0x80 (one_test (ltb (byte s k) 0x80) (simp (e) at r)) in
    record {
      form = short;
      bytes = ap (λ m. take m (drop k s)) n ∙ spelled k 1 s (omega arith) ∙ ap (λ x. x ∷ []) (sym v);
      fits = rw v small;
    }

pub length_is : (s : List ℕ) (k : ℕ) → Bytes s → is_length (byte s k) ≡ true → k + length_size s k ≤ length s → LengthIs s k
length_is s k h r l = length_by s k h r l (eqb (byte s k) 0x81) refl
