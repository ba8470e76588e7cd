-- Runs of stores one behind the other are one run of stores. Assumes nothing.
use mathlib.Core.Path.{◌≡◌, refl, ap, sym, ◌∙◌}
use mathlib.Core.List.{List, [], ◌∷◌, ◌++◌, append-nil}
use Prim.Native.Nat.{ℕ, zero, suc, ◌+◌, ◌*◌}
use native.Mathlib.Nat.{add-zero, add-suc, suc-add, zero-add}
use native.Mathlib.Omega.{arith}
use lib.ListN.{length, set, drop, drop_of_length-le, length-append}
use lib.Seq.{sets, sets-eq}
use Rattle.load_parts.specs.LoadParts.{rows}

joined : (l a b : List ℕ) (i j : ℕ) → j ≡ i + length a → sets (sets l i a) j b ≡ sets l i (a ++ b)
joined l [] b i j e = ap (λ (k : ℕ). sets l k b) (e ∙ add-zero i)
joined l (v ∷ a) b i j e = joined _ a b (suc i) j (e ∙ add-suc i (length a) ∙ sym (suc-add i (length a)))

-- a run of m words, and one behind it
pub record Run (l : List ℕ) (i : ℕ) (a : List ℕ) (m : ℕ) (w : List ℕ) : Type 0 where
  pub is : w ≡ sets l i a
  pub size : length a ≡ m

pub behind : (l a b : List ℕ) {w v : List ℕ} (i j m n : ℕ) → Run l i a m w → v ≡ sets w j b → length b ≡ n → j ≡ i + m
    → Run l i (a ++ b) (m + n) v
behind l a b {w} {v} i j m n r e s p =
    let size = r.size in
    record {
      is = e ∙ ap (λ (x : List ℕ). sets x j b) r.is ∙ joined l a b i j (omega arith);
      size = length-append a b ∙ omega arith;
    }

-- one word, and one word behind a run
pub first : (l : List ℕ) (i : ℕ) {v x : ℕ} → v ≡ x → Run l i (x ∷ []) 1 (set l i v)
first l i e = record { is = ap (set l i) e; size = refl }

pub next_word_lem : {l a w : List ℕ} {i m v x : ℕ} (j : ℕ) → Run l i a m w → v ≡ x → j ≡ i + m → Run l i (a ++ x ∷ []) (m + 1) (set w j v)
next_word_lem {l} {a} {w} {i} {m} {v} {x} j r e p = behind l a (x ∷ []) i j m 1 r (ap (set w j) e) refl p

-- n rows of m words each, one behind the other from place i on, row by row
module _ (l : List ℕ) (i m : ℕ) (row : ℕ → List ℕ) (size : (k : ℕ) → length (row k) ≡ m) where
  pub rows-size : (n : ℕ) → length (rows n row) ≡ m * n
  rows-size zero = omega arith
  rows-size (suc n) = simp (length-append, rows-size n, size n) (omega arith)

  next : (n j : ℕ) {w v : List ℕ} → w ≡ sets l i (rows n row) → v ≡ sets w j (row n) → j ≡ i + m * n → v ≡ sets l i (rows (suc n) row)
  next n j e f p =
      f ∙ ap (λ (x : List ℕ). sets x j (row n)) e ∙ joined l (rows n row) (row n) i j (omega (arith, rows-size n))

  pub two-rows : (j : ℕ) {a b : List ℕ} → a ≡ sets l i (row 0) → b ≡ sets a j (row 1) → j ≡ i + m → b ≡ sets l i (rows 2 row)
  two-rows j a b p = next 1 j (next 0 i refl a (omega arith)) b (omega arith)

  pub four-rows : {a b c d : List ℕ} → a ≡ sets l i (row 0) → b ≡ sets a (i + m) (row 1) → c ≡ sets b (i + m * 2) (row 2)
      → d ≡ sets c (i + m * 3) (row 3)
      → d ≡ sets l i (rows 4 row)
  four-rows a b c d = next 3 (i + m * 3) (next 2 (i + m * 2) (two-rows (i + m) a b refl) c refl) d refl

  pub five-rows : {a b c d e : List ℕ} → a ≡ sets l i (row 0) → b ≡ sets a (i + m) (row 1) → c ≡ sets b (i + m * 2) (row 2)
      → d ≡ sets c (i + m * 3) (row 3)
      → e ≡ sets d (i + m * 4) (row 4)
      → e ≡ sets l i (rows 5 row)
  five-rows a b c d e = next 4 (i + m * 4) (four-rows a b c d) e refl

-- as many stores as there are words leave nothing of what was there
pub all : (l w : List ℕ) → length w ≡ length l → sets l 0 w ≡ w
all l w e =
    let over : drop (length w) l ≡ [] = drop_of_length-le l {i = length w} (omega arith) in
    sets-eq w l 0 (omega arith) ∙ ap (λ (k : ℕ). w ++ drop k l) (zero-add (length w)) ∙ ap (λ (r : List ℕ). w ++ r) over ∙ append-nil w
