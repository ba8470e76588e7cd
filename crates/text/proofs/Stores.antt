-- Texts stored one behind the other are one text. Assumes nothing.
use mathlib.Core.Path.{◌≡◌, ap, sym, ◌∙◌}
use mathlib.Core.List.{List, [], ◌∷◌, ◌++◌}
use Prim.Native.Nat.{ℕ, suc, ◌+◌, ◌≤◌}
use native.Mathlib.Nat.{add-zero, add-suc, suc-add}
use native.Mathlib.Omega.{arith}
use lib.ListN.{length, length-append}
use lib.Seq.{sets}
use Rattle.text.specs.Stored.{Stored}

joined : (l a b : List ℕ) (i j : ℕ) → j ≡ i + length a → sets (sets l i a) j b ≡ sets l i (a ++ b)
joined l [] b i j e = ap (λ (k : ℕ). sets l k b) (e ∙ add-zero i)
joined l (v ∷ a) b i j e = joined _ a b (suc i) j (e ∙ add-suc i (length a) ∙ sym (suc-add i (length a)))

pub next : {l w v a b : List ℕ} {i j k m n : ℕ} → Stored l i a m j w → Stored w j b n k v → Stored l i (a ++ b) (m + n) k v
next {l} {w} {v} {a} {b} {i} {j} {k} {m} {n} p q =
    let size = length-append a b in
    record {
      is = q.is ∙ ap (λ (x : List ℕ). sets x j b) p.is ∙ joined l a b i j p.behind;
      behind = omega arith;
      short = omega arith;
    }

pub within : {l w a : List ℕ} {i j m o : ℕ} → Stored l i a m j w → m ≤ o → Stored l i a o j w
within p h = record { is = p.is; behind = p.behind; short = omega arith }
