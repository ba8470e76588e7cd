-- Texts put one behind the other are one text. Assumes nothing.
use mathlib.Core.Path.{◌≡◌, refl, ap, sym, ◌∙◌}
use mathlib.Core.Bool.{Bool, true, false}
use mathlib.Core.List.{List, [], ◌∷◌, ◌++◌}
use Prim.Native.Nat.{ℕ, suc, ◌+◌, ◌≤◌}
use native.Mathlib.Omega.{arith}
use borrow.Author.Tests.{leb-true, leb-false}
use lib.Dec.{leb}
use lib.ListN.{length, length-append}
use lib.Seq.{sets, set_out, length-sets}
use Rattle.text.proofs.Laws.{sets_on}
use Rattle.words.specs.Put.{Put}

outside : (l b : List ℕ) (i : ℕ) → length l ≤ i → sets l i b ≡ l
outside l [] i h = refl
outside l (v ∷ b) i h = ap (λ (x : List ℕ). sets x (suc i) b) (set_out l i v h) ∙ outside l b (suc i) (omega arith)

pub nothing : (l : List ℕ) (i : ℕ) → Put l i [] i l
nothing l i = record { is = refl; behind = omega arith }

pub next : {l w v a b : List ℕ} {i j k : ℕ} → Put l i a j w → Put w j b k v → Put l i (a ++ b) k v
next {l} {w} {v} {a} {b} {i} {j} {k} p q =
    let size = length-append a b in
    let long : length w ≡ length l = ap length p.is ∙ length-sets l i a in
    let place = p.behind in
    let end = q.behind in
    record { is = q.is ∙ ap (λ (x : List ℕ). sets x j b) p.is ∙ by (leb (i + length a) (length l)) refl; behind = omega arith } where
      by : (t : Bool) → leb (i + length a) (length l) ≡ t → sets (sets l i a) j b ≡ sets l i (a ++ b)
      by true e =
          let room = leb-true (i + length a) (length l) e in
          let place = p.behind in
          let here : j ≡ i + length a = omega arith in
          ap (λ (n : ℕ). sets (sets l i a) n b) here ∙ sets_on l a b i
      by false e =
          let full = leb-false (i + length a) (length l) e in
          let place = p.behind in
          let long : length (sets l i a) ≡ length l = length-sets l i a in
          outside (sets l i a) b j (omega arith) ∙ sym (outside (sets l i a) b (i + length a) (omega arith)) ∙ sets_on l a b i
