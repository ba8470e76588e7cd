-- A text before its first mark and behind it. Assumes nothing.
use mathlib.Core.Path.{◌≡◌, refl, sym, ap, ◌∙◌}
use mathlib.Core.List.{List, [], ◌∷◌, ◌++◌, append_assoc, append-nil}
use Prim.Native.Nat.{ℕ, suc, ◌+◌, ◌<◌}
use native.Mathlib.Nat.{add-suc}
use native.Mathlib.Omega.{arith}
use borrow.Author.Tests.{eq-eqb, ne_eqb}
use lib.ListN.{length, take, drop, get_or}
use lib.Seq.{take-append-add, drop-append-add}
use Rattle.text.proofs.Each.{Each, none, more}
use Rattle.text.proofs.Fields.{Fed}
use Rattle.replies.specs.Replies.{place_of, before, behind}

-- no byte is the mark
abbrev pub Free : (mark : ℕ) → List ℕ → Type 0
Free mark = Each (λ b. b ≡ mark → ⊥)

module _ (mark : ℕ) where
  place : {f : List ℕ} → Free mark f → (s : List ℕ) → place_of mark (f ++ s) ≡ length f + place_of mark s
  unfolding place_of
  place none s = omega arith
  place (more {a = b} n p) s = rw (ne_eqb b mark n, place p s) (omega arith)

  -- what has no mark is passed
  pub before_more : {f : List ℕ} → Free mark f → (s : List ℕ) → before mark (f ++ s) ≡ f ++ before mark s
  unfolding before
  before_more {f} p s = ap (λ (k : ℕ). take k (f ++ s)) (place p s) ∙ take-append-add f s (place_of mark s)

  behind_more : {f : List ℕ} → Free mark f → (s : List ℕ) → behind mark (f ++ s) ≡ behind mark s
  unfolding behind
  behind_more {f} p s =
      ap (λ (k : ℕ). drop (suc k) (f ++ s)) (place p s)
      ∙ ap (λ (k : ℕ). drop k (f ++ s)) (sym (add-suc (length f) (place_of mark s)))
      ∙ drop-append-add f s (suc (place_of mark s))

  at_mark : (s : List ℕ) → (before mark (mark ∷ s) ≡ []) × (behind mark (mark ∷ s) ≡ s)
  unfolding before behind place_of
  at_mark s = rw (eq-eqb mark mark refl) (refl, refl)

  module _ {f : List ℕ} (p : Free mark f) where
    pub before-first : (s : List ℕ) → before mark (f ++ mark ∷ s) ≡ f
    before-first s = before_more p (mark ∷ s) ∙ ap (λ (t : List ℕ). f ++ t) (at_mark s).0 ∙ append-nil f

    pub behind-first : (s : List ℕ) → behind mark (f ++ mark ∷ s) ≡ s
    behind-first s = behind_more p (mark ∷ s) ∙ (at_mark s).1

    pub behind-none : behind mark f ≡ []
    unfolding behind place_of
    behind-none = ap (behind mark) (sym (append-nil f)) ∙ behind_more p []

  free : (f : List ℕ) → ((i : ℕ) → i < length f → get_or f i 0 ≡ mark → ⊥) → Free mark f
  free [] h = none
  free (b ∷ f) h = more (h 0 (omega arith)) (free f (λ i l. h (suc i) (omega arith)))

-- A LINE AND WHAT FOLLOWS IT: behind the line feed stands what follows, before it the line less its line feed
module _ {line : List ℕ} (fed : Fed line) (rest : List ℕ) where
  whole : line ++ rest ≡ fed.front ++ 10 ∷ rest
  whole = ap (λ (t : List ℕ). t ++ rest) fed.ends ∙ append_assoc fed.front (10 ∷ []) rest

  pub before-feed : before 10 (line ++ rest) ≡ fed.front
  before-feed = ap (before 10) whole ∙ before-first 10 (free 10 fed.front fed.alone) rest

  pub behind-feed : behind 10 (line ++ rest) ≡ rest
  behind-feed = ap (behind 10) whole ∙ behind-first 10 (free 10 fed.front fed.alone) rest
