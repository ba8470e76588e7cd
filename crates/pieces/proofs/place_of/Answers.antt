-- The first mark's place is the place, and the end stands where there is none.
use borrow.Author.Rules.{rules}
use borrow.Author.Tests.{tests, eq-eqb, ne_eqb}
use native.Mathlib.Omega.{arith}
use mathlib.Core.Path.{◌≡◌, refl, sym, ◌∙◌}
use Rattle.std.proofs.lemmas.Iterator.{IsFirst-from_position, index_from_first, YieldsList-from_slice}
use Rattle.std.specs.Prelude.{ℕ, suc, ◌+◌, ◌≤◌, Bool, true, false, cond, eqb, List, [], ◌∷◌, length}
use Rattle.pieces.specs.Pieces.{place_of}
use Rattle.pieces.proofs.place_of.Goals as goal

hit : (mark c : ℕ) (text : List ℕ) → c ≡ mark → place_of mark (c ∷ text) ≡ 0
unfolding place_of
hit mark c text e = rw (eq-eqb c mark e)

miss : (mark c : ℕ) (text : List ℕ) → (c ≡ mark → ⊥) → place_of mark (c ∷ text) ≡ place_of mark text + 1
unfolding place_of
miss mark c text n = rw (ne_eqb c mark n) (omega arith)

within : (mark : ℕ) (text : List ℕ) → place_of mark text ≤ length text
unfolding place_of
within mark [] = omega arith
within mark (c ∷ text) = by (eqb c mark) (within mark text) where
  by : (b : Bool) → place_of mark text ≤ length text → cond b 0 (suc (place_of mark text)) ≤ suc (length text)
  by true h = omega arith
  by false h = omega arith

pub returns : goal.returns
unfolding place_of
returns c =
    let a = c.args in
    let first = IsFirst-from_position _ _ c.position.result (λ x. x ≡ a.mark) (λ x. x ≡ a.mark → ⊥) c.position.ensures.ran
    (YieldsList-from_slice a.text.now cc) (λ x q k. search (rules, tests)) (λ x q k. search (rules, tests)) in
    let place = index_from_first (place_of a.mark) (λ x. x ≡ a.mark) (λ x. x ≡ a.mark → ⊥) refl (λ x xs. hit a.mark x xs) (λ x xs. miss a.mark x xs) a.text.now c.position.result first in
    (c.unwrap_or.ensures ∙ sym place, omega (arith, c.unwrap_or.ensures ∙ sym place, within a.mark a.text.now))
