-- No second answer: a contract that equates what is handed back with a definition fits one answer. Assumes nothing.
use mathlib.Core.Path.{◌≡◌, sym, ◌∙◌}

abbrev pub Single {ℓ κ} : {A : Type ℓ} → (A → Type κ) → Type (ℓ ⊔ κ)
Single {A = A} P = (x y : A) → P x → P y → x ≡ y

-- an equation
pub by-equation {ℓ} : {A : Type ℓ} (a : A) → Single (λ (x : A). x ≡ a)
by-equation a x y p q = p ∙ sym q

-- an equation of the answer and one of the lent bytes: the pair is one
pub by_both {ℓ κ} : {A : Type ℓ} {B : Type κ} (a : A) (b : B) → Single (λ (x : A × B). (x.0 ≡ a) × (x.1 ≡ b))
by_both a b x y h k = λ i. (by-equation a x.0 y.0 h.0 k.0 i, by-equation b x.1 y.1 h.1 k.1 i)
