-- Laws of the definitions, as the code goes through the bytes. Assumes nothing.
use mathlib.Core.Path.{◌≡◌, refl, sym, ap, ◌∙◌}
use mathlib.Core.List.{List, [], ◌∷◌}
use Prim.Native.Nat.{ℕ, ◌+◌, ◌-◌, ◌≤◌, ◌<◌}
use native.Mathlib.Nat.{add-zero, le_refl}
use native.Mathlib.Omega.{arith}
use lib.ListN.{length, take, drop, length-drop, drop_of_length-le}
use lib.Seq.{take_all, drop-drop, get_or-drop}
use borrow.Author.Tests.{eq-eqb, ne_eqb}
use Rattle.wire.specs.Wire.{byte}
use Rattle.element.specs.Element.{element_size, element_meaning}
use Rattle.put_data.specs.declared.Next.TheVariants.{End}
use Rattle.put_data.specs.PutData.{told, next_by, next_in}

-- ---- parts of a list
pub rest_all : (s : List ℕ) (k : ℕ) → take (length s - k) (drop k s) ≡ drop k s
rest_all s k = take_all (length s - k) (drop k s) (simp (length-drop) (le_refl _))

pub first_byte : (s : List ℕ) (at : ℕ) → byte (drop at s) 0 ≡ byte s at
first_byte s at = get_or-drop at s 0 0 ∙ ap (byte s) (add-zero at)

pub rest_some : (s : List ℕ) (at : ℕ) → at < length s → length (drop at s) ≡ 0 → ⊥
rest_some s at h e = omega (arith, length-drop at s)

-- ---- the next element, at a place
pub next-end : (o : ℕ) (s : List ℕ) (at : ℕ) → length s ≤ at → next_in o s at ≡ End
unfolding next_in next_by
next-end o s at h = ap (next_by o at) (drop_of_length-le s h)

by-filler : (o at : ℕ) (s : List ℕ) → (length s ≡ 0 → ⊥) → byte s 0 ≡ 0 → next_by o at s ≡ next_by o (at + 1) (drop 1 s)
unfolding next_by
by-filler o at [] l e = absurd (l refl)
by-filler o at (b ∷ s) l e = simp (eq-eqb b 0 e)

by-element : (o at : ℕ) (s : List ℕ) → (length s ≡ 0 → ⊥) → (byte s 0 ≡ 0 → ⊥) → next_by o at s ≡ told (element_meaning o s) (at + element_size s)
unfolding next_by
by-element o at [] l e = absurd (l refl)
by-element o at (b ∷ s) l e = simp (ne_eqb b 0 e)

pub next-filler : (o : ℕ) (s : List ℕ) (at : ℕ) → at < length s → byte s at ≡ 0 → next_in o s at ≡ next_in o s (at + 1)
unfolding next_in
next-filler o s at h e =
    by-filler o at (drop at s) (rest_some s at h) (first_byte s at ∙ e) ∙ ap (next_by o (at + 1)) (drop-drop 1 at s)

pub next_here : (o : ℕ) (s : List ℕ) (at : ℕ) → at < length s → (byte s at ≡ 0 → ⊥)
    → next_in o s at ≡ told (element_meaning o (drop at s)) (at + element_size (drop at s))
unfolding next_in
next_here o s at h e = by-element o at (drop at s) (rest_some s at h) (λ z. e (sym (first_byte s at) ∙ z))
