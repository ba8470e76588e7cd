-- Laws of the places of the commands, as the code goes through the bytes. Assumes nothing.
use mathlib.Core.Path.{◌≡◌, refl, sym, ap, ap₂, ◌∙◌}
use mathlib.Core.List.{List, [], ◌∷◌}
use mathlib.Core.Bool.{true, false}
use Prim.Native.Nat.{ℕ, zero, suc, ◌+◌, ◌-◌, ◌≤◌, ◌<◌}
use native.Mathlib.Nat.{add-zero}
use native.Mathlib.Omega.{arith}
use lib.ListN.{length, drop, drop_of_length-le}
use lib.Seq.{drop-drop}
use borrow.Author.Tests.{eq-eqb, ne_eqb}
use Rattle.wire.specs.Wire.{byte}
use Rattle.head.specs.Head.{value_size, head_size, head_right, is_constructed, object_size}
use Rattle.cursor.specs.Cursor.{places_behind, places_from}
use Rattle.head.proofs.Heads.{first_byte, rest_some, head-some}

skip : (a m : ℕ) (s : List ℕ) → places_behind a m s ≡ places_behind (a + m) 0 (drop m s)
unfolding places_behind
skip a zero s = simp (add-zero)
skip a (suc m) [] = refl
skip a (suc m) (b ∷ s) = let e : a + 1 + m ≡ a + suc m = omega arith in skip (a + 1) m s ∙ ap (λ k. places_behind k 0 (drop m s)) e

ahead : (a n b : ℕ) (s : List ℕ) → 1 ≤ n → places_behind (a + 1) (n - 1) s ≡ places_behind (a + n) 0 (drop n (b ∷ s))
ahead a n b s h =
    let q : a + 1 + (n - 1) ≡ a + n = omega arith in
    let r : n ≡ suc (n - 1) = omega arith in
    skip (a + 1) (n - 1) s ∙ ap₂ (λ x y. places_behind x 0 y) q (ap (λ m. drop m (b ∷ s)) (sym r))

-- ---- where s begins with
pub filler-first : (a : ℕ) (s : List ℕ) → (length s ≡ 0 → ⊥) → byte s 0 ≡ 0 → places_behind a 0 s ≡ places_behind (a + 1) 0 (drop 1 s)
unfolding places_behind
filler-first a [] l e = absurd (l refl)
filler-first a (b ∷ s) l e = simp (eq-eqb b 0 e)

pub wrong_first : (a : ℕ) (s : List ℕ) → (length s ≡ 0 → ⊥) → (byte s 0 ≡ 0 → ⊥) → head_right s ≡ false → places_behind a 0 s ≡ []
unfolding places_behind
wrong_first a [] l e f = absurd (l refl)
wrong_first a (b ∷ s) l e f = simp (ne_eqb b 0 e, f)

pub constructed-first : (a : ℕ) (s : List ℕ) → (length s ≡ 0 → ⊥) → (byte s 0 ≡ 0 → ⊥) → head_right s ≡ true → is_constructed (byte s 0) ≡ true
    → places_behind a 0 s ≡ places_behind (a + head_size s) 0 (drop (head_size s) s)
unfolding places_behind
constructed-first a [] l e f g = absurd (l refl)
constructed-first a (b ∷ s) l e f g = simp (ne_eqb b 0 e, f, g) (ahead a (head_size (b ∷ s)) b s (head-some (b ∷ s)))

pub command-first : (a : ℕ) (s : List ℕ) → (length s ≡ 0 → ⊥) → head_right s ≡ true → byte s 0 ≡ 0x86
    → places_behind a 0 s ≡ record { start = a + head_size s; size = value_size s } ∷ places_behind (a + object_size s) 0 (drop (object_size s) s)
unfolding places_behind
command-first a [] l f e = absurd (l refl)
command-first a (b ∷ s) l f e =
    let z : b ≡ 0 → ⊥ = λ y. omega arith in
    simp (ne_eqb b 0 z, f, ap is_constructed e, eq-eqb b 0x86 e)
    (ap (λ ps. record { start = a + head_size (b ∷ s); size = value_size (b ∷ s) } ∷ ps) (ahead a (object_size (b ∷ s)) b s (omega (arith, head-some (b ∷ s)))))

pub other-first : (a : ℕ) (s : List ℕ) → (length s ≡ 0 → ⊥) → (byte s 0 ≡ 0 → ⊥) → head_right s ≡ true → is_constructed (byte s 0) ≡ false → (byte s 0 ≡ 0x86 → ⊥)
    → places_behind a 0 s ≡ places_behind (a + object_size s) 0 (drop (object_size s) s)
unfolding places_behind
other-first a [] l z f g e = absurd (l refl)
other-first a (b ∷ s) l z f g e = simp (ne_eqb b 0 z, f, g, ne_eqb b 0x86 e) (ahead a (object_size (b ∷ s)) b s (omega (arith, head-some (b ∷ s))))

-- ---- the cursor's ways, at a place
pub places_end : (s : List ℕ) (at : ℕ) → length s ≤ at → places_from s at ≡ []
unfolding places_from places_behind
places_end s at h = ap (places_behind at 0) (drop_of_length-le s h)

module _ (s : List ℕ) (at : ℕ) (h : at < length s) where
  moved : (n : ℕ) → places_behind (at + n) 0 (drop n (drop at s)) ≡ places_from s (at + n)
  unfolding places_from
  moved n = ap (places_behind (at + n) 0) (drop-drop n at s)

  pub places_filler : byte s at ≡ 0 → places_from s at ≡ places_from s (at + 1)
  unfolding places_from
  places_filler e = filler-first at (drop at s) (rest_some s at h) (first_byte s at ∙ e) ∙ moved 1

  pub places_command : head_right (drop at s) ≡ true → byte s at ≡ 0x86
      → places_from s at ≡ record { start = at + head_size (drop at s); size = value_size (drop at s) } ∷ places_from s (at + object_size (drop at s))
  unfolding places_from
  places_command f e =
      command-first at (drop at s) (rest_some s at h) f (first_byte s at ∙ e)
      ∙ ap (λ ps. record { start = at + head_size (drop at s); size = value_size (drop at s) } ∷ ps) (moved (object_size (drop at s)))

  module _ (z : byte s at ≡ 0 → ⊥) where
    no_filler : byte (drop at s) 0 ≡ 0 → ⊥
    no_filler y = z (sym (first_byte s at) ∙ y)

    pub places_wrong : head_right (drop at s) ≡ false → places_from s at ≡ []
    unfolding places_from
    places_wrong f = wrong_first at (drop at s) (rest_some s at h) no_filler f

    pub places_constructed : head_right (drop at s) ≡ true → is_constructed (byte s at) ≡ true → places_from s at ≡ places_from s (at + head_size (drop at s))
    unfolding places_from
    places_constructed f g =
        constructed-first at (drop at s) (rest_some s at h) no_filler f (ap is_constructed (first_byte s at) ∙ g) ∙ moved (head_size (drop at s))

    pub places_other : head_right (drop at s) ≡ true → is_constructed (byte s at) ≡ false → (byte s at ≡ 0x86 → ⊥) → places_from s at ≡ places_from s (at + object_size (drop at s))
    unfolding places_from
    places_other f g e =
        other-first at (drop at s) (rest_some s at h) no_filler f (ap is_constructed (first_byte s at) ∙ g) (λ y. e (sym (first_byte s at) ∙ y))
        ∙ moved (object_size (drop at s))
