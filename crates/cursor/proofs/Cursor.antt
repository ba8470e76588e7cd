-- For callers that go from command to command: each answer is the first of the places left and lies within the bytes, and the others are those from its
-- end on. Assumes nothing.
use mathlib.Core.Path.{◌≡◌, refl, sym, ap, ap₂, subst, ◌∙◌}
use mathlib.Core.List.{List, [], ◌∷◌}
use mathlib.Core.Bool.{Bool, true, false}
use Prim.Native.Nat.{ℕ, zero, suc, ◌+◌, ◌-◌, ◌≤◌, ◌<◌}
use native.Mathlib.Omega.{arith}
use lib.ListN.{length, drop, length-drop}
use lib.Seq.{drop-drop}
use lib.Dec.{ltb, eqb}
use borrow.Author.Tests.{ltb-true, ltb-false, eqb-true}
use Rattle.head.specs.Head.{value_size, head_size, head_right, is_constructed, object_size}
use Rattle.cursor.specs.Cursor.{places_behind, places_from, first_of, next_command}
use Rattle.head.proofs.Heads.{right_fits, head-some}
use Rattle.cursor.proofs.Places.{command-first, places_end}
use Rattle.std.specs.Prelude.{None, Option, Some}
use Rattle.cursor.specs.declared.Span.{Span}

-- the first place of those of u, which stands at a: where it lies, and that the others are those from its end on
record Ahead (u : List ℕ) (a : ℕ) (ps : List Span) (x y : ℕ) : Type 0 where
  is : ps ≡ record { start = x; size = y } ∷ places_behind (x + y) 0 (drop (x + y - a) u)
  later : a < x
  within : x + y ≤ a + length u

not_end : (p : Span) → ◌≡◌ {A = Option Span} None (Some p) → ⊥
not_end p e = let z : ◌≡◌ {A = ℕ} 0 1 = cc in omega arith

abbrev span_of : Option Span → Span
span_of (Some p) = p
span_of None = record { start = 0; size = 0 }

same : (p q : Span) → ◌≡◌ {A = Option Span} (Some p) (Some q) → (q.start ≡ p.start) × (q.size ≡ p.size)
same p q e = let h = sym (ap span_of e) in (ap (λ (p : Span). p.start) h, ap (λ (p : Span). p.size) h)

shift : (b : ℕ) (s : List ℕ) (a : ℕ) (ps : List Span) (x y : ℕ) → Ahead s (a + 1) ps x y → Ahead (b ∷ s) a ps x y
shift b s a ps x y h =
    let l = h.later in
    let w = h.within in
    let e : x + y - a ≡ suc (x + y - (a + 1)) = omega arith in
    record {
      is = h.is ∙ ap (λ n. record { start = x; size = y } ∷ places_behind (x + y) 0 (drop n (b ∷ s))) (sym e);
      later = omega arith;
      within = omega arith;
    }

-- u begins with a command
here : (a : ℕ) (u : List ℕ) (x y : ℕ) → head_right u ≡ true → x ≡ a + head_size u → y ≡ value_size u → (ps : List Span)
    → ps ≡ record { start = a + head_size u; size = value_size u } ∷ places_behind (a + object_size u) 0 (drop (object_size u) u) → Ahead u a ps x y
here a u x y r i j ps k =
    let h = head-some u in
    let l = right_fits u r in
    let m : a + object_size u ≡ x + y = omega arith in
    let n : object_size u ≡ x + y - a = omega arith in
    let p : ℕ → ℕ → Span = λ v w. record { start = v; size = w } in
    record {
      is = k ∙ ap₂ ◌∷◌ (ap₂ p (sym i) (sym j)) (ap₂ (λ v w. places_behind v 0 (drop w u)) m n);
      later = omega arith;
      within = omega arith;
    }

module _ (a b : ℕ) (s : List ℕ) (x y : ℕ)
    (ih : (m : ℕ) → first_of (places_behind (a + 1) m s) ≡ Some (record { start = x; size = y }) → Ahead s (a + 1) (places_behind (a + 1) m s) x y)
    (e : first_of (places_behind a 0 (b ∷ s)) ≡ Some (record { start = x; size = y })) where
  via : (m : ℕ) → places_behind a 0 (b ∷ s) ≡ places_behind (a + 1) m s → Ahead (b ∷ s) a (places_behind a 0 (b ∷ s)) x y
  via m p = subst (λ ps. Ahead (b ∷ s) a ps x y) (sym p) (shift b s a (places_behind (a + 1) m s) x y (ih m (sym (ap first_of p) ∙ e)))

  found-by : (o f t c : Bool) → eqb b 0 ≡ o → head_right (b ∷ s) ≡ f → is_constructed b ≡ t → eqb b 0x86 ≡ c → Ahead (b ∷ s) a (places_behind a 0 (b ∷ s)) x y
  unfolding places_behind
  found-by true f t c p q r z = via 0 (simp (p))
  found-by false false t c p q r z = let k : places_behind a 0 (b ∷ s) ≡ [] = simp (p, q) in absurd (not_end (record { start = x; size = y }) (sym (ap first_of k) ∙ e))
  found-by false true true c p q r z = via (head_size (b ∷ s) - 1) (simp (p, q, r))
  found-by false true false false p q r z = via (object_size (b ∷ s) - 1) (simp (p, q, r, z))
  found-by false true false true p q r z =
      let u = b ∷ s in
      let k = command-first a u (λ w. omega arith) q (eqb-true b 0x86 z) in
      let h = same (record { start = a + head_size u; size = value_size u }) (record { start = x; size = y }) (sym (ap first_of k) ∙ e) in
      here a u x y q h.0 h.1 (places_behind a 0 u) k

found : (a n : ℕ) (s : List ℕ) (x y : ℕ) → first_of (places_behind a n s) ≡ Some (record { start = x; size = y }) → Ahead s a (places_behind a n s) x y
unfolding places_behind
found a n [] x y e = absurd (not_end (record { start = x; size = y }) e)
found a (suc n) (b ∷ s) x y e = shift b s a (places_behind (a + 1) n s) x y (found (a + 1) n s x y e)
found a zero (b ∷ s) x y e =
    found-by a b s x y (λ m h. found (a + 1) m s x y h) e (eqb b 0) (head_right (b ∷ s)) (is_constructed b) (eqb b 0x86) refl refl refl refl

pub record Step (s : List ℕ) (at x y : ℕ) : Type 0 where
  pub is : places_from s at ≡ record { start = x; size = y } ∷ places_from s (x + y)
  pub later : at < x
  pub within : x + y ≤ length s

pub next-command : (s : List ℕ) (at x y : ℕ) → next_command s at ≡ Some (record { start = x; size = y }) → Step s at x y
unfolding next_command places_from
next-command s at x y e = go (ltb at (length s)) refl
  where
    go : (t : Bool) → ltb at (length s) ≡ t → Step s at x y
    go true t =
        let h = found at 0 (drop at s) x y e in
        let l = h.later in
        let w = h.within in
        let d = length-drop at s in
        let b = ltb-true at (length s) t in
        let n : at + (x + y - at) ≡ x + y = omega arith in
        record {
          is = h.is ∙ ap (λ z. record { start = x; size = y } ∷ places_behind (x + y) 0 z) (drop-drop (x + y - at) at s ∙ ap (λ k. drop k s) n);
          later = l;
          within = omega arith;
        }
    go false t = absurd (not_end (record { start = x; size = y }) (sym (ap first_of (places_end s at (ltb-false at (length s) t))) ∙ e))

pub next-end : (s : List ℕ) (at : ℕ) → next_command s at ≡ None → places_from s at ≡ []
unfolding next_command
next-end s at e = go (places_from s at) e
  where
    go : (ps : List Span) → first_of ps ≡ None → ps ≡ []
    go [] h = refl
    go (p ∷ ps) h = absurd (not_end p (sym h))
