-- From element to element: each answer is the first of the writes left, and the others are those from its end on. Assumes nothing.
use Rattle.std.specs.Prelude.{Option, None, Some}
use mathlib.Core.Path.{◌≡◌, refl, sym, ap, subst, ◌∙◌}
use mathlib.Core.List.{List, [], ◌∷◌}
use mathlib.Core.Bool.{Bool, true, false, ◌&&◌, cond}
use Prim.Native.Nat.{ℕ, zero, suc, ◌+◌, ◌-◌, ◌≤◌, ◌<◌}
use native.Mathlib.Omega.{arith}
use lib.ListN.{length, drop, length-drop}
use lib.Seq.{drop-drop}
use lib.Dec.{eqb}
use Rattle.element.specs.declared.Write.{Write}
use Rattle.element.specs.Element.{element_size, element_meaning}
use Rattle.element.proofs.Laws.{element-some, element-fits}
use Rattle.put_data.specs.declared.Next.{Next}
use Rattle.put_data.specs.declared.Next.TheVariants.{Element, End, Fault}
use Rattle.put_data.specs.PutData.{before, writes_by, writes_in, is_some, told, next_by, next_in}
use Rattle.put_data.specs.PutData.{object_of, is_put_data, is_secured, elements_of, writes_of, is_valid, next_write}

-- ---- the writes behind an element
pub skip : (o n : ℕ) (s : List ℕ) → writes_by o n s ≡ writes_in o (drop n s)
unfolding writes_by
skip o zero s = refl
skip o (suc n) [] = refl
skip o (suc n) (b ∷ s) = skip o n s

pub behind : (o b : ℕ) (s : List ℕ) → writes_by o (element_size (b ∷ s) - 1) s ≡ writes_in o (drop (element_size (b ∷ s)) (b ∷ s))
behind o b s =
    let n = element_size (b ∷ s) in
    let r : n ≡ suc (n - 1) = omega (arith, element-some (b ∷ s)) in
    skip o (n - 1) s ∙ ap (λ m. writes_in o (drop m (b ∷ s))) (sym r)

-- ---- the writes from a place of the list u on, by what the next element is told to be; and where that ends
abbrev pub after : (o : ℕ) → List ℕ → Next → Option (List Write)
after o u (Element w e) = before (Some w) (writes_in o (drop e u))
after o u End = Some []
after o u Fault = None

abbrev pub Within : List ℕ → ℕ → Next → Type 0
Within u at (Element w e) = (at < e) × (e ≤ length u)
Within u at End = Unit
Within u at Fault = Unit

pub record Left (o : ℕ) (u : List ℕ) (at : ℕ) (s : List ℕ) (n : Next) : Type 0 where
  pub is : writes_in o s ≡ after o u n
  pub within : Within u at n

some-before : (w : Write) (ws : Option (List Write)) → is_some (before (Some w) ws) ≡ is_some ws
some-before w None = refl
some-before w (Some ws) = refl

module _ (o : ℕ) (u : List ℕ) where
  earlier : (at : ℕ) (n : Next) → Within u (at + 1) n → Within u at n
  earlier at (Element w e) h = let l = h.0 in (omega arith, h.1)
  earlier at End h = tt
  earlier at Fault h = tt

  -- at an element
  here : (at b : ℕ) (s : List ℕ) → drop at u ≡ b ∷ s → eqb b 0 ≡ false → (m : Option Write) → element_meaning o (b ∷ s) ≡ m
      → Left o u at (b ∷ s) (told m (at + element_size (b ∷ s)))
  unfolding writes_by
  here at b s d z (Some w) e =
      let n = element_size (b ∷ s) in
      let l = element-some (b ∷ s) in
      let f = element-fits o (b ∷ s) w e in
      let r : drop n (b ∷ s) ≡ drop (at + n) u = ap (drop n) (sym d) ∙ drop-drop n at u in
      record {
        is = simp (z, e) (ap (before (Some w)) (behind o b s ∙ ap (writes_in o) r));
        within = (omega arith, omega (arith, ap length d, length-drop at u));
      }
  here at b s d z None e = record { is = simp (z, e); within = tt }

  by_first : (at b : ℕ) (s : List ℕ) → drop at u ≡ b ∷ s → Left o u (at + 1) s (next_by o (at + 1) s) → (t : Bool) → eqb b 0 ≡ t
      → Left o u at (b ∷ s) (next_by o at (b ∷ s))
  unfolding writes_by next_by
  by_first at b s d r true z = simp (z) (record { is = simp (z) r.is; within = earlier at (next_by o (at + 1) s) r.within })
  by_first at b s d r false z = simp (z) (here at b s d z (element_meaning o (b ∷ s)) refl)

  from-rest : (s : List ℕ) (at : ℕ) → drop at u ≡ s → Left o u at s (next_by o at s)
  unfolding writes_by next_by
  from-rest [] at d = record { is = refl; within = tt }
  from-rest (b ∷ s) at d = by_first at b s d (from-rest s (at + 1) (sym (drop-drop 1 at u) ∙ ap (drop 1) d)) (eqb b 0) refl

  pub left_at : (at : ℕ) → Left o u at (drop at u) (next_in o u at)
  unfolding next_in
  left_at at = from-rest (drop at u) at refl

  pub left_by_lem : (at : ℕ) (n : Next) → next_in o u at ≡ n → Left o u at (drop at u) n
  left_by_lem at n e = subst (Left o u at (drop at u)) e (left_at at)

  -- an element in front fails nothing
  pub goes_on_lem : (at : ℕ) (w : Write) (e : ℕ) → next_in o u at ≡ Element w e → is_some (writes_in o (drop at u)) ≡ is_some (writes_in o (drop e u))
  goes_on_lem at w e h = ap is_some (left_by_lem at (Element w e) h).is ∙ some-before w (writes_in o (drop e u))

-- ---- FOR A CALLER: the writes left from a place among a command's elements on, while none of them fails
abbrev writes_from : List ℕ → (at : ℕ) → Option (List Write)
writes_from c at = writes_in (object_of c) (drop at (elements_of c))

abbrev or_none : Option (List Write) → List Write
or_none None = []
or_none (Some ws) = ws

unfoldable pub left : List ℕ → (at : ℕ) → List Write
left c at = or_none (writes_from c at)

unfoldable pub AllWrite : List ℕ → (at : ℕ) → Type 0
AllWrite c at = is_some (writes_from c at) ≡ true

-- at the start they are the command's
first_of : (t : Bool) (ws : Option (List Write)) → is_some (cond t ws None) ≡ true → (is_some ws ≡ true) × (cond t ws None ≡ Some (or_none ws))
first_of true None h = let z : ◌≡◌ {A = ℕ} 0 1 = cc in absurd (omega arith)
first_of true (Some ws) h = (refl, refl)
first_of false ws h = let z : ◌≡◌ {A = ℕ} 0 1 = cc in absurd (omega arith)

pub at-start : (c : List ℕ) → is_valid c ≡ true → AllWrite c 0 × (writes_of c ≡ Some (left c 0))
unfolding is_valid writes_of left AllWrite
at-start c h = first_of (is_put_data c && is_secured c) (writes_from c 0) h

-- a command that is not valid writes nothing
none_of : (ws : Option (List Write)) → is_some ws ≡ false → ws ≡ None
none_of None h = refl
none_of (Some ws) h = let z : ◌≡◌ {A = ℕ} 0 1 = cc in absurd (omega arith)

pub not_valid : (c : List ℕ) → is_valid c ≡ false → writes_of c ≡ None
unfolding is_valid
not_valid c h = none_of (writes_of c) h

pub record Step (c : List ℕ) (at : ℕ) (w : Write) (end : ℕ) : Type 0 where
  pub is : left c at ≡ w ∷ left c end
  pub goes_on_lem : AllWrite c end
  pub later : at < end
  pub within : end ≤ length (elements_of c)

first-left : (w : Write) (ws : Option (List Write)) → is_some ws ≡ true → or_none (before (Some w) ws) ≡ w ∷ or_none ws
first-left w None h = let z : ◌≡◌ {A = ℕ} 0 1 = cc in absurd (omega arith)
first-left w (Some ws) h = refl

module _ (c : List ℕ) (at : ℕ) where
  pub next_write_lem : (w : Write) (end : ℕ) → AllWrite c at → next_write c at ≡ Element w end → Step c at w end
  unfolding next_write left AllWrite
  next_write_lem w end h e =
      let l = left_by_lem (object_of c) (elements_of c) at (Element w end) e in
      let more = sym (goes_on_lem (object_of c) (elements_of c) at w end e) ∙ h in
      record {
        is = ap or_none l.is ∙ first-left w (writes_from c end) more;
        goes_on_lem = more;
        later = l.within.0;
        within = l.within.1;
      }

  pub next-end : next_write c at ≡ End → left c at ≡ []
  unfolding next_write left
  next-end e = ap or_none (left_by_lem (object_of c) (elements_of c) at End e).is

  pub no_fault : AllWrite c at → next_write c at ≡ Fault → ⊥
  unfolding next_write AllWrite
  no_fault h e =
      let f : false ≡ true = sym (ap is_some (left_by_lem (object_of c) (elements_of c) at Fault e).is) ∙ h in
      let z : ◌≡◌ {A = ℕ} 0 1 = cc in
      omega arith
