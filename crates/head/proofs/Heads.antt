-- Laws of parts of a list and of heads. Assumes nothing.
use mathlib.Core.Path.{◌≡◌, refl, sym, ap, ap₂, ◌∙◌}
use mathlib.Core.List.{List}
use mathlib.Core.Bool.{Bool, true, false, cond}
use Prim.Native.Nat.{ℕ, ◌+◌, ◌-◌, ◌*◌, ◌%◌, ◌≤◌, ◌<◌}
use native.Mathlib.Nat.{add-zero, le_refl}
use native.Mathlib.Omega.{arith}
use lib.ListN.{length, take, drop, length-drop, length-take}
use lib.Seq.{take_all, get_or-drop}
use lib.Dec.{leb, eqb}
use borrow.Author.Tests.{lt-ltb, le-ltb, ne_eqb, leb-true}
use Rattle.wire.specs.Wire.{byte, number}
use Rattle.wire.proofs.Pairs.{both}
use Rattle.wire.proofs.Numbers.{halves, one}
use Rattle.head.specs.Head.{tag_size, tag_right, lead, length_right, length_size, length_at, value_size, head_size, object_size, head_formed, head_right, head_within, head_behind, head_of}
use Rattle.std.specs.Prelude.{None, Option, Some}
use Rattle.head.specs.declared.Head.{Head}

-- ---- parts of a list
pub rest_all : (s : List ℕ) (k : ℕ) → take (length s - k) (drop k s) ≡ drop k s
rest_all s k = take_all (length s - k) (drop k s) (simp (length-drop) (le_refl _))

pub part_length : (s : List ℕ) (k n : ℕ) → k + n ≤ length s → length (take n (drop k s)) ≡ n
part_length s k n h = simp (length-take, length-drop) (omega arith)

pub rest_length : (s : List ℕ) (k : ℕ) → k < length s → length (take (length s - k) (drop k s)) ≡ length s - k
rest_length s k h = part_length s k (length s - k) (omega arith)

pub first_byte : (s : List ℕ) (at : ℕ) → byte (drop at s) 0 ≡ byte s at
first_byte s at = get_or-drop at s 0 0 ∙ ap (λ n. byte s n) (add-zero at)

pub rest_some : (s : List ℕ) (at : ℕ) → at < length s → length (drop at s) ≡ 0 → ⊥
rest_some s at h e = omega (arith, length-drop at s)

-- ---- a head
pub right_fits : (s : List ℕ) → head_right s ≡ true → object_size s ≤ length s
unfolding head_right
right_fits s e = leb-true (object_size s) (length s) (both (head_formed s) (leb (object_size s) (length s)) e).1

some_size : (b : Bool) (m n : ℕ) → 1 ≤ m → 1 ≤ n → 1 ≤ cond b m n
some_size true m n h g = h
some_size false m n h g = g

pub head-some : (s : List ℕ) → 1 ≤ head_size s
unfolding head_size
head-some s = omega (arith, some_size (eqb (byte s 0 % 32) 31) 2 1 (omega arith) (omega arith))

-- ---- a head that was read
abbrev size_in : Option Head → ℕ
size_in (Some h) = h.size
size_in None = 0

abbrev length_in : Option Head → ℕ
length_in (Some h) = h.length
length_in None = 0

pub record IsRight (s : List ℕ) (m n : ℕ) : Type 0 where
  pub right : head_right s ≡ true
  pub size : m ≡ head_size s
  pub value : n ≡ value_size s

no_head : (h : Head) → ◌≡◌ {A = Option Head} None (Some h) → ⊥
no_head h e = let z : ◌≡◌ {A = ℕ} 0 1 = cc in omega arith

pub is_right : (s : List ℕ) (m n : ℕ) → head_of s ≡ Some (record { size = m; length = n }) → IsRight s m n
unfolding head_of
is_right s m n e = go (head_right s) refl
  where
    sizes : (x y : ℕ) → ◌≡◌ {A = Option Head} (Some (record { size = x; length = y })) (Some (record { size = m; length = n })) → (m ≡ x) × (n ≡ y)
    sizes x y h = (ap size_in (sym h), ap length_in (sym h))

    go : (t : Bool) → head_right s ≡ t → IsRight s m n
    go true t =
        let h = sizes (head_size s) (value_size s) (sym (ap (λ (b : Bool). cond b (Some (record { size = head_size s; length = value_size s })) None) t) ∙ e) in
        record { right = t; size = h.0; value = h.1 }
    go false t = absurd (no_head (record { size = m; length = n }) (sym (ap (λ (b : Bool). cond b (Some (record { size = head_size s; length = value_size s })) None) t) ∙ e))

pub is_wrong : (s : List ℕ) → head_of s ≡ None → head_right s ≡ false
unfolding head_of
is_wrong s e = go (head_right s) refl
  where
    go : (t : Bool) → head_right s ≡ t → head_right s ≡ false
    go true t = absurd (no_head (record { size = head_size s; length = value_size s }) (sym e ∙ ap (λ (b : Bool). cond b (Some (record { size = head_size s; length = value_size s })) None) t))
    go false t = t

-- an object at a place, whose head was read of the rest of the bytes
pub record At (s : List ℕ) (at m n : ℕ) : Type 0 where
  pub head : IsRight (drop at s) m n
  pub some : 1 ≤ m
  pub within : at + (m + n) ≤ length s

pub right_at : (s : List ℕ) (at m n : ℕ) (h : Option Head) → at < length s → h ≡ head_of (take (length s - at) (drop at s)) → h ≡ Some (record { size = m; length = n }) → At s at m n
right_at s at m n h l e r =
    let i = is_right (drop at s) m n (ap head_of (sym (rest_all s at)) ∙ sym e ∙ r) in
    let d = length-drop at s in
    let x = i.size in
    let y = i.value in
    let f = right_fits (drop at s) i.right in
    let o = head-some (drop at s) in
    record { head = i; some = omega arith; within = omega arith }

pub wrong_at : (s : List ℕ) (at : ℕ) (h : Option Head) → h ≡ head_of (take (length s - at) (drop at s)) → h ≡ None → head_right (drop at s) ≡ false
wrong_at s at h e w = is_wrong (drop at s) (ap head_of (sym (rest_all s at)) ∙ sym e ∙ w)

-- ---- the ways through a head
pub tag_wrong : (s : List ℕ) → tag_right s ≡ false → head_of s ≡ None
unfolding head_of head_right head_formed
tag_wrong s e = simp (e)

pub tag_right_lem : (s : List ℕ) (t : ℕ) → tag_right s ≡ true → tag_size s ≡ t → head_of s ≡ head_behind s t
unfolding head_of head_right head_formed head_size value_size
tag_right_lem s t r e = go (length_right (lead s)) refl ∙ ap (head_behind s) e
  where
    go : (l : Bool) → length_right (lead s) ≡ l → head_of s ≡ head_behind s (tag_size s)
    go true l = simp (r, l)
    go false l = simp (r, l)

module _ (s : List ℕ) (t : ℕ) where
  formed : (m n : ℕ) → length_right (byte s t) ≡ true → length_size (byte s t) ≡ m → length_at s t ≡ n → head_behind s t ≡ head_within s (t + m) n
  formed m n l p q = simp (l) (ap₂ (λ x y. head_within s (t + x) y) p q)

  pub plain_length_lem : byte s t < 0x80 → head_behind s t ≡ head_within s (t + 1) (byte s t)
  unfolding length_size length_at
  plain_length_lem h =
      let x = ne_eqb (byte s t) 0x82 (λ z. omega arith) in
      let y = ne_eqb (byte s t) 0x81 (λ z. omega arith) in
      formed 1 (byte s t) (simp (lt-ltb (byte s t) 0x80 h)) (simp (x, y)) (simp (x, y))

  pub length_81 : byte s t ≡ 0x81 → head_behind s t ≡ head_within s (t + 2) (byte s (t + 1))
  unfolding length_size length_at
  length_81 e = formed 2 (byte s (t + 1)) (ap length_right e) (simp (e)) (simp (e))

  pub length_82 : byte s t ≡ 0x82 → head_behind s t ≡ head_within s (t + 3) (number s (t + 1) 2)
  unfolding length_size length_at
  length_82 e =
      let k : t + 2 ≡ t + 1 + 1 = omega arith in
      let n = ap (λ i. byte s (t + 1) * 256 + byte s i) k ∙ halves 1 s (t + 1) (byte s (t + 1)) (byte s (t + 1 + 1)) (sym (one s (t + 1))) (sym (one s (t + 1 + 1))) in
      formed 3 (number s (t + 1) 2) (ap length_right e) (simp (e)) (simp (e) n)

  pub other_length : (byte s t < 0x80 → ⊥) → (byte s t ≡ 0x81 → ⊥) → (byte s t ≡ 0x82 → ⊥) → head_behind s t ≡ None
  other_length h x y = simp (le-ltb (byte s t) 0x80 (omega arith), ne_eqb (byte s t) 0x81 x, ne_eqb (byte s t) 0x82 y)
