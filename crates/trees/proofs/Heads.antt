-- A head that is right is one that is written. Assumes nothing.
use mathlib.Core.Path.{◌≡◌, refl, sym, ap, ap₂, subst, ◌∙◌}
use mathlib.Core.List.{List, [], ◌∷◌, ◌++◌}
use mathlib.Core.Bool.{Bool, true, false, ◌||◌}
use Prim.Native.Nat.{ℕ, zero, suc, ◌+◌, ◌*◌, ◌/◌, ◌%◌, ◌≤◌, ◌<◌}
use native.Mathlib.Omega.{arith}
use lib.ListN.{length, take, drop, take-append-drop}
use lib.Seq.{drop-cons, drop-drop, take-add}
use lib.Dec.{ltb, leb, eqb}
use borrow.Author.Tests.{ltb-true, eqb-true, eqb-false}
use Rattle.wire.specs.Wire.{byte}
use Rattle.wire.proofs.Pairs.{both}
use Rattle.object.specs.Object.{tag_size, tag_right, lead, length_right, length_size, length_at, value_size, head_size, head_formed, head_right, is_constructed, object_size, value_of}
use Rattle.head.proofs.Heads.{right_fits, head-some, part_length}
use Rattle.trees.specs.Tree.{Tag, short, long, Form, plain, with81, with82, tag_bytes, length_bytes, head, object_bytes, limit, Tagged, Bytes}
use Rattle.trees.proofs.Octets.{drop_bytes, take-bytes}

-- a part of s written out
unfoldable spell : ℕ → ℕ → List ℕ → List ℕ
spell k zero s = []
spell k (suc n) s = byte s k ∷ spell (k + 1) n s

spelled : (k n : ℕ) (s : List ℕ) → k + n ≤ length s → take n (drop k s) ≡ spell k n s
unfolding spell
spelled k zero s h = refl
spelled k (suc n) s h =
    let e : suc k ≡ k + 1 = omega arith in
    ap (take (suc n)) (drop-cons s k 0 (omega arith)) ∙ ap (λ l. byte s k ∷ l) (ap (λ m. take n (drop m s)) e ∙ spelled (k + 1) n s (omega arith))

-- ---- the length at a place is one of the forms
record Length (k : ℕ) (s : List ℕ) : Type 0 where
  form : Form
  bytes : take (length_size (byte s k)) (drop k s) ≡ length_bytes form (length_at s k)
  fits : length_at s k < limit form

two_bytes : (k : ℕ) (s : List ℕ) (n : ℕ) → k + 3 ≤ length s → byte s k ≡ 0x82 → n / 256 ≡ byte s (k + 1) → n % 256 ≡ byte s (k + 2)
    → take 3 (drop k s) ≡ length_bytes with82 n
unfolding spell
two_bytes k s n l e u w =
    let i : k + 1 + 1 ≡ k + 2 = omega arith in
    spelled k 3 s l ∙ ap₂ (λ m z. m ∷ byte s (k + 1) ∷ byte s z ∷ []) e i ∙ ap₂ (λ m z. 0x82 ∷ m ∷ z ∷ []) (sym u) (sym w)

length_by : (k : ℕ) (s : List ℕ) → Bytes s → length_right (byte s k) ≡ true → k + length_size (byte s k) ≤ length s
    → (x y : Bool) → eqb (byte s k) 0x82 ≡ x → eqb (byte s k) 0x81 ≡ y → Length k s
unfolding length_size length_at spell
length_by k s h r l true y p q =
    let b = h (k + 1) in
    let c = h (k + 2) in
    let n = byte s (k + 1) * 256 + byte s (k + 2) in
    let e : length_size (byte s k) ≡ 3 = simp (p) in
    let v : length_at s k ≡ n = simp (p) in
    record {
      form = with82;
      bytes = ap (λ m. take m (drop k s)) e ∙ two_bytes k s n (omega arith) (eqb-true (byte s k) 0x82 p) (omega arith) (omega arith) ∙ ap (length_bytes with82) (sym v);
      fits = omega arith;
    }
length_by k s h r l false true p q =
    let b = h (k + 1) in
    let e : length_size (byte s k) ≡ 2 = simp (p, q) in
    let v : length_at s k ≡ byte s (k + 1) = simp (p, q) in
    record {
      form = with81;
      bytes = ap (λ m. take m (drop k s)) e ∙ spelled k 2 s (omega arith) ∙ ap₂ (λ m z. m ∷ z ∷ []) (eqb-true (byte s k) 0x81 q) (sym v);
      fits = omega arith;
    }
length_by k s h r l false false p q =
    let e : length_size (byte s k) ≡ 1 = simp (p, q) in
    let v : length_at s k ≡ byte s k = simp (p, q) in
    let t : ltb (byte s k) 0x80 ≡ true = only (ltb (byte s k) 0x80) (simp (p, q) at r) in
    let d = ltb-true (byte s k) 0x80 t in
    record {
      form = plain;
      bytes = ap (λ m. take m (drop k s)) e ∙ spelled k 1 s (omega arith) ∙ ap (λ z. z ∷ []) (sym v);
      fits = omega arith;
    }
  where
    only : (b : Bool) → (b || false || false) ≡ true → b ≡ true
    only true e = refl
    only false e = e

-- ---- a head
record Headed (s : List ℕ) : Type 0 where
  tag : Tag
  form : Form
  tagged : Tagged (byte s 0 / 32 % 2) tag
  bytes : take (head_size s) s ≡ head tag form (value_size s)
  fits : value_size s < limit form

with_tag : (s : List ℕ) (k : ℕ) (t : Tag) → tag_size s ≡ k → take k s ≡ tag_bytes t → Tagged (byte s 0 / 32 % 2) t → Length k s → Headed s
unfolding head_size value_size
with_tag s k t e b g l =
    let v : value_size s ≡ length_at s k = ap (λ m. length_at s m) e in
    record {
      tag = t;
      form = l.form;
      tagged = g;
      bytes = ap (λ m. take (m + length_size (byte s m)) s) e ∙ take-add k (length_size (byte s k)) s ∙ ap₂ ◌++◌ b l.bytes ∙ ap (head t l.form) (sym v);
      fits = rw v l.fits;
    }

size-by : (s : List ℕ) (k : ℕ) → tag_size s ≡ k → head_size s ≡ k + length_size (byte s k)
unfolding head_size
size-by s k e = ap (λ m. m + length_size (byte s m)) e

formed : (s : List ℕ) → head_right s ≡ true → (tag_right s ≡ true) × (length_right (lead s) ≡ true)
unfolding head_right head_formed
formed s e = both (tag_right s) (length_right (lead s)) (both (head_formed s) (leb (object_size s) (length s)) e).0

head-by : (s : List ℕ) → Bytes s → head_right s ≡ true → (byte s 0 ≡ 0 → ⊥) → (p : Bool) → eqb (byte s 0 % 32) 31 ≡ p → Headed s
unfolding spell
head-by s h r z true p =
    let l = right_fits s r in
    let k : tag_size s ≡ 2 = simp (p) in
    let m = size-by s 2 k in
    let c : ltb (byte s 1) 0x80 ≡ true = simp (p) at (formed s r).0 in
    let d : length_right (byte s 2) ≡ true = ap (λ n. length_right (byte s n)) (sym k) ∙ (formed s r).1 in
    with_tag s 2 (long (byte s 0) (byte s 1)) k (spelled 0 2 s (omega arith)) (h 0, ltb-true (byte s 1) 0x80 c, eqb-true (byte s 0 % 32) 31 p, refl)
    (length_by 2 s h d (omega arith) (eqb (byte s 2) 0x82) (eqb (byte s 2) 0x81) refl refl)
head-by s h r z false p =
    let l = right_fits s r in
    let k : tag_size s ≡ 1 = simp (p) in
    let m = size-by s 1 k in
    let d : length_right (byte s 1) ≡ true = ap (λ n. length_right (byte s n)) (sym k) ∙ (formed s r).1 in
    let q : 1 ≤ length s = omega (arith, head-some s) in
    with_tag s 1 (short (byte s 0)) k (spelled 0 1 s q) (h 0, z, eqb-false (byte s 0 % 32) 31 p, refl)
    (length_by 1 s h d (omega arith) (eqb (byte s 1) 0x82) (eqb (byte s 1) 0x81) refl refl)

-- ---- bytes are their first object's head, that object's value, and what is behind
parts : (s : List ℕ) → s ≡ take (head_size s) s ++ (value_of s ++ drop (object_size s) s)
unfolding value_of
parts s =
    let h = head_size s in
    let v = value_size s in
    sym (ap (λ l. take h s ++ l) (ap (λ l. take v (drop h s) ++ l) (sym (drop-drop v h s)) ∙ take-append-drop v (drop h s)) ∙ take-append-drop h s)

pub value_length : (s : List ℕ) → head_right s ≡ true → length (value_of s) ≡ value_size s
unfolding value_of
value_length s f = part_length s (head_size s) (value_size s) (right_fits s f)

pub value-bytes : (s : List ℕ) → Bytes s → Bytes (value_of s)
unfolding value_of
value-bytes s h = take-bytes (value_size s) (drop (head_size s) s) (drop_bytes (head_size s) s h)

pub record First (q : ℕ) (s : List ℕ) : Type 0 where
  pub tag : Tag
  pub form : Form
  pub tagged : Tagged q tag
  pub fits : length (value_of s) < limit form
  pub is : s ≡ object_bytes tag form (value_of s) (drop (object_size s) s)

pub first : (q : ℕ) (s : List ℕ) → Bytes s → (byte s 0 ≡ 0 → ⊥) → head_right s ≡ true → byte s 0 / 32 % 2 ≡ q → First q s
first q s b z f e =
    let o = head-by s b f z (eqb (byte s 0 % 32) 31) refl in
    let l = value_length s f in
    record {
      tag = o.tag;
      form = o.form;
      tagged = subst (λ (x : ℕ). Tagged x o.tag) e o.tagged;
      fits = subst (λ (m : ℕ). m < limit o.form) (sym l) o.fits;
      is = parts s ∙ ap (λ x. x ++ (value_of s ++ drop (object_size s) s)) (o.bytes ∙ ap (head o.tag o.form) (sym l));
    }

pub bit_set : (b : ℕ) → is_constructed b ≡ true → b / 32 % 2 ≡ 1
bit_set b e = eqb-true (b / 32 % 2) 1 e

pub bit_clear : (b : ℕ) → is_constructed b ≡ false → b / 32 % 2 ≡ 0
bit_clear b e = bit (b / 32) (eqb-false (b / 32 % 2) 1 e)
  where
    bit : (n : ℕ) → (n % 2 ≡ 1 → ⊥) → n % 2 ≡ 0
    bit n h = omega arith
