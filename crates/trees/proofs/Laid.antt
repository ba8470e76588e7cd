-- An object that is written, as it is read: whatever is behind it. Assumes nothing.
use mathlib.Core.Path.{◌≡◌, refl, ap, ap₂, ◌∙◌}
use mathlib.Core.List.{List, ◌∷◌, ◌++◌, append_assoc}
use mathlib.Core.Bool.{true}
use Prim.Native.Nat.{ℕ, suc, ◌+◌, ◌-◌, ◌*◌, ◌/◌, ◌%◌, ◌<◌}
use native.Mathlib.Omega.{arith}
use lib.ListN.{length, take, drop, length-append}
use lib.Seq.{take-append_seam, drop-append_seam, drop-append-add}
use lib.Dec.{eqb}
use borrow.Author.Tests.{lt-ltb, le-leb, eq-eqb, ne_eqb}
use Rattle.wire.specs.Wire.{byte}
use Rattle.object.specs.Object.{length_size, length_at, value_size, head_size, head_formed, head_right, is_constructed, object_size, value_of, first_fault, read_list}
use Rattle.object.proofs.Lists.{object-constructed, object-primitive, list-filler, list-object}
use Rattle.trees.specs.Tree.{Tag, short, long, Form, plain, with81, with82, head, object_bytes, limit, Tagged}

-- ---- a head
record Head (s : List ℕ) (m n : ℕ) : Type 0 where
  formed : head_formed s ≡ true
  size : head_size s ≡ m
  value : value_size s ≡ n

halves : (n : ℕ) → n / 256 * 256 + n % 256 ≡ n
halves n = omega arith

headed : (q : ℕ) (t : Tag) (f : Form) (n : ℕ) (w : List ℕ) → Tagged q t → n < limit f → Head (head t f n ++ w) (length (head t f n)) n
unfolding head_formed head_size length_size length_at value_size
headed q (short b) plain n w g h =
    let e = ne_eqb (b % 32) 31 g.2 in
    let x = ne_eqb n 0x82 (λ z. omega arith) in
    let y = ne_eqb n 0x81 (λ z. omega arith) in
    record { formed = simp (e, lt-ltb n 0x80 h); size = simp (e, x, y); value = simp (e, x, y) }
headed q (short b) with81 n w g h =
    let e = ne_eqb (b % 32) 31 g.2 in
    record { formed = simp (e); size = simp (e); value = simp (e) }
headed q (short b) with82 n w g h =
    let e = ne_eqb (b % 32) 31 g.2 in
    record { formed = simp (e); size = simp (e); value = simp (e) (halves n) }
headed q (long b c) plain n w g h =
    let e = eq-eqb (b % 32) 31 g.2 in
    let x = ne_eqb n 0x82 (λ z. omega arith) in
    let y = ne_eqb n 0x81 (λ z. omega arith) in
    record { formed = simp (e, lt-ltb c 0x80 g.1, lt-ltb n 0x80 h); size = simp (e, x, y); value = simp (e, x, y) }
headed q (long b c) with81 n w g h =
    let e = eq-eqb (b % 32) 31 g.2 in
    record { formed = simp (e, lt-ltb c 0x80 g.1); size = simp (e); value = simp (e) }
headed q (long b c) with82 n w g h =
    let e = eq-eqb (b % 32) 31 g.2 in
    record { formed = simp (e, lt-ltb c 0x80 g.1); size = simp (e); value = simp (e) (halves n) }

head-bit : (q : ℕ) (t : Tag) (f : Form) (n : ℕ) (w : List ℕ) → Tagged q t → is_constructed (byte (head t f n ++ w) 0) ≡ eqb q 1
head-bit q (short b) f n w g = ap (λ x. eqb x 1) g.3
head-bit q (long b c) f n w g = ap (λ x. eqb x 1) g.3

head_no_filler : (q : ℕ) (t : Tag) (f : Form) (n : ℕ) (w : List ℕ) → Tagged q t → byte (head t f n ++ w) 0 ≡ 0 → ⊥
head_no_filler q (short b) f n w g e = g.1 e
head_no_filler q (long b c) f n w g e = let h = g.2 in omega arith

head-some : (t : Tag) (f : Form) (n : ℕ) (w : List ℕ) → length (head t f n ++ w) ≡ 0 → ⊥
head-some (short b) f n w e = omega arith
head-some (long b c) f n w e = omega arith

-- ---- an object s with the value v, and r behind it; its head has m bytes
pub record Laid (q : ℕ) (s v r : List ℕ) (m : ℕ) : Type 0 where
  pub some : length s ≡ 0 → ⊥
  pub no_filler : byte s 0 ≡ 0 → ⊥
  pub right : head_right s ≡ true
  pub bit : is_constructed (byte s 0) ≡ eqb q 1
  pub inner : drop (head_size s) s ≡ v ++ r
  pub value : value_of s ≡ v
  pub rest : drop (object_size s) s ≡ r
  pub head-is : head_size s ≡ m
  pub size_is : object_size s ≡ m + length v
  pub length_is : length s ≡ m + (length v + length r)

pub laid : (q : ℕ) (t : Tag) (f : Form) (v r : List ℕ) → Tagged q t → length v < limit f → Laid q (object_bytes t f v r) v r (length (head t f (length v)))
unfolding head_right value_of
laid q t f v r g h =
    let hd = head t f (length v) in
    let s = object_bytes t f v r in
    let a = headed q t f (length v) (v ++ r) g h in
    let i : drop (head_size s) s ≡ v ++ r = ap (λ n. drop n s) a.size ∙ drop-append_seam hd (v ++ r) in
    let k : object_size s ≡ length hd + length v = ap₂ ◌+◌ a.size a.value in
    let l : length s ≡ length hd + (length v + length r) = length-append hd (v ++ r) ∙ ap (λ n. length hd + n) (length-append v r) in
    record {
      some = head-some t f (length v) (v ++ r);
      no_filler = head_no_filler q t f (length v) (v ++ r) g;
      right = simp (a.formed, le-leb (object_size s) (length s) (omega arith));
      bit = head-bit q t f (length v) (v ++ r) g;
      inner = i;
      value = ap₂ (λ n x. take n x) a.value i ∙ take-append_seam v r;
      rest = ap (λ n. drop n s) k ∙ drop-append-add hd (v ++ r) (length v) ∙ drop-append_seam v r;
      head-is = a.size;
      size_is = k;
      length_is = l;
    }

pub behind : (t : Tag) (f : Form) (v r w : List ℕ) → object_bytes t f v r ++ w ≡ object_bytes t f v (r ++ w)
behind t f v r w = let hd = head t f (length v) in append_assoc hd (v ++ r) w ∙ ap (λ l. hd ++ l) (append_assoc v r w)

-- ---- a list that begins with a filler, with an object
pub filler-list : (k : ℕ) (r : List ℕ) → read_list (suc k) (0 ∷ r) ≡ read_list (suc k) r
filler-list k r = list-filler (suc k) (0 ∷ r) (omega arith) (λ e. omega arith) refl

pub primitive-list : (k : ℕ) (t : Tag) (f : Form) (v r : List ℕ) → Tagged 0 t → length v < limit f → read_list (suc k) (object_bytes t f v r) ≡ read_list (suc k) r
primitive-list k t f v r g h =
    let s = object_bytes t f v r in
    let o = laid 0 t f v r g h in
    list-object (suc k) s (omega arith) o.some o.no_filler
    ∙ ap₂ first_fault (object-primitive (read_list (suc k - 1)) s o.right o.bit) (ap (read_list (suc k)) o.rest)

pub constructed-list : (k : ℕ) (t : Tag) (f : Form) (v r : List ℕ) → Tagged 1 t → length v < limit f
    → read_list (suc k) (object_bytes t f v r) ≡ first_fault (read_list k v) (read_list (suc k) r)
constructed-list k t f v r g h =
    let s = object_bytes t f v r in
    let o = laid 1 t f v r g h in
    let e : suc k - 1 ≡ k = omega arith in
    list-object (suc k) s (omega arith) o.some o.no_filler
    ∙ ap₂ first_fault (object-constructed (read_list (suc k - 1)) s o.right o.bit ∙ ap₂ read_list e o.value) (ap (read_list (suc k)) o.rest)
