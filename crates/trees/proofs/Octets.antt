-- What is written are bytes, and so are parts of bytes. Assumes nothing.
use mathlib.Core.Path.{◌≡◌, refl}
use mathlib.Core.List.{List, [], ◌∷◌, ◌++◌}
use mathlib.Core.Bool.{Bool, true, false}
use Prim.Native.Nat.{ℕ, zero, suc, ◌+◌, ◌<◌}
use native.Mathlib.Omega.{arith}
use lib.ListN.{length, get_or, take, drop, length-take, get_or-eq_default}
use lib.Seq.{get_or-drop, get_or-take}
use lib.Dec.{ltb}
use borrow.Author.Tests.{ltb-true, ltb-false}
use Rattle.trees.specs.Tree.{Tag, short, long, Form, plain, with81, with82, Objects, end, filler, primitive, constructed}
use Rattle.trees.specs.Tree.{length_bytes, head, object_bytes, written, limit, Tagged, Bytes, Good}

none : Bytes []
none i = omega arith

one_more_lem : (b : ℕ) (s : List ℕ) → b < 256 → Bytes s → Bytes (b ∷ s)
one_more_lem b s h g zero = h
one_more_lem b s h g (suc i) = g i

joined : (a b : List ℕ) → Bytes a → Bytes b → Bytes (a ++ b)
joined [] b h g = g
joined (x ∷ a) b h g = one_more_lem x (a ++ b) (h 0) (joined a b (λ i. h (suc i)) g)

length_bytes_lem : (f : Form) (n : ℕ) → n < limit f → Bytes (length_bytes f n)
length_bytes_lem plain n h zero = omega arith
length_bytes_lem plain n h (suc i) = omega arith
length_bytes_lem with81 n h zero = omega arith
length_bytes_lem with81 n h (suc zero) = omega arith
length_bytes_lem with81 n h (suc (suc i)) = omega arith
length_bytes_lem with82 n h zero = omega arith
length_bytes_lem with82 n h (suc zero) = omega arith
length_bytes_lem with82 n h (suc (suc zero)) = omega arith
length_bytes_lem with82 n h (suc (suc (suc i))) = omega arith

head_bytes : (q : ℕ) (t : Tag) (f : Form) (n : ℕ) → Tagged q t → n < limit f → Bytes (head t f n)
head_bytes q (short b) f n g h = one_more_lem b (length_bytes f n) g.0 (length_bytes_lem f n h)
head_bytes q (long b c) f n g h = let l = g.1 in one_more_lem b (c ∷ length_bytes f n) g.0 (one_more_lem c (length_bytes f n) (omega arith) (length_bytes_lem f n h))

object-bytes : (q : ℕ) (t : Tag) (f : Form) (v r : List ℕ) → Tagged q t → length v < limit f → Bytes v → Bytes r → Bytes (object_bytes t f v r)
object-bytes q t f v r g h x y = joined (head t f (length v)) (v ++ r) (head_bytes q t f (length v) g h) (joined v r x y)

filler-bytes : (r : Objects) → Bytes (written r) → Bytes (written (filler r))
unfolding written
filler-bytes r h zero = omega arith
filler-bytes r h (suc i) = h i

-- THEOREM: what is written of good objects are bytes
pub written-bytes : (i : Objects) → Good i → Bytes (written i)
unfolding Good written
written-bytes end g = none
written-bytes (filler r) g = filler-bytes r (written-bytes r g)
written-bytes (primitive t f v r) g = object-bytes 0 t f v (written r) g.0 g.1 g.2 (written-bytes r g.3)
written-bytes (constructed t f o r) g = object-bytes 1 t f (written o) (written r) g.0 g.1 (written-bytes o g.2) (written-bytes r g.3)

-- ---- parts
pub drop_bytes : (n : ℕ) (s : List ℕ) → Bytes s → Bytes (drop n s)
drop_bytes n s h i = rw (get_or-drop n s i 0) (h (n + i))

pub take-bytes : (n : ℕ) (s : List ℕ) → Bytes s → Bytes (take n s)
take-bytes n s h i = go (ltb i n) refl
  where
    go : (b : Bool) → ltb i n ≡ b → get_or (take n s) i 0 < 256
    go true e = rw (get_or-take n s i 0 (ltb-true i n e)) (h i)
    go false e = rw (get_or-eq_default (take n s) 0 {n = i} (omega (arith, length-take n s, ltb-false i n e))) (omega arith)
