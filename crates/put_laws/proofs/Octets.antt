-- What is written are bytes, and parts of bytes are. Assumes nothing.
use mathlib.Core.Path.{◌≡◌, refl}
use mathlib.Core.List.{List, [], ◌∷◌, ◌++◌}
use mathlib.Core.Bool.{Bool, true, false}
use Prim.Native.Nat.{ℕ, zero, suc, ◌+◌, ◌<◌, ◌/◌}
use native.Mathlib.Omega.{arith}
use lib.ListN.{length, take, drop, length-take, get_or, get_or-eq_default}
use lib.Seq.{get_or-drop, get_or-take}
use lib.Dec.{ltb}
use borrow.Author.Tests.{ltb-true, ltb-false}
use Rattle.wire.specs.Wire.{pair_of}
use Rattle.iad.specs.Iad.{pairs_of}
use Rattle.element.specs.declared.Write.{Write}
use Rattle.element.specs.declared.Write.TheVariants.{Value, AccumulatorLimits, CounterLimits}
use Rattle.put_laws.specs.Written.{Form, short, long, length_bytes, limit, tag_byte, value_bytes, Object}
use Rattle.put_laws.specs.Written.{accumulators, counters, second_byte, IsOf, Item, filler, element, item_bytes}
use Rattle.put_laws.specs.Written.{list_bytes, AreOf, Command, written, Bytes, Proper}
use Rattle.put_laws.proofs.Elements.{value-fits}

-- ---- parts
pub drop_bytes : (n : ℕ) (s : List ℕ) → Bytes s → Bytes (drop n s)
drop_bytes n s h i = rw (get_or-drop n s i 0) (h (n + i))

take_by : (n : ℕ) (s : List ℕ) → Bytes s → (i : ℕ) (b : Bool) → ltb i n ≡ b → get_or (take n s) i 0 < 256
take_by n s h i true e = rw (get_or-take n s i 0 (ltb-true i n e)) (h i)
take_by n s h i false e = rw (get_or-eq_default (take n s) 0 {n = i} (omega (arith, length-take n s, ltb-false i n e))) (omega arith)

pub take-bytes : (n : ℕ) (s : List ℕ) → Bytes s → Bytes (take n s)
take-bytes n s h i = take_by n s h i (ltb i n) refl

-- ---- what is written
no_bytes : Bytes []
no_bytes i = omega arith

byte-first : (b : ℕ) (s : List ℕ) → b < 256 → Bytes s → Bytes (b ∷ s)
byte-first b s h g zero = h
byte-first b s h g (suc i) = g i

pub four_bytes : (a b c d : ℕ) → a < 256 → b < 256 → c < 256 → d < 256 → Bytes (a ∷ b ∷ c ∷ d ∷ [])
four_bytes a b c d e f g h = byte-first a (b ∷ c ∷ d ∷ []) e (byte-first b (c ∷ d ∷ []) f (byte-first c (d ∷ []) g (byte-first d [] h no_bytes)))

joined : (a b : List ℕ) → Bytes a → Bytes b → Bytes (a ++ b)
joined [] b h g = g
joined (x ∷ a) b h g = byte-first x (a ++ b) (h 0) (joined a b (λ i. h (suc i)) g)

pairs-bytes : (a n : ℕ) → Bytes (pairs_of a n)
unfolding pairs_of
pairs-bytes a zero = no_bytes
pairs-bytes a (suc n) = joined (pairs_of (a / 100) n) (pair_of a ∷ []) (pairs-bytes (a / 100) n) (byte-first (pair_of a) [] (omega arith) no_bytes)

length_bytes_lem : (f : Form) (n : ℕ) → n < limit f → Bytes (length_bytes f n)
length_bytes_lem short n h = byte-first n [] (omega arith) no_bytes
length_bytes_lem long n h = byte-first 0x81 (n ∷ []) (omega arith) (byte-first n [] h no_bytes)

value-bytes : (o : Object) (w : Write) → IsOf o w → Bytes (value_bytes w)
value-bytes accumulators (Value slot a) h = pairs-bytes a.0 6
value-bytes accumulators (AccumulatorLimits slot a b) h = joined (pairs_of a.0 6) (pairs_of b.0 6) (pairs-bytes a.0 6) (pairs-bytes b.0 6)
value-bytes accumulators (CounterLimits slot a b) h = absurd h
value-bytes counters (Value slot a) h = absurd h
value-bytes counters (AccumulatorLimits slot a b) h = absurd h
value-bytes counters (CounterLimits slot a b) h = byte-first a (b ∷ []) h.1 (byte-first b [] h.2 no_bytes)

pub tag_small : (o : Object) (w : Write) → IsOf o w → tag_byte w < 256
tag_small accumulators (Value slot a) h = let l = h.0 in omega arith
tag_small accumulators (AccumulatorLimits slot a b) h = let l = h.0 in omega arith
tag_small accumulators (CounterLimits slot a b) h = absurd h
tag_small counters (Value slot a) h = absurd h
tag_small counters (AccumulatorLimits slot a b) h = absurd h
tag_small counters (CounterLimits slot a b) h = let l = h.0 in omega arith

list-bytes : (o : Object) (is : List Item) → AreOf o is → Bytes (list_bytes is)
unfolding AreOf list_bytes
list-bytes o [] h = no_bytes
list-bytes o (filler ∷ is) h = byte-first 0 (list_bytes is) (omega arith) (list-bytes o is h)
list-bytes o (element f w ∷ is) h =
    let v = value_bytes w in
    let l = length_bytes f (length v) in
    joined (item_bytes (element f w)) (list_bytes is)
    (byte-first 0xDF (tag_byte w ∷ (l ++ v)) (omega arith)
    (byte-first (tag_byte w) (l ++ v) (tag_small o w h.0)
    (joined l v (length_bytes_lem f (length v) (value-fits w f)) (value-bytes o w h.0))))
    (list-bytes o is h.1)

second-small : (o : Object) → second_byte o < 256
second-small accumulators = omega arith
second-small counters = omega arith

-- THEOREM: what is written of a proper command are bytes
pub bytes-there : (p : Command) → Proper p → Bytes (written p)
unfolding written
bytes-there p h =
    let v = list_bytes p.list in
    let l = length_bytes p.form (length v) in
    let t : List ℕ = 0x8E ∷ 0x04 ∷ p.mac in
    let d : List ℕ = 0x81 ∷ (l ++ (v ++ t)) in
    let q = second_byte p.object in
    byte-first 0x0C (0xDA ∷ 0xBF ∷ q ∷ length d ∷ d) (omega arith)
    (byte-first 0xDA (0xBF ∷ q ∷ length d ∷ d) (omega arith)
    (byte-first 0xBF (q ∷ length d ∷ d) (omega arith)
    (byte-first q (length d ∷ d) (second-small p.object)
    (byte-first (length d) d h.lc
    (byte-first 0x81 (l ++ (v ++ t)) (omega arith)
    (joined l (v ++ t) (length_bytes_lem p.form (length v) h.fits)
    (joined v t (list-bytes p.object p.list h.elements)
    (byte-first 0x8E (0x04 ∷ p.mac) (omega arith) (byte-first 0x04 p.mac (omega arith) h.bytes)))))))))
