-- What is written of a proper command writes what its elements say. Assumes nothing.
use Rattle.std.specs.Prelude.{Some}
use mathlib.Core.Path.{◌≡◌, refl, ap, ap₂, ◌∙◌}
use mathlib.Core.List.{List, ◌∷◌, ◌++◌}
use mathlib.Core.Bool.{true, ◌||◌}
use Prim.Native.Nat.{ℕ, ◌+◌, ◌≤◌, ◌<◌}
use native.Mathlib.Omega.{arith}
use lib.ListN.{length, take, drop, length-append}
use lib.Seq.{take-append_seam, drop-append_seam, get_or-append_seam, get_or-append-add}
use lib.Dec.{eqb}
use borrow.Author.Tests.{lt-ltb, le-leb, eq-eqb, ne_eqb}
use Rattle.wire.specs.Wire.{byte, number}
use Rattle.element.specs.Element.{is_length, length_size, length_at}
use Rattle.put_data.specs.PutData.{writes_in, object_of, is_put_data}
use Rattle.put_data.specs.PutData.{list_place, mac_place, is_secured, elements_of, writes_of}
use Rattle.put_laws.specs.Written.{Form, short, long, length_bytes, limit, Object}
use Rattle.put_laws.specs.Written.{accumulators, counters, second_byte}
use Rattle.put_laws.specs.Written.{list_bytes, list_writes, Command, data_bytes, written, Proper}
use Rattle.put_laws.proofs.Rows.{number_of}
use Rattle.put_laws.proofs.Elements.{there-list}

-- ---- a command, by its parts
record Framed (c v : List ℕ) (o : ℕ) : Type 0 where
  put : is_put_data c ≡ true
  secured : is_secured c ≡ true
  elements : elements_of c ≡ v
  object : object_of c ≡ o

put-by : (c : List ℕ) → byte c 0 ≡ 0x0C → byte c 1 ≡ 0xDA → (eqb (object_of c) 0xBF30 || eqb (object_of c) 0xBF35) ≡ true → length c ≡ 5 + byte c 4
    → is_put_data c ≡ true
unfolding is_put_data
put-by c a b o l = simp (eq-eqb _ _ a, eq-eqb _ _ b, o, eq-eqb _ _ l)

secured_by : (c : List ℕ) → byte c 5 ≡ 0x81 → is_length (byte c 6) ≡ true → byte c (mac_place c) ≡ 0x8E → byte c (mac_place c + 1) ≡ 4
    → length c ≡ mac_place c + 6 → is_secured c ≡ true
unfolding is_secured
secured_by c a r m n l = simp (eq-eqb _ _ a, r, eq-eqb _ _ m, eq-eqb _ _ n, eq-eqb _ _ l)

elements-by : (c v : List ℕ) → mac_place c ≤ length c → take (length_at c 6) (drop (list_place c) c) ≡ v → elements_of c ≡ v
unfolding elements_of
elements-by c v h e = simp (le-leb _ _ h) e

abbrev front : (q lc : ℕ) → Form → ℕ → List ℕ
front q lc f n = 0x0C ∷ 0xDA ∷ 0xBF ∷ q ∷ lc ∷ 0x81 ∷ length_bytes f n

record Front (c : List ℕ) (m n : ℕ) : Type 0 where
  first : byte c 0 ≡ 0x0C
  second : byte c 1 ≡ 0xDA
  sixth : byte c 5 ≡ 0x81
  right : is_length (byte c 6) ≡ true
  place : list_place c ≡ m
  size : length_at c 6 ≡ n

fronted : (q lc : ℕ) (f : Form) (n : ℕ) (r : List ℕ) → n < limit f → Front (front q lc f n ++ r) (length (front q lc f n)) n
unfolding list_place length_size length_at
fronted q lc short n r h =
    let e = ne_eqb n 0x81 (λ z. omega arith) in
    record { first = refl; second = refl; sixth = refl; right = simp (lt-ltb n 0x80 h); place = simp (e); size = simp (e) }
fronted q lc long n r h = record { first = refl; second = refl; sixth = refl; right = refl; place = refl; size = refl }

object-is : (o : Object) (lc : ℕ) (f : Form) (n : ℕ) (r : List ℕ) → object_of (front (second_byte o) lc f n ++ r) ≡ number_of o
unfolding number
object-is accumulators lc f n r = refl
object-is counters lc f n r = refl

known : (o : Object) → (eqb (number_of o) 0xBF30 || eqb (number_of o) 0xBF35) ≡ true
known accumulators = refl
known counters = refl

framed : (o : Object) (lc : ℕ) (f : Form) (v mac : List ℕ) → length v < limit f → length mac ≡ 4
    → let c = front (second_byte o) lc f (length v) ++ (v ++ 0x8E ∷ 0x04 ∷ mac) in length c ≡ 5 + lc → Framed c v (number_of o)
unfolding mac_place
framed o lc f v mac h four l =
    let hd = front (second_byte o) lc f (length v) in
    let t : List ℕ = 0x8E ∷ 0x04 ∷ mac in
    let c = hd ++ (v ++ t) in
    let a = fronted (second_byte o) lc f (length v) (v ++ t) h in
    let object = object-is o lc f (length v) (v ++ t) in
    let m : mac_place c ≡ length hd + length v = ap₂ ◌+◌ a.place a.size in
    let n : length c ≡ length hd + (length v + length t) = length-append hd (v ++ t) ∙ ap (λ k. length hd + k) (length-append v t) in
    let m1 : mac_place c + 1 ≡ length hd + (length v + 1) = omega arith in
    let b : byte c (mac_place c) ≡ 0x8E = ap (byte c) m ∙ get_or-append-add hd (v ++ t) (length v) 0 ∙ get_or-append_seam v 0x8E (0x04 ∷ mac) 0 in
    let b1 : byte c (mac_place c + 1) ≡ 0x04 = ap (byte c) m1 ∙ get_or-append-add hd (v ++ t) (length v + 1) 0 ∙ get_or-append-add v t 1 0 in
    let value = ap₂ (λ k j. take k (drop j c)) a.size a.place ∙ ap (take (length v)) (drop-append_seam hd (v ++ t)) ∙ take-append_seam v t in
    record {
      put = put-by c a.first a.second (rw object (known o)) l;
      secured = secured_by c a.sixth a.right b b1 (omega arith);
      elements = elements-by c v (omega arith) value;
      object = object;
    }

-- THEOREM: a command that is written of a proper one writes what its elements say, in order
pub writes-there : (p : Command) → Proper p → writes_of (written p) ≡ Some (list_writes p.list)
unfolding written writes_of
writes-there p h =
    let a = framed p.object (length (data_bytes p)) p.form (list_bytes p.list) p.mac h.fits h.four (omega arith) in
    simp (a.put, a.secured) (ap₂ writes_in a.object a.elements ∙ there-list p.object p.list h.elements)
