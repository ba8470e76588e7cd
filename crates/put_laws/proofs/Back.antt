-- A valid command is written of a proper one. Assumes nothing.
use Rattle.std.specs.Prelude.{Some}
use mathlib.Core.Path.{◌≡◌, refl, sym, ap, ◌∙◌, subst}
use mathlib.Core.List.{List, [], ◌∷◌, ◌++◌}
use mathlib.Core.Bool.{Bool, true, false, ◌&&◌, ◌||◌, cond}
use Prim.Native.Nat.{ℕ, suc, ◌+◌, ◌*◌, ◌≤◌, ◌<◌}
use native.Mathlib.Omega.{arith}
use native.Mathlib.Nat.{le_refl}
use lib.ListN.{length, take, drop, length-drop, take-append-drop}
use lib.Seq.{drop-cons, length-take-le}
use lib.Dec.{leb, eqb}
use borrow.Author.Tests.{le-leb}
use borrow.Author.Tests.{eqb-true}
use Rattle.wire.specs.Wire.{byte}
use Rattle.wire.proofs.Pairs.{both}
use Rattle.element.specs.declared.Write.{Write}
use Rattle.element.specs.Element.{is_length, length_size, length_at}
use Rattle.element.proofs.Laws.{tested}
use Rattle.put_data.specs.PutData.{writes_in, object_of, is_put_data}
use Rattle.put_data.specs.PutData.{list_place, mac_place, is_secured, elements_of, writes_of, is_some, is_valid}
use Rattle.put_data.proofs.Cursor.{behind, left, at-start}
use Rattle.put_laws.specs.Written.{long, length_bytes, Object}
use Rattle.put_laws.specs.Written.{accumulators, counters, second_byte}
use Rattle.put_laws.specs.Written.{list_bytes, list_writes, Command, written, Bytes, Proper}
use Rattle.put_laws.proofs.Rows.{number_of}
use Rattle.put_laws.proofs.There.{writes-there}
use Rattle.put_laws.proofs.Octets.{drop_bytes, take-bytes, bytes-there}
use Rattle.put_laws.proofs.Parts.{two_at, spell, spelled, behind-two, length_is}
use Rattle.put_laws.proofs.Items.{Found, list_back}

-- ---- a command
pub record Spelled (c : List ℕ) : Type 0 where
  pub command : Command
  pub proper : Proper command
  pub is : written command ≡ c

record Put (c : List ℕ) : Type 0 where
  cla : byte c 0 ≡ 0x0C
  ins : byte c 1 ≡ 0xDA
  object : (eqb (object_of c) 0xBF30 || eqb (object_of c) 0xBF35) ≡ true
  lc : length c ≡ 5 + byte c 4

put_parts : (c : List ℕ) → is_put_data c ≡ true → Put c
unfolding is_put_data
put_parts c h =
    let first = eqb (byte c 0) 0x0C in
    let second = eqb (byte c 1) 0xDA in
    let third = eqb (object_of c) 0xBF30 || eqb (object_of c) 0xBF35 in
    let (abc, d) = both (first && second && third) (eqb (length c) (5 + byte c 4)) h in
    let (ab, o) = both (first && second) third abc in
    let (a, b) = both first second ab in
    record { cla = eqb-true _ _ a; ins = eqb-true _ _ b; object = o; lc = eqb-true _ _ d }

record Secured (c : List ℕ) : Type 0 where
  sixth : byte c 5 ≡ 0x81
  right : is_length (byte c 6) ≡ true
  mac : byte c (mac_place c) ≡ 0x8E
  four : byte c (mac_place c + 1) ≡ 4
  size : length c ≡ mac_place c + 6

secured_parts : (c : List ℕ) → is_secured c ≡ true → Secured c
unfolding is_secured
secured_parts c h =
    let first = eqb (byte c 5) 0x81 in
    let second = is_length (byte c 6) in
    let third = eqb (byte c (mac_place c)) 0x8E in
    let fourth = eqb (byte c (mac_place c + 1)) 4 in
    let (abcd, e) = both (first && second && third && fourth) (eqb (length c) (mac_place c + 6)) h in
    let (abc, d) = both (first && second && third) fourth abcd in
    let (ab, m) = both (first && second) third abc in
    let (a, b) = both first second ab in
    record { sixth = eqb-true _ _ a; right = b; mac = eqb-true _ _ m; four = eqb-true _ _ d; size = eqb-true _ _ e }

-- P1 P2
record ObjectIs (n : ℕ) : Type 0 where
  object : Object
  is : n ≡ number_of object

object-by : (n : ℕ) (p q : Bool) → eqb n 0xBF30 ≡ p → eqb n 0xBF35 ≡ q → (p || q) ≡ true → ObjectIs n
object-by n true q x y e = record { object = accumulators; is = eqb-true n 0xBF30 x }
object-by n false true x y e = record { object = counters; is = eqb-true n 0xBF35 y }
object-by n false false x y e = let z : ◌≡◌ {A = ℕ} 0 1 = cc in absurd (omega arith)

object-bytes : (o : Object) (a b : ℕ) → b < 256 → a * 256 + b ≡ number_of o → (a ≡ 0xBF) × (b ≡ second_byte o)
object-bytes accumulators a b h e = (omega arith, omega arith)
object-bytes counters a b h e = (omega arith, omega arith)

elements-are : (c : List ℕ) → mac_place c ≤ length c → elements_of c ≡ take (length_at c 6) (drop (list_place c) c)
unfolding elements_of
elements-are c h = simp (le-leb _ _ h)

-- the bytes from the MAC's tag on, from Lc on, and all
mac-is : (c : List ℕ) (at : ℕ) → byte c at ≡ 0x8E → byte c (at + 1) ≡ 0x04 → at + 2 ≤ length c → 0x8E ∷ 0x04 ∷ drop (at + 2) c ≡ drop at c
mac-is c at m n h =
    let one : suc at ≡ at + 1 = omega arith in
    let two : suc (suc at) ≡ at + 2 = omega arith in
    let first = drop-cons c at 0 (omega arith) in
    let second = drop-cons c (suc at) 0 (omega arith) in
    cc (ap (byte c) one, ap (λ k. drop k c) two)

data_is : (c l v t : List ℕ) (k n : ℕ) → byte c 5 ≡ 0x81 → l ≡ take k (drop 6 c) → v ≡ take n (drop (6 + k) c) → t ≡ drop (6 + k + n) c → 6 ≤ length c
    → 0x81 ∷ (l ++ (v ++ t)) ≡ drop 5 c
data_is c l v t k n b p q r h =
    let first = drop-cons c 5 0 (omega arith) in
    let behind = behind-two c 6 k n in
    cc

command-is : (o : Object) (c d : List ℕ) → Put c → object_of c ≡ number_of o → byte c 3 < 256 → 5 ≤ length c → d ≡ drop 5 c → length d ≡ byte c 4
    → 0x0C ∷ 0xDA ∷ 0xBF ∷ second_byte o ∷ length d ∷ d ≡ c
unfolding spell
command-is o c d p e h l q n =
    let (third, fourth) = object-bytes o (byte c 2) (byte c 3) h (two_at c 2 ∙ e) in
    let five : take 5 c ++ drop 5 c ≡ byte c 0 ∷ byte c 1 ∷ byte c 2 ∷ byte c 3 ∷ byte c 4 ∷ drop 5 c = ap (λ x. x ++ drop 5 c) (spelled 0 5 c l) in
    let all = take-append-drop 5 c in
    cc

from_parts : (c : List ℕ) → Bytes c → Put c → Secured c → (o : Object) → object_of c ≡ number_of o → Found o (elements_of c) → Spelled c
unfolding written list_place mac_place
from_parts c h p s o e r =
    let n = length_at c 6 in
    let k = length_size c 6 in
    let at = mac_place c in
    let size = s.size in
    let lc = p.lc in
    let len = length_is c 6 h s.right (omega arith) in
    let v = list_bytes r.items in
    let value : v ≡ take n (drop (6 + k) c) = r.is ∙ elements-are c (omega arith) in
    let long : length v ≡ n = ap length value ∙ length-take-le n (drop (6 + k) c) (omega (arith, length-drop (6 + k) c)) in
    let l = length_bytes len.form (length v) in
    let t : List ℕ = 0x8E ∷ 0x04 ∷ drop (at + 2) c in
    let d : List ℕ = 0x81 ∷ (l ++ (v ++ t)) in
    let rest : d ≡ drop 5 c =
    data_is c l v t k n s.sixth (ap (length_bytes len.form) long ∙ sym len.bytes) value (mac-is c at s.mac s.four (omega arith)) (omega arith) in
    let count : length d ≡ byte c 4 = ap length rest ∙ omega (arith, length-drop 5 c) in
    record {
      command = record { object = o; form = len.form; list = r.items; mac = drop (at + 2) c };
      proper = record {
        elements = r.are;
        fits = rw long len.fits;
        lc = rw count (h 4);
        four = omega (arith, length-drop (at + 2) c);
        bytes = drop_bytes (at + 2) c h;
      };
      is = command-is o c d p e (h 3) (omega arith) rest count;
    }

cond_bytes : (t : Bool) (s : List ℕ) → Bytes s → Bytes (cond t s [])
cond_bytes true s h = h
cond_bytes false s h = λ i. omega arith

elements-bytes : (c : List ℕ) → Bytes c → Bytes (elements_of c)
unfolding elements_of
elements-bytes c h =
    let v = take (length_at c 6) (drop (list_place c) c) in
    cond_bytes (leb (mac_place c) (length c)) v (take-bytes (length_at c 6) (drop (list_place c) c) (drop_bytes (list_place c) c h))

-- bytes that write something are written of a proper command
spelled_back : (c : List ℕ) (ws : List Write) → Bytes c → writes_of c ≡ Some ws → Spelled c
unfolding writes_of
spelled_back c ws h e =
    let (t, x) = tested (is_put_data c && is_secured c) (writes_in (object_of c) (elements_of c)) ws e in
    let (a, b) = both (is_put_data c) (is_secured c) t in
    let p = put_parts c a in
    let o = object-by (object_of c) (eqb (object_of c) 0xBF30) (eqb (object_of c) 0xBF35) refl refl p.object in
    from_parts c h p (secured_parts c b) o.object o.is
    (list_back o.object (length (elements_of c)) (elements_of c) ws (le_refl _) (elements-bytes c h) (ap (λ n. writes_in n (elements_of c)) (sym o.is) ∙ x))

-- THEOREM: a command is valid exactly if it is written of a proper one, and then it writes what the elements of that one say, in order
pub from-proper : (c : List ℕ) → Bytes c → is_valid c ≡ true → Spelled c
from-proper c h v = spelled_back c (left c 0) h (at-start c v).1

pub proper_valid : (c : List ℕ) (s : Spelled c) → Bytes c × (is_valid c ≡ true) × (writes_of c ≡ Some (list_writes s.command.list))
unfolding is_valid
proper_valid c s =
    let p = s.command in
    let w : writes_of c ≡ Some (list_writes p.list) = ap writes_of (sym s.is) ∙ writes-there p s.proper in
    (subst Bytes s.is (bytes-there p s.proper), ap is_some w, w)
