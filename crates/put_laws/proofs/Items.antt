-- A list of which every element writes something is written of elements and fillers. Assumes nothing.
use Rattle.std.specs.Prelude.{Option, None, Some}
use mathlib.Core.Path.{◌≡◌, refl, sym, ap, ap₂, ◌∙◌}
use mathlib.Core.List.{List, [], ◌∷◌, ◌++◌, append_assoc}
use mathlib.Core.Bool.{Bool, true, false, ◌&&◌}
use Prim.Native.Nat.{ℕ, zero, suc, ◌+◌, ◌*◌, ◌≤◌, ◌<◌}
use native.Mathlib.Omega.{arith}
use lib.ListN.{length, take, drop, length-drop, take-append-drop}
use lib.Seq.{length-take-le}
use lib.Dec.{leb, eqb}
use borrow.Author.Tests.{leb-true, eqb-true, eqb-false}
use Rattle.wire.specs.Wire.{byte, number}
use Rattle.wire.proofs.Pairs.{both}
use Rattle.element.specs.declared.Write.{Write}
use Rattle.element.specs.Element.{is_length, length_size, length_at, meaning_of, head_size, element_size, element_meaning}
use Rattle.element.proofs.Laws.{tested, element-some}
use Rattle.put_data.specs.PutData.{before, writes_by, writes_in}
use Rattle.put_laws.specs.Written.{Form, length_bytes, tag_byte, value_bytes, Object}
use Rattle.put_laws.specs.Written.{IsOf, Item, filler, element, item_bytes}
use Rattle.put_laws.specs.Written.{list_bytes, AreOf, Bytes}
use Rattle.put_laws.proofs.Rows.{number_of, row, row_back}
use Rattle.put_laws.proofs.Elements.{list-element}
use Rattle.put_laws.proofs.Octets.{drop_bytes, take-bytes, tag_small}
use Rattle.put_laws.proofs.Parts.{two_at, spell, spelled, behind-two, length_is}

-- ---- an element
record ElementIs (o : Object) (s : List ℕ) (w : Write) : Type 0 where
  form : Form
  is_of_lem : IsOf o w
  is : item_bytes (element form w) ++ drop (element_size s) s ≡ s

two_bytes : (o : Object) (w : Write) (a b : ℕ) → IsOf o w → b < 256 → a * 256 + b ≡ 0xDF00 + tag_byte w → (a ≡ 0xDF) × (b ≡ tag_byte w)
two_bytes o w a b g h e = let t = tag_small o w g in (omega arith, omega arith)

element_back : (o : Object) (s : List ℕ) (w : Write) → Bytes s → element_meaning (number_of o) s ≡ Some w → ElementIs o s w
unfolding element_meaning element_size head_size spell
element_back o s w h e =
    let n = length_at s 2 in
    let k = length_size s 2 in
    let v = take n (drop (2 + k) s) in
    let (t, m) = tested (is_length (byte s 2) && leb (element_size s) (length s)) (meaning_of (number_of o) (number s 0 2) v) w e in
    let (r, f) = both (is_length (byte s 2)) (leb (element_size s) (length s)) t in
    let fits : 2 + k + n ≤ length s = leb-true (element_size s) (length s) f in
    let row = row_back (number s 0 2) v w o (take-bytes n (drop (2 + k) s) (drop_bytes (2 + k) s h)) m in
    let len = length_is s 2 h r (omega arith) in
    let tag = two_bytes o w (byte s 0) (byte s 1) row.is_of_lem (h 1) (two_at s 0 ∙ row.tag_is) in
    let size : length (value_bytes w) ≡ n = ap length row.value ∙ length-take-le n (drop (2 + k) s) (omega (arith, length-drop (2 + k) s)) in
    let front : take 2 s ≡ 0xDF ∷ tag_byte w ∷ [] = spelled 0 2 s (omega arith) ∙ ap₂ (λ x y. x ∷ y ∷ []) tag.0 tag.1 in
    let l = length_bytes len.form (length (value_bytes w)) in
    let middle : l ≡ take k (drop 2 s) = ap (length_bytes len.form) size ∙ sym len.bytes in
    record {
      form = len.form;
      is_of_lem = row.is_of_lem;
      is = ap (λ x. 0xDF ∷ tag_byte w ∷ x) (append_assoc l (value_bytes w) (drop (element_size s) s)
          ∙ ap₂ (λ x y. x ++ (y ++ drop (element_size s) s)) middle row.value ∙ behind-two s 2 k n)
          ∙ ap (λ x. x ++ drop 2 s) (sym front) ∙ take-append-drop 2 s;
    }

-- ---- a list
pub record Found (o : Object) (s : List ℕ) : Type 0 where
  pub items : List Item
  pub are : AreOf o items
  pub is : list_bytes items ≡ s

record Both (m : Option Write) (x : Option (List Write)) : Type 0 where
  write : Write
  rest : List Write
  is : m ≡ Some write
  others : x ≡ Some rest

both_some : (m : Option Write) (x : Option (List Write)) (ws : List Write) → before m x ≡ Some ws → Both m x
both_some None x ws e = let z : ◌≡◌ {A = ℕ} 0 1 = cc in absurd (omega arith)
both_some (Some w) None ws e = let z : ◌≡◌ {A = ℕ} 0 1 = cc in absurd (omega arith)
both_some (Some w) (Some us) ws e = record { write = w; rest = us; is = refl; others = refl }

module _ (o : Object) (n : ℕ) (ih : (s : List ℕ) (ws : List Write) → length s ≤ n → Bytes s → writes_in (number_of o) s ≡ Some ws → Found o s) where
  by_first : (b : ℕ) (s : List ℕ) (ws : List Write) → length s ≤ n → Bytes (b ∷ s) → writes_in (number_of o) (b ∷ s) ≡ Some ws → (t : Bool) → eqb b 0 ≡ t
      → Found o (b ∷ s)
  unfolding AreOf list_bytes writes_by
  by_first b s ws l h e true t =
      let r = ih s ws l (λ i. h (suc i)) (simp (t) at e) in
      record { items = filler ∷ r.items; are = r.are; is = ap₂ (λ x y. x ∷ y) (sym (eqb-true b 0 t)) r.is }
  by_first b s ws l h e false t =
      let u = b ∷ s in
      let rest = drop (element_size u) u in
      let m = both_some (element_meaning (number_of o) u) (writes_in (number_of o) rest) ws (sym (list-element (number_of o) b s (eqb-false b 0 t)) ∙ e) in
      let a = element_back o u m.write h m.is in
      let r = ih rest m.rest (omega (arith, length-drop (element_size u) u, element-some u)) (drop_bytes (element_size u) u h) m.others in
      record {
        items = element a.form m.write ∷ r.items;
        are = (a.is_of_lem, r.are);
        is = ap (λ x. item_bytes (element a.form m.write) ++ x) r.is ∙ a.is;
      }

pub list_back : (o : Object) (n : ℕ) (s : List ℕ) (ws : List Write) → length s ≤ n → Bytes s → writes_in (number_of o) s ≡ Some ws → Found o s
unfolding AreOf list_bytes
list_back o zero [] ws l h e = record { items = []; are = tt; is = refl }
list_back o zero (b ∷ s) ws l h e = absurd (omega arith)
list_back o (suc n) [] ws l h e = record { items = []; are = tt; is = refl }
list_back o (suc n) (b ∷ s) ws l h e = by_first o n (list_back o n) b s ws (omega arith) h e (eqb b 0) refl
