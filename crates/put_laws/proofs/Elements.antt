-- A list that is written of elements and fillers writes what they say, in order. Assumes nothing.
use Rattle.std.specs.Prelude.{Some}
use mathlib.Core.Path.{◌≡◌, refl, ap, ap₂, ◌∙◌}
use mathlib.Core.List.{List, [], ◌∷◌, ◌++◌, append_assoc}
use mathlib.Core.Bool.{true}
use Prim.Native.Nat.{ℕ, ◌+◌, ◌<◌}
use native.Mathlib.Omega.{arith}
use lib.ListN.{length, take, drop, length-append}
use lib.Seq.{take-append_seam, drop-append_seam, drop-append-add}
use borrow.Author.Tests.{lt-ltb, le-leb, ne_eqb}
use Rattle.wire.specs.Wire.{byte, number}
use Rattle.iad.specs.Iad.{pairs_of}
use Rattle.element.specs.declared.Write.{Write}
use Rattle.element.specs.declared.Write.TheVariants.{Value, AccumulatorLimits, CounterLimits}
use Rattle.element.specs.Element.{is_length, length_size, length_at, meaning_of, head_size, element_size, element_meaning}
use Rattle.put_data.specs.PutData.{before, writes_by, writes_in}
use Rattle.put_data.proofs.Cursor.{behind}
use Rattle.put_laws.specs.Written.{Form, short, long, length_bytes, limit, tag_byte, value_bytes, Object}
use Rattle.put_laws.specs.Written.{Item, filler, element}
use Rattle.put_laws.specs.Written.{list_bytes, list_writes, AreOf}
use Rattle.put_laws.proofs.Rows.{number_of, row}

-- ---- an element, whatever follows it
abbrev head : (tag : ℕ) → Form → ℕ → List ℕ
head tag f n = 0xDF ∷ tag ∷ length_bytes f n

record Head (s : List ℕ) (m n : ℕ) : Type 0 where
  right : is_length (byte s 2) ≡ true
  size : head_size s ≡ m
  value : length_at s 2 ≡ n

headed : (tag : ℕ) (f : Form) (n : ℕ) (r : List ℕ) → n < limit f → Head (head tag f n ++ r) (length (head tag f n)) n
unfolding head_size length_size length_at
headed tag short n r h =
    let e = ne_eqb n 0x81 (λ z. omega arith) in
    record { right = simp (lt-ltb n 0x80 h); size = simp (e); value = simp (e) }
headed tag long n r h = record { right = refl; size = refl; value = refl }

record Read (o : ℕ) (s v r : List ℕ) (tag : ℕ) : Type 0 where
  meaning : element_meaning o s ≡ meaning_of o (0xDF00 + tag) v
  rest : drop (element_size s) s ≡ r

element-read : (o tag : ℕ) (f : Form) (v r : List ℕ) → length v < limit f → Read o (head tag f (length v) ++ (v ++ r)) v r tag
unfolding element_meaning element_size number
element-read o tag f v r h =
    let hd = head tag f (length v) in
    let s = hd ++ (v ++ r) in
    let a = headed tag f (length v) (v ++ r) h in
    let k : element_size s ≡ length hd + length v = ap₂ ◌+◌ a.size a.value in
    let l : length s ≡ length hd + (length v + length r) = length-append hd (v ++ r) ∙ ap (λ n. length hd + n) (length-append v r) in
    let i : drop (head_size s) s ≡ v ++ r = ap (λ n. drop n s) a.size ∙ drop-append_seam hd (v ++ r) in
    let value : take (length_at s 2) (drop (head_size s) s) ≡ v = ap₂ take a.value i ∙ take-append_seam v r in
    record {
      meaning = simp (a.right, le-leb (element_size s) (length s) (omega arith)) (ap (meaning_of o (0xDF00 + tag)) value);
      rest = ap (λ n. drop n s) k ∙ drop-append-add hd (v ++ r) (length v) ∙ drop-append_seam v r;
    }

-- ---- a list
pub value-fits : (w : Write) (f : Form) → length (value_bytes w) < limit f
unfolding pairs_of
value-fits (Value slot a) short = omega arith
value-fits (Value slot a) long = omega arith
value-fits (AccumulatorLimits slot a b) short = omega arith
value-fits (AccumulatorLimits slot a b) long = omega arith
value-fits (CounterLimits slot a b) short = omega arith
value-fits (CounterLimits slot a b) long = omega arith

pub list-element : (o b : ℕ) (s : List ℕ) → (b ≡ 0 → ⊥)
    → writes_in o (b ∷ s) ≡ before (element_meaning o (b ∷ s)) (writes_in o (drop (element_size (b ∷ s)) (b ∷ s)))
unfolding writes_by
list-element o b s h = simp (ne_eqb b 0 h) (ap (before (element_meaning o (b ∷ s))) (behind o b s))

pub there-list : (o : Object) (is : List Item) → AreOf o is → writes_in (number_of o) (list_bytes is) ≡ Some (list_writes is)
unfolding AreOf list_bytes list_writes writes_by
there-list o [] h = refl
there-list o (filler ∷ is) h = there-list o is h
there-list o (element f w ∷ is) h =
    let v = value_bytes w in
    let r = list_bytes is in
    let hd = head (tag_byte w) f (length v) in
    let a = element-read (number_of o) (tag_byte w) f v r (value-fits w f) in
    ap (writes_in (number_of o)) (append_assoc hd v r)
    ∙ list-element (number_of o) 0xDF (tag_byte w ∷ (length_bytes f (length v) ++ (v ++ r))) (λ z. omega arith)
    ∙ ap₂ before (a.meaning ∙ row o w (0xDF00 + tag_byte w) h.0 refl) (ap (writes_in (number_of o)) a.rest ∙ there-list o is h.1)
