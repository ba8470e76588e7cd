-- A list of elements writes what the card's reader says of it, where it fails too. Assumes nothing.
use Rattle.std.specs.Prelude.{Option, None, Some}
use mathlib.Core.Path.{◌≡◌, refl, sym, ap, ap₂, ◌∙◌}
use mathlib.Core.List.{List, [], ◌∷◌}
use mathlib.Core.Bool.{Bool, true, false, ◌&&◌, cond, and-false}
use Prim.Native.Nat.{ℕ, zero, suc, ◌+◌, ◌/◌, ◌≤◌, ◌<◌}
use native.Mathlib.Omega.{arith}
use lib.ListN.{length, take, drop, length-drop}
use lib.Seq.{drop-drop}
use lib.Dec.{ltb, leb, eqb}
use borrow.Author.Tests.{leb-true, ltb-true, ne_eqb, eqb-true, eqb-false}
use Rattle.wire.specs.Wire.{byte, number}
use Rattle.wire.proofs.Pairs.{both}
use Rattle.element.specs.declared.Write.{Write}
use Rattle.element.specs.Element.{is_length, length_size, length_at, is_one_of, meaning_of, head_size, element_size, element_meaning}
use Rattle.put_data.specs.PutData.{before, writes_by, writes_in}
use Rattle.put_laws.proofs.Elements.{list-element}
use Rattle.put_laws.proofs.Octets.{drop_bytes}
use Rattle.put_laws.proofs.Parts.{two_at}
use Rattle.auditor.specs.Template.{parted, short_in, and_then, from_value, list_by, Bytes}
use Rattle.auditor.proofs.Rows.{same-order}

-- ---- a length and its value, at the card's places
abbrev pub fits : List ℕ → Bool
fits s = is_length (byte s 0) && leb (length_size s 0 + length_at s 0) (length s)

abbrev pub value : List ℕ → List ℕ
value s = take (length_at s 0) (drop (length_size s 0) s)

abbrev pub behind : List ℕ → List ℕ
behind s = drop (length_size s 0 + length_at s 0) s

parted-at : (k n : ℕ) (s : List ℕ) → k ≤ length s
    → parted n (drop k s) ≡ cond (leb (k + n) (length s)) (Some (record { value = take n (drop k s); behind = drop (k + n) s })) None
parted-at k n s h =
    let l = length-drop k s in
    simp (same-order n (length (drop k s)) (k + n) (length s) (λ e. omega arith) (λ e. omega arith), drop-drop n k s)

short-by : (n : ℕ) (s : List ℕ) (p q : Bool) → ltb n 0x80 ≡ p → eqb n 0x81 ≡ q
    → short_in (n ∷ s) ≡ cond (fits (n ∷ s)) (Some (record { value = value (n ∷ s); behind = behind (n ∷ s) })) None
unfolding short_in length_size length_at
short-by n s true q x y =
    let z = ne_eqb n 0x81 (λ e. omega (arith, ltb-true n 0x80 x)) in
    simp (x, z) (parted-at 1 n (n ∷ s) (omega arith))
short-by n [] false true x y = simp (x, y)
short-by n (m ∷ s) false true x y = simp (x, y) (parted-at 2 m (n ∷ m ∷ s) (omega arith))
short-by n s false false x y = simp (x, y)

pub short_as : (s : List ℕ) → short_in s ≡ cond (fits s) (Some (record { value = value s; behind = behind s })) None
unfolding short_in length_size length_at
short_as [] = refl
short_as (n ∷ s) = short-by n s (ltb n 0x80) (eqb n 0x81) refl refl

-- ---- an element: DF and t, and r behind them
module _ (b t : ℕ) (r : List ℕ) where
  size_as : element_size (b ∷ t ∷ r) ≡ 2 + (length_size r 0 + length_at r 0)
  unfolding element_size head_size length_size length_at
  size_as = omega arith

  rest_as : drop (element_size (b ∷ t ∷ r)) (b ∷ t ∷ r) ≡ behind r
  rest_as = ap (λ n. drop n (b ∷ t ∷ r)) size_as ∙ sym (drop-drop (length_size r 0 + length_at r 0) 2 (b ∷ t ∷ r))

  value_as : take (length_at r 0) (drop (2 + length_size r 0) (b ∷ t ∷ r)) ≡ value r
  value_as = ap (take (length_at r 0)) (sym (drop-drop (length_size r 0) 2 (b ∷ t ∷ r)))

  meaning_as : (o : ℕ) → element_meaning o (b ∷ t ∷ r) ≡ cond (fits r) (meaning_of o (number (b ∷ t ∷ r) 0 2) (value r)) None
  unfolding element_meaning head_size length_size length_at
  meaning_as o =
      let e = size_as in
      let n = length_size r 0 + length_at r 0 in
      simp (same-order (element_size (b ∷ t ∷ r)) (length (b ∷ t ∷ r)) n (length r) (λ h. omega arith) (λ h. omega arith), value_as)

-- no other tag means anything
not_one : (f tag : ℕ) → 0xDF00 ≤ f → f < 0xDFF0 → (tag / 256 ≡ 0xDF → ⊥) → (t : Bool) → is_one_of f tag ≡ t → is_one_of f tag ≡ false
not_one f tag l u h true e =
    let (a, b) = both (leb f tag) (leb tag (f + 3)) e in
    absurd (h (omega (arith, leb-true f tag a, leb-true tag (f + 3) b)))
not_one f tag l u h false e = e

no_meaning : (o tag : ℕ) (v : List ℕ) → (tag / 256 ≡ 0xDF → ⊥) → meaning_of o tag v ≡ None
unfolding meaning_of
no_meaning o tag v h =
    simp (not_one 0xDF01 tag (omega arith) (omega arith) h (is_one_of 0xDF01 tag) refl, not_one 0xDF11 tag (omega arith) (omega arith) h (is_one_of 0xDF11 tag) refl, and-false)

none_else : (t : Bool) (m : Option Write) → m ≡ None → cond t m None ≡ None
none_else true m e = e
none_else false m e = refl

cut_short_lem : (o b : ℕ) → element_meaning o (b ∷ []) ≡ None
unfolding element_meaning element_size head_size length_size length_at
cut_short_lem o b = refl

no_element : (o b : ℕ) (s : List ℕ) → (b ≡ 0xDF → ⊥) → Bytes s → element_meaning o (b ∷ s) ≡ None
no_element o b [] z h = cut_short_lem o b
no_element o b (t ∷ r) z h =
    let n = two_at (b ∷ t ∷ r) 0 in
    let l = h 0 in
    meaning_as b t r o ∙ none_else (fits r) (meaning_of o (number (b ∷ t ∷ r) 0 2) (value r)) (no_meaning o (number (b ∷ t ∷ r) 0 2) (value r) (λ e. z (omega arith)))

passes : (o b : ℕ) (s : List ℕ) → eqb b 0 ≡ true → writes_in o (b ∷ s) ≡ writes_in o s
unfolding writes_by
passes o b s e = simp (e)

fails : (o b : ℕ) (s : List ℕ) → (b ≡ 0 → ⊥) → element_meaning o (b ∷ s) ≡ None → writes_in o (b ∷ s) ≡ None
fails o b s z m = list-element o b s z ∙ simp (m)

then_before : (m : Option Write) (x : Option (List Write)) → and_then m x ≡ before m x
then_before None x = refl
then_before (Some w) None = refl
then_before (Some w) (Some ws) = refl

-- ---- a list; n bounds its length
module _ (o : ℕ) (write : ℕ → List ℕ → Option Write) (row : (t : ℕ) (v : List ℕ) → write t v ≡ meaning_of o (0xDF00 + t) v) where
  module _ (n : ℕ) (ih : (s : List ℕ) → length s ≤ n → Bytes s → list_by write n s ≡ writes_in o s) where
    element-same : (t : ℕ) (r : List ℕ) → length r ≤ n → Bytes r → (p : Bool) → fits r ≡ p → from_value (write t) (list_by write n) (short_in r) ≡ writes_in o (0xDF ∷ t ∷ r)
    unfolding number
    element-same t r l h true e =
        let d = length-drop (length_size r 0 + length_at r 0) r in
        let m : element_meaning o (0xDF ∷ t ∷ r) ≡ meaning_of o (0xDF00 + t) (value r) = meaning_as 0xDF t r o ∙ simp (e) in
        simp (short_as r, e)
        (then_before (write t (value r)) (list_by write n (behind r))
        ∙ ap₂ before (row t (value r) ∙ sym m)
        (ih (behind r) (omega arith) (drop_bytes (length_size r 0 + length_at r 0) r h) ∙ ap (writes_in o) (sym (rest_as 0xDF t r)))
        ∙ sym (list-element o 0xDF (t ∷ r) (λ z. omega arith)))
    element-same t r l h false e =
        let m : element_meaning o (0xDF ∷ t ∷ r) ≡ None = meaning_as 0xDF t r o ∙ simp (e) in
        simp (short_as r, e) (sym (fails o 0xDF (t ∷ r) (λ z. omega arith) m))

    by_byte : (b : ℕ) (s : List ℕ) → length s ≤ n → Bytes (b ∷ s) → (p q : Bool) → eqb b 0 ≡ p → eqb b 0xDF ≡ q → list_by write (suc n) (b ∷ s) ≡ writes_in o (b ∷ s)
    unfolding list_by
    by_byte b s l h true q x y = simp (x) (ih s l (λ i. h (suc i)) ∙ sym (passes o b s x))
    by_byte b [] l h false true x y = simp (x, y) (sym (fails o b [] (eqb-false b 0 x) (cut_short_lem o b)))
    by_byte b (t ∷ r) l h false true x y =
        simp (x, y) (element-same t r (omega arith) (λ i. h (suc (suc i))) (fits r) refl ∙ ap (λ k. writes_in o (k ∷ t ∷ r)) (sym (eqb-true b 0xDF y)))
    by_byte b s l h false false x y = simp (x, y) (sym (fails o b s (eqb-false b 0 x) (no_element o b s (eqb-false b 0xDF y) (λ i. h (suc i)))))

  pub list_same : (n : ℕ) (s : List ℕ) → length s ≤ n → Bytes s → list_by write n s ≡ writes_in o s
  unfolding list_by writes_by
  list_same zero [] l h = refl
  list_same zero (b ∷ s) l h = absurd (omega arith)
  list_same (suc n) [] l h = refl
  list_same (suc n) (b ∷ s) l h = by_byte n (list_same n) b s (omega arith) h (eqb b 0) (eqb b 0xDF) refl refl
