-- A command writes what the card's reader says of it, where it fails too. Assumes nothing.
use Rattle.std.specs.Prelude.{Option, None}
use mathlib.Core.Path.{◌≡◌, refl, sym, ap, ◌∙◌}
use mathlib.Core.List.{List, [], ◌∷◌}
use mathlib.Core.Bool.{Bool, true, false, ◌&&◌, cond, and_assoc, and-true, and-false}
use Prim.Native.Nat.{ℕ, ◌+◌, ◌<◌}
use native.Mathlib.Nat.{le_refl, add-zero}
use native.Mathlib.Omega.{arith}
use lib.ListN.{length, take, drop, length-drop}
use lib.Seq.{drop-drop, get_or-drop}
use lib.Dec.{leb, eqb}
use borrow.Author.Tests.{leb-true, leb-false, le-leb, ne_eqb, eqb-true, eqb-false}
use Rattle.wire.specs.Wire.{byte}
use Rattle.wire.proofs.Pairs.{both}
use Rattle.element.specs.declared.Write.{Write}
use Rattle.element.specs.Element.{is_length, length_size, length_at, meaning_of}
use Rattle.put_data.specs.PutData.{writes_in as card_writes, object_of, is_put_data, list_place, mac_place, is_secured, elements_of, writes_of}
use Rattle.put_laws.proofs.Octets.{drop_bytes, take-bytes}
use Rattle.put_laws.proofs.Parts.{two_at}
use Rattle.auditor.specs.Template.{short_in, of_accumulator, of_counter, begins, is_mac, from_list, data_in, writes_in, Bytes}
use Rattle.auditor.proofs.Rows.{same-equal, accumulator-row, counter-row}
use Rattle.auditor.proofs.Lists.{fits, value, behind, short_as, list_same}

-- two tests, one behind the other
nested : (t u : Bool) (m : Option (List Write)) → cond t (cond u m None) None ≡ cond (t && u) m None
nested true u m = refl
nested false u m = refl

-- ---- a command that is too short for its MAC
no_data : (write : ℕ → List ℕ → Option Write) (s : List ℕ) → length s < 2 → data_in write s ≡ None
unfolding data_in begins
no_data write [] h = refl
no_data write (lc ∷ []) h = simp (and-false)
no_data write (lc ∷ b ∷ s) h = absurd (omega arith)

neither : (t u : Bool) → cond {A = Option (List Write)} t None (cond u None None) ≡ None
neither true u = refl
neither false true = refl
neither false false = refl

short : (c : List ℕ) → length c < 6 → writes_in c ≡ writes_of c
unfolding writes_in writes_of is_secured
short c h =
    let s = drop 4 c in
    let l : length s < 2 = omega (arith, length-drop 4 c) in
    simp (no_data of_accumulator s l, no_data of_counter s l, ne_eqb (length c) (mac_place c + 6) (λ e. omega arith), and-false)
    (neither (begins (0x0C ∷ 0xDA ∷ 0xBF ∷ 0x30 ∷ []) c) (begins (0x0C ∷ 0xDA ∷ 0xBF ∷ 0x35 ∷ []) c))

-- ---- the MAC
mac_as : (r : List ℕ) → is_mac r ≡ (eqb (byte r 0) 0x8E && eqb (byte r 1) 0x04 && eqb (length r) 6)
unfolding begins
mac_as [] = refl
mac_as (a ∷ []) = refl
mac_as (a ∷ b ∷ r) = simp (and-true)

value-bytes : (s : List ℕ) → Bytes s → Bytes (value s)
value-bytes s h = take-bytes (length_at s 0) (drop (length_size s 0) s) (drop_bytes (length_size s 0) s h)

-- ---- 0C DA, P1 P2, Lc and 81, and s behind them
module _ (a b p q l x : ℕ) (s : List ℕ) where
  abbrev whole : List ℕ
  whole = a ∷ b ∷ p ∷ q ∷ l ∷ x ∷ s

  place : mac_place whole ≡ 6 + (length_size s 0 + length_at s 0)
  unfolding mac_place list_place length_size length_at
  place = omega arith

  mac-byte : (i : ℕ) → byte whole (mac_place whole + i) ≡ byte (behind s) i
  mac-byte i =
      let k = length_size s 0 + length_at s 0 in
      let e : mac_place whole + i ≡ 6 + (k + i) = omega (arith, place) in
      ap (byte whole) e ∙ sym (get_or-drop 6 whole (k + i) 0) ∙ sym (get_or-drop k s i 0)

  lc_as : eqb (length whole) (5 + l) ≡ eqb l (length (x ∷ s))
  lc_as = same-equal (length whole) (5 + l) l (length (x ∷ s)) (λ e. omega arith) (λ e. omega arith)

  secured_by : (t : Bool) → leb (length_size s 0 + length_at s 0) (length s) ≡ t → is_secured whole ≡ (eqb x 0x81 && (fits s && is_mac (behind s)))
  unfolding is_secured
  secured_by true e =
      let d = length-drop (length_size s 0 + length_at s 0) s in
      let f = leb-true (length_size s 0 + length_at s 0) (length s) e in
      let m = place in
      let size = same-equal (length whole) (mac_place whole + 6) (length (behind s)) 6 (λ z. omega arith) (λ z. omega arith) in
      simp (e, size, mac_as (behind s), and-true, and_assoc, ap (byte whole) (sym (add-zero (mac_place whole))) ∙ mac-byte 0, mac-byte 1)
  secured_by false e =
      let f = leb-false (length_size s 0 + length_at s 0) (length s) e in
      let m = place in
      simp (e, ne_eqb (length whole) (mac_place whole + 6) (λ z. omega arith), and-false)

  value_as : take (length_at whole 6) (drop (list_place whole) whole) ≡ value s
  unfolding list_place length_size length_at
  value_as = ap (take (length_at s 0)) (sym (drop-drop (length_size s 0) 6 whole))

  elements_as : fits s ≡ true → elements_of whole ≡ value s
  unfolding elements_of
  elements_as e =
      let m = place in
      let f = leb-true (length_size s 0 + length_at s 0) (length s) (both (is_length (byte s 0)) (leb (length_size s 0 + length_at s 0) (length s)) e).1 in
      simp (le-leb (mac_place whole) (length whole) (omega arith)) value_as

  -- the bytes behind P1 P2, of an object whose elements are read alike
  module _ (h : Bytes s) (o : ℕ) (write : ℕ → List ℕ → Option Write) (row : (t : ℕ) (v : List ℕ) → write t v ≡ meaning_of o (0xDF00 + t) v) where
    list_as : (t : Bool) → fits s ≡ t → from_list write (short_in s) ≡ cond (fits s && is_mac (behind s)) (card_writes o (elements_of whole)) None
    list_as true e =
        let v = value-bytes s h in
        simp (short_as s, e) (ap (λ w. cond (is_mac (behind s)) w None) (list_same o write row (length (value s)) (value s) (le_refl _) v ∙ ap (card_writes o) (sym (elements_as e))))
    list_as false e = simp (short_as s, e)

    data_as : data_in write (l ∷ x ∷ s) ≡ cond (eqb (length whole) (5 + l) && is_secured whole) (card_writes o (elements_of whole)) None
    unfolding data_in begins
    data_as =
        let r = secured_by (leb (length_size s 0 + length_at s 0) (length s)) refl in
        ap (λ w. cond (eqb l (length (x ∷ s)) && (eqb x 0x81 && true)) w None) (list_as (fits s) refl)
        ∙ nested (eqb l (length (x ∷ s)) && (eqb x 0x81 && true)) (fits s && is_mac (behind s)) (card_writes o (elements_of whole))
        ∙ simp (lc_as, r, and-true, and_assoc)

  -- P1 P2
  object-by : (second : ℕ) → second < 256 → q < 256 → (t : Bool) → eqb p 0xBF ≡ t → eqb (object_of whole) (0xBF00 + second) ≡ (eqb p 0xBF && eqb q second)
  object-by second h g true e =
      let n = two_at whole 2 in
      let f = eqb-true p 0xBF e in
      simp (e) (same-equal (object_of whole) (0xBF00 + second) q second (λ z. omega arith) (λ z. omega arith))
  object-by second h g false e =
      let n = two_at whole 2 in
      simp (e) (ne_eqb (object_of whole) (0xBF00 + second) (λ z. eqb-false p 0xBF e (omega arith)))

  module _ (h : Bytes whole) where
    accumulators : eqb (object_of whole) 0xBF30 ≡ (eqb p 0xBF && eqb q 0x30)
    accumulators = object-by 0x30 (omega arith) (h 3) (eqb p 0xBF) refl

    counters : eqb (object_of whole) 0xBF35 ≡ (eqb p 0xBF && eqb q 0x35)
    counters = object-by 0x35 (omega arith) (h 3) (eqb p 0xBF) refl

    data_of : (o : ℕ) (write : ℕ → List ℕ → Option Write) → ((t : ℕ) (v : List ℕ) → write t v ≡ meaning_of o (0xDF00 + t) v) → eqb (object_of whole) o ≡ true
        → data_in write (l ∷ x ∷ s) ≡ cond (eqb (length whole) (5 + l) && is_secured whole) (card_writes (object_of whole) (elements_of whole)) None
    data_of o write row e =
        data_as (drop_bytes 6 whole h) o write row
        ∙ ap (λ n. cond (eqb (length whole) (5 + l) && is_secured whole) (card_writes n (elements_of whole)) None) (sym (eqb-true (object_of whole) o e))

    by_bytes : (t u v w z : Bool) → eqb a 0x0C ≡ t → eqb b 0xDA ≡ u → eqb p 0xBF ≡ v → eqb q 0x30 ≡ w → eqb q 0x35 ≡ z → writes_in whole ≡ writes_of whole
    unfolding writes_in writes_of is_put_data begins
    by_bytes false u v w z ea eb ep e0 e5 = simp (ea)
    by_bytes true false v w z ea eb ep e0 e5 = simp (ea, eb)
    by_bytes true true false w z ea eb ep e0 e5 = simp (ea, eb, ep, accumulators, counters)
    by_bytes true true true true z ea eb ep e0 e5 =
        let o : eqb (object_of whole) 0xBF30 ≡ true = accumulators ∙ simp (ep, e0) in
        simp (ea, eb, ep, e0, o) (data_of 0xBF30 of_accumulator accumulator-row o)
    by_bytes true true true false true ea eb ep e0 e5 =
        let n : eqb (object_of whole) 0xBF30 ≡ false = accumulators ∙ simp (ep, e0) in
        let o : eqb (object_of whole) 0xBF35 ≡ true = counters ∙ simp (ep, e5) in
        simp (ea, eb, ep, e0, e5, n, o) (data_of 0xBF35 of_counter counter-row o)
    by_bytes true true true false false ea eb ep e0 e5 = simp (ea, eb, ep, e0, e5, accumulators, counters)

-- THEOREM: what the auditor reads that a command writes, and whether it fails, is what the card's reader says
pub same_writes_lem : (c : List ℕ) → Bytes c → writes_in c ≡ writes_of c
same_writes_lem [] h = short [] (omega arith)
same_writes_lem (a ∷ []) h = short (a ∷ []) (omega arith)
same_writes_lem (a ∷ b ∷ []) h = short (a ∷ b ∷ []) (omega arith)
same_writes_lem (a ∷ b ∷ p ∷ []) h = short (a ∷ b ∷ p ∷ []) (omega arith)
same_writes_lem (a ∷ b ∷ p ∷ q ∷ []) h = short (a ∷ b ∷ p ∷ q ∷ []) (omega arith)
same_writes_lem (a ∷ b ∷ p ∷ q ∷ l ∷ []) h = short (a ∷ b ∷ p ∷ q ∷ l ∷ []) (omega arith)
same_writes_lem (a ∷ b ∷ p ∷ q ∷ l ∷ x ∷ s) h =
    by_bytes a b p q l x s h (eqb a 0x0C) (eqb b 0xDA) (eqb p 0xBF) (eqb q 0x30) (eqb q 0x35) refl refl refl refl refl
