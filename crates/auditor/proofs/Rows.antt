-- What an element writes, as the auditor reads it, is what it means by the card's table. Assumes nothing.
use Rattle.std.specs.Prelude.{None, Some}
use mathlib.Core.Path.{◌≡◌, refl, sym, ap, ap₂, ◌∙◌}
use mathlib.Core.List.{List}
use mathlib.Core.Bool.{Bool, true, false, ◌&&◌, cond, and_assoc, and-true}
use Prim.Native.Nat.{ℕ, ◌+◌, ◌-◌, ◌≤◌}
use native.Mathlib.Omega.{arith}
use lib.ListN.{length, take, drop, length-take, length-drop}
use lib.Seq.{take_all}
use lib.Dec.{ltb, leb, eqb}
use borrow.Author.Tests.{leb-true, ltb-true, le-leb, lt-leb, lt-ltb, eqb-true, eqb-false, eq-eqb, ne_eqb}
use Rattle.wire.proofs.Pairs.{both}
use Rattle.digits.specs.Digits.{are_pairs, pairs_value}
use Rattle.iad.proofs.Runs.{run, run_take}
use Rattle.element.specs.declared.Write.TheVariants.{Value, AccumulatorLimits}
use Rattle.element.specs.Element.{amount_at, value_written, limits_written, counts_written, is_one_of, meaning_of}
use Rattle.auditor.specs.Template.{digits_in, are_digits, decimal, is_amount, amount_in, is_slot, of_accumulator, of_counter}

-- two tests that each pass where the other does
same_test : (p q : Bool) → (p ≡ true → q ≡ true) → (q ≡ true → p ≡ true) → p ≡ q
same_test true q f g = sym (f refl)
same_test false true f g = g refl
same_test false false f g = refl

pub same-order : (a b c d : ℕ) → (a ≤ b → c ≤ d) → (c ≤ d → a ≤ b) → leb a b ≡ leb c d
same-order a b c d f g = same_test (leb a b) (leb c d) (λ e. le-leb c d (f (leb-true a b e))) (λ e. le-leb a b (g (leb-true c d e)))

pub same-equal : (a b c d : ℕ) → (a ≡ b → c ≡ d) → (c ≡ d → a ≡ b) → eqb a b ≡ eqb c d
same-equal a b c d f g = same_test (eqb a b) (eqb c d) (λ e. eq-eqb c d (f (eqb-true a b e))) (λ e. eq-eqb a b (g (eqb-true c d e)))

-- ---- six bytes of digits
module _ (v : List ℕ) (at : ℕ) where
  are-digits : is_amount (run v at 6) ≡ are_pairs v at 6
  unfolding is_amount are_digits digits_in are_pairs
  are-digits = simp (and_assoc, and-true)

  digits-say : amount_in (run v at 6) ≡ amount_at v at
  unfolding amount_in decimal digits_in pairs_value
  digits-say = ap (λ n. record { 0 = n }) (omega arith)

whole : (n : ℕ) (v : List ℕ) → length v ≡ n → run v 0 n ≡ v
whole n v l = run_take v n (omega arith) ∙ take_all n v (omega arith)

not_six : (v : List ℕ) → (length v ≡ 6 → ⊥) → is_amount v ≡ false
unfolding is_amount
not_six v h = simp (ne_eqb (length v) 6 h)

is_six : (v : List ℕ) → is_amount v ≡ true → length v ≡ 6
unfolding is_amount
is_six v e = eqb-true (length v) 6 (both (eqb (length v) 6) (are_digits (digits_in v)) e).0

-- ---- a row of the table, by the length of the value
module _ (slot : ℕ) (v : List ℕ) where
  value_row : (t : Bool) → eqb (length v) 6 ≡ t → cond (is_amount v) (Some (Value slot (amount_in v))) None ≡ value_written slot v
  unfolding value_written
  value_row true e =
      let w = sym (whole 6 v (eqb-true (length v) 6 e)) in
      simp (e, ap is_amount w ∙ are-digits v 0, ap amount_in w ∙ digits-say v 0)
  value_row false e = simp (e, not_six v (eqb-false (length v) 6 e))

  not_twelve : (length v ≡ 12 → ⊥) → (t : Bool) → is_amount (take 6 v) ≡ t → (is_amount (take 6 v) && is_amount (drop 6 v)) ≡ false
  not_twelve h true e =
      let n = is_six (take 6 v) e in
      simp (e, not_six (drop 6 v) (λ d. h (omega (arith, length-take 6 v, length-drop 6 v))))
  not_twelve h false e = simp (e)

  limits-row : (t : Bool) → eqb (length v) 12 ≡ t
      → cond (is_amount (take 6 v) && is_amount (drop 6 v)) (Some (AccumulatorLimits slot (amount_in (take 6 v)) (amount_in (drop 6 v)))) None ≡ limits_written slot v
  unfolding limits_written
  limits-row true e =
      let w = sym (whole 12 v (eqb-true (length v) 12 e)) in
      let lower : take 6 v ≡ run v 0 6 = ap (take 6) w in
      let upper : drop 6 v ≡ run v 6 6 = ap (drop 6) w in
      simp (e, lower, upper, are-digits v 0, are-digits v 6, digits-say v 0, digits-say v 6)
  limits-row false e = simp (e, not_twelve (eqb-false (length v) 12 e) (is_amount (take 6 v)) refl)

-- ---- a tag, by its second byte
slot_test : (f first t : ℕ) → f ≡ 0xDF00 + first → is_one_of f (0xDF00 + t) ≡ is_slot first t
slot_test f first t e =
    let n = 0xDF00 + t in
    ap₂ ◌&&◌ (same-order f n first t (λ h. omega arith) (λ h. omega arith))
    (same_test (leb n (f + 3)) (ltb t (first + 4)) (λ h. lt-ltb t (first + 4) (omega (arith, leb-true n (f + 3) h)))
    (λ h. le-leb n (f + 3) (omega (arith, ltb-true t (first + 4) h))))

module _ (t : ℕ) (v : List ℕ) where
  values : is_one_of 0xDF01 (0xDF00 + t) ≡ is_slot 0x01 t
  values = slot_test 0xDF01 0x01 t refl

  limits : is_one_of 0xDF11 (0xDF00 + t) ≡ is_slot 0x11 t
  limits = slot_test 0xDF11 0x11 t refl

  first_slot : 0xDF00 + t - 0xDF01 ≡ t - 0x01
  first_slot = omega arith

  second_slot : 0xDF00 + t - 0xDF11 ≡ t - 0x11
  second_slot = omega arith

  not_both : is_slot 0x01 t ≡ true → is_slot 0x11 t ≡ false
  not_both e =
      let h = ltb-true t 0x05 (both (leb 0x01 t) (ltb t 0x05) e).1 in
      simp (lt-leb 0x11 t (omega arith))

  by_slot : (p q : Bool) → is_slot 0x01 t ≡ p → is_slot 0x11 t ≡ q → of_accumulator t v ≡ meaning_of 0xBF30 (0xDF00 + t) v
  unfolding of_accumulator meaning_of
  by_slot true q x y = simp (values, first_slot, x, not_both x) (value_row (t - 0x01) v (eqb (length v) 6) refl)
  by_slot false true x y = simp (values, limits, second_slot, x, y) (limits-row (t - 0x11) v (eqb (length v) 12) refl)
  by_slot false false x y = simp (values, limits, x, y)

  pub accumulator-row : of_accumulator t v ≡ meaning_of 0xBF30 (0xDF00 + t) v
  accumulator-row = by_slot (is_slot 0x01 t) (is_slot 0x11 t) refl refl

  counter-by : (p : Bool) → is_slot 0x11 t ≡ p → of_counter t v ≡ meaning_of 0xBF35 (0xDF00 + t) v
  unfolding of_counter meaning_of counts_written
  counter-by true x = simp (limits, second_slot, x)
  counter-by false x = simp (limits, x)

  pub counter-row : of_counter t v ≡ meaning_of 0xBF35 (0xDF00 + t) v
  counter-row = counter-by (is_slot 0x11 t) refl
