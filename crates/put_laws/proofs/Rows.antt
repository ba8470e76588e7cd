-- The rows of the table: what is written of an element means it, and what means it is written so. Assumes nothing.
use Rattle.std.specs.Prelude.{Option, None, Some}
use mathlib.Core.Path.{◌≡◌, refl, ap, ap₂, ◌∙◌, subst}
use mathlib.Core.List.{List, ◌++◌}
use mathlib.Core.Bool.{Bool, true, false, ◌&&◌, cond}
use Prim.Native.Nat.{ℕ, ◌+◌, ◌-◌, ◌≤◌, ◌<◌}
use native.Mathlib.Omega.{arith}
use lib.ListN.{length}
use lib.Seq.{take_all}
use lib.Dec.{leb, eqb}
use borrow.Author.Tests.{le-leb, lt-leb}
use borrow.Author.Tests.{leb-true, eqb-true}
use Rattle.wire.specs.Wire.{byte}
use Rattle.wire.proofs.Pairs.{both}
use Rattle.money.specs.declared.AccumulatorAmount.{AccumulatorAmount}
use Rattle.digits.specs.Digits.{are_pairs}
use Rattle.iad.specs.Iad.{pairs_of}
use Rattle.iad.proofs.Runs.{run, run_take}
use Rattle.element.specs.declared.Write.{Write}
use Rattle.element.specs.declared.Write.TheVariants.{Value, AccumulatorLimits, CounterLimits}
use Rattle.element.specs.Element.{value_written, limits_written, counts_written, is_one_of, meaning_of, amount_at}
use Rattle.element.proofs.Laws.{tested}
use Rattle.put_laws.specs.Written.{tag_byte, value_bytes, Object}
use Rattle.put_laws.specs.Written.{accumulators, counters, IsOf}
use Rattle.put_laws.specs.Written.{Bytes}
use Rattle.put_laws.proofs.Digits.{are-pairs, amount, are-first, are-second, first, second, pairs_back, at_most}

-- ---- a row of the table
abbrev pub number_of : Object → ℕ
number_of accumulators = 0xBF30
number_of counters = 0xBF35

-- a tag of one of four slots, and of no other row
module _ (first slot tag : ℕ) (e : tag ≡ first + slot) (h : slot < 4) where
  of_four : is_one_of first tag ≡ true
  of_four = simp (le-leb first tag (omega arith), le-leb tag (first + 3) (omega arith))

  of_slot : tag - first ≡ slot
  of_slot = omega arith

-- a tag of DF11 on is none of the accumulators' values
not_a_value : (slot tag : ℕ) → tag ≡ 0xDF11 + slot → is_one_of 0xDF01 tag ≡ false
not_a_value slot tag e = simp (le-leb 0xDF01 tag (omega arith), lt-leb tag 0xDF04 (omega arith))

amount_of_lem : (a : AccumulatorAmount) (n : ℕ) → n ≡ a.0 → ◌≡◌ {A = AccumulatorAmount} (record { 0 = n }) a
amount_of_lem a n e = ap (λ (k : ℕ). record { 0 = k }) e

pub row : (o : Object) (w : Write) (tag : ℕ) → IsOf o w → tag ≡ 0xDF00 + tag_byte w → meaning_of (number_of o) tag (value_bytes w) ≡ Some w
unfolding meaning_of value_written limits_written counts_written
row accumulators (Value slot a) tag h e =
    let s : slot < 4 = omega (arith, h.0) in
    let f : tag ≡ 0xDF01 + slot = omega arith in
    let l : length (pairs_of a.0 6) ≡ 6 = unfold pairs_of in refl in
    simp (of_four 0xDF01 slot tag f s, of_slot 0xDF01 slot tag f s, l, are-pairs a.0)
    (ap (λ b. Some (Value slot b)) (amount_of_lem a _ (amount a.0 (omega (arith, h.1)))))
row accumulators (AccumulatorLimits slot a b) tag h e =
    let s : slot < 4 = omega (arith, h.0) in
    let f : tag ≡ 0xDF11 + slot = omega arith in
    let l : length (pairs_of a.0 6 ++ pairs_of b.0 6) ≡ 12 = unfold pairs_of in refl in
    simp (not_a_value slot tag f, of_four 0xDF11 slot tag f s, of_slot 0xDF11 slot tag f s, l, are-first a.0 b.0, are-second a.0 b.0)
    (ap₂ (λ x y. Some (AccumulatorLimits slot x y)) (amount_of_lem a _ (first a.0 b.0 (omega (arith, h.1)))) (amount_of_lem b _ (second a.0 b.0 (omega (arith, h.2)))))
row accumulators (CounterLimits slot a b) tag h e = absurd h
row counters (Value slot a) tag h e = absurd h
row counters (AccumulatorLimits slot a b) tag h e = absurd h
row counters (CounterLimits slot a b) tag h e =
    let s : slot < 4 = omega (arith, h.0) in
    let f : tag ≡ 0xDF11 + slot = omega arith in
    simp (of_four 0xDF11 slot tag f s, of_slot 0xDF11 slot tag f s)

-- ---- and back
taken : (t : Bool) (x w : Write) → cond t (Some x) None ≡ Some w → (t ≡ true) × (x ≡ w)
taken t x w e = let (p, q) = tested t (Some x) w e in (p, cc)

no_write : (w : Write) → ◌≡◌ {A = Option Write} None (Some w) → ⊥
no_write w e = let z : ◌≡◌ {A = ℕ} 0 1 = cc in omega arith

pub record Row (o : Object) (tag : ℕ) (v : List ℕ) (w : Write) : Type 0 where
  pub is_of_lem : IsOf o w
  pub tag_is : tag ≡ 0xDF00 + tag_byte w
  pub value : value_bytes w ≡ v

whole : (n : ℕ) (v : List ℕ) → length v ≡ n → run v 0 n ≡ v
whole n v l = run_take v n (omega arith) ∙ take_all n v (omega arith)

module _ (first tag : ℕ) (h : is_one_of first tag ≡ true) where
  not_before : first ≤ tag
  not_before = leb-true first tag (both (leb first tag) (leb tag (first + 3)) h).0

  not_behind : tag ≤ first + 3
  not_behind = leb-true tag (first + 3) (both (leb first tag) (leb tag (first + 3)) h).1

module _ (tag : ℕ) (v : List ℕ) (w : Write) where
  value_back : is_one_of 0xDF01 tag ≡ true → value_written (tag - 0xDF01) v ≡ Some w → Row accumulators tag v w
  unfolding value_written
  value_back h e =
      let a = not_before 0xDF01 tag h in
      let b = not_behind 0xDF01 tag h in
      let (t, x) = taken (eqb (length v) 6 && are_pairs v 0 6) (Value (tag - 0xDF01) (amount_at v 0)) w e in
      let (l, p) = both (eqb (length v) 6) (are_pairs v 0 6) t in
      subst (Row accumulators tag v) x
      (record {
        is_of_lem = (omega arith, at_most v 0 p);
        tag_is = omega arith;
        value = pairs_back v 0 p ∙ whole 6 v (eqb-true (length v) 6 l);
      })

  limits_back : is_one_of 0xDF11 tag ≡ true → limits_written (tag - 0xDF11) v ≡ Some w → Row accumulators tag v w
  unfolding limits_written
  limits_back h e =
      let a = not_before 0xDF11 tag h in
      let b = not_behind 0xDF11 tag h in
      let (t, x) = taken (eqb (length v) 12 && are_pairs v 0 6 && are_pairs v 6 6) (AccumulatorLimits (tag - 0xDF11) (amount_at v 0) (amount_at v 6)) w e in
      let (f, q) = both (eqb (length v) 12 && are_pairs v 0 6) (are_pairs v 6 6) t in
      let (l, p) = both (eqb (length v) 12) (are_pairs v 0 6) f in
      subst (Row accumulators tag v) x
      (record {
        is_of_lem = (omega arith, at_most v 0 p, at_most v 6 q);
        tag_is = omega arith;
        value = ap₂ ◌++◌ (pairs_back v 0 p) (pairs_back v 6 q) ∙ whole 12 v (eqb-true (length v) 12 l);
      })

  counts_back : Bytes v → is_one_of 0xDF11 tag ≡ true → counts_written (tag - 0xDF11) v ≡ Some w → Row counters tag v w
  unfolding counts_written
  counts_back g h e =
      let a = not_before 0xDF11 tag h in
      let b = not_behind 0xDF11 tag h in
      let (l, x) = taken (eqb (length v) 2) (CounterLimits (tag - 0xDF11) (byte v 0) (byte v 1)) w e in
      let lower = g 0 in
      let upper = g 1 in
      subst (Row counters tag v) x
      (record { is_of_lem = (omega arith, omega arith, omega arith); tag_is = omega arith; value = whole 2 v (eqb-true (length v) 2 l) })

  by_tests : (o : Object) → Bytes v → (p q : Bool) → is_one_of 0xDF01 tag ≡ p → is_one_of 0xDF11 tag ≡ q → meaning_of (number_of o) tag v ≡ Some w → Row o tag v w
  unfolding meaning_of
  by_tests accumulators g true q x y e = value_back x (simp (x) at e)
  by_tests accumulators g false true x y e = limits_back y (simp (x, y) at e)
  by_tests accumulators g false false x y e = absurd (no_write w (simp (x, y) at e))
  by_tests counters g p true x y e = counts_back g y (simp (y) at e)
  by_tests counters g p false x y e = absurd (no_write w (simp (y) at e))

  pub row_back : (o : Object) → Bytes v → meaning_of (number_of o) tag v ≡ Some w → Row o tag v w
  row_back o g e = by_tests o g (is_one_of 0xDF01 tag) (is_one_of 0xDF11 tag) refl refl e
