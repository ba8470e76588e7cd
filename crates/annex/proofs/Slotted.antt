-- The test of an entry that is sound and tests a slot, by the file's bytes and by numbers, is one. Assumes nothing.
use mathlib.Core.Path.{◌≡◌, refl, sym, ap, ◌∙◌}
use mathlib.Core.Bool.{Bool, true, false, not, cond}
use mathlib.Core.Logic.{◌⊎◌, inl, inr}
use mathlib.Core.List.{List}
use Prim.Native.Nat.{ℕ, suc, ◌+◌, ◌*◌, ◌-◌, ◌/◌, ◌%◌, ◌^◌, ◌≤◌, ◌<◌, min}
use native.Mathlib.Nat.{min-eq_left, min-eq_right}
use native.Mathlib.Decide.{dec_le, ℕ_discrete}
use native.Mathlib.Omega.{arith}
use borrow.Author.Tests.{lt-ltb, le-ltb, eq-eqb, ne_eqb, ltb-true, ltb-false}
use lib.Dec.{ltb}
use lib.ListN.{length, get_or}
use Rattle.wire.specs.Wire.{byte}
use Rattle.money.specs.Money.{max, stopped}
use Rattle.digits.specs.Digits.{pairs_value}
use Rattle.fields.specs.Fields.{position, check_type}
use Rattle.ranges.proofs.Decides.{Decides, ◌and◌, ◌with◌, at_most, below}
use Rattle.slot.specs.Slot.{slot_of, adds_transaction, asks_greater, has_amount, lacks_amount, slot_value, block_value, slot_passes}
use Rattle.slot.specs.declared.Slots.{Slots}
use Rattle.annex.specs.Annex.{Digits, pair, amount, total, start, width, check, bit, OfSlot, WithAmount, Lacks}
use Rattle.annex.specs.Annex.{reaches_past_lem, amount_nowhere, amount-past, amount_no_digits}
use Rattle.annex.specs.Annex.{Compares, accumulator, accumulator-more, counter, counter-more}
use Rattle.annex.specs.Annex.{Passes, equal, less, greater, slot_less, slot_greater}
use Rattle.annex.proofs.Fields.{entry, inside, start_is, check-is, value-inside}
use Rattle.annex.proofs.Form.{given, refuted, decided, digits_are, Block, amounts, counts, SlotWhole, accumulator-named, counter-named}

-- AN AMOUNT of six pairs of digits
six_pairs : (a b c d e f : ℕ)
    → (((((0 * 100 + a) * 100 + b) * 100 + c) * 100 + d) * 100 + e) * 100 + f
    ≡ a * 10 ^ 10 + b * 10 ^ 8 + c * 10 ^ 6 + d * 10 ^ 4 + e * 10 ^ 2 + f
six_pairs a b c d e f = omega arith

amount-is : (s : List ℕ) (at : ℕ) → pairs_value s at 6 ≡ amount s at
unfolding pairs_value
amount-is s at = six_pairs (pair s at 0) (pair s at 1) (pair s at 2) (pair s at 3) (pair s at 4) (pair s at 5)

-- the smaller of two
stops_at : (m n : ℕ) (t : Bool) → ltb m n ≡ t → cond t m n ≡ min m n
stops_at m n true h = let l = ltb-true m n h in sym (min-eq_left (omega arith))
stops_at m n false h = sym (min-eq_right (ltb-false m n h))

stopped-is : (n : ℕ) → stopped n ≡ min 999_999_999_999 n
stopped-is n = stops_at max n (ltb max n) refl

counted_is : (n : ℕ) (t : Bool) → ltb n 255 ≡ t → cond t (n + 1) 255 ≡ min 255 (n + 1)
counted_is n true h = let l = ltb-true n 255 h in sym (min-eq_right (omega arith))
counted_is n false h = let l = ltb-false n 255 h in sym (min-eq_left (omega arith))

module _ (file : List ℕ) (at : ℕ) (w : SlotWhole file at) (slots : Slots) (o : OfSlot file at slots) (d : List ℕ) where
  abbrev e : List ℕ
  e = entry file at

  check_now : check_type e ≡ check file at
  check_now = check-is file at w.six w.sum

  start_now : position e ≡ start file at
  start_now = start_is file at w.six

  -- ITS BLOCK
  ends_right : total file at ≡ width file at + 6
  ends_right = let s = rw w.one at w.sum in omega arith

  six_wide : bit file at 7 ≡ 1 → width file at ≡ 6
  six_wide b = by w.block
    where
      by : Block file at → width file at ≡ 6
      by (amounts x a l k h) = k
      by (counts x a k) = absurd (omega (arith, a.0))

  amount-block : bit file at 7 ≡ 1 → pairs_value e 4 6 ≡ amount file (at + 4)
  amount-block b = value-inside file at 4 6 (omega (arith, ends_right, six_wide b)) ∙ amount-is file (at + 4)

  count-block : byte e 4 ≡ get_or file (at + 4 + 0) 0
  count-block = let p : at + 4 ≡ at + 4 + 0 = omega arith in inside file at 4 (omega (arith, w.six)) ∙ ap (λ (i : ℕ). get_or file i 0) p

  -- ITS VALUE
  adds : bit file at 2 ≡ 1 → adds_transaction (check_type e) ≡ true
  adds b = ap adds_transaction check_now ∙ eq-eqb (check file at / 2 % 2) 1 b

  adds_not : bit file at 2 ≡ 0 → adds_transaction (check_type e) ≡ false
  adds_not b = ap adds_transaction check_now ∙ ne_eqb (check file at / 2 % 2) 1 (λ z. omega arith)

  compared : (v b : ℕ) → Compares file at slots d v b → (slot_value e d slots ≡ v) × (block_value (slot_of (check_type e)) e ≡ b)
  unfolding slot_value
  compared v b (accumulator x a t) =
      let n = ap slot_of check_now ∙ accumulator-named file at x a in
      (simp (n, adds_not t), simp n (amount-block a.0))
  compared v b (accumulator-more x a t) =
      let n = ap slot_of check_now ∙ accumulator-named file at x a in
      let p = ap (λ (k : ℕ). pairs_value d (k - 1) 6) start_now ∙ amount-is d (start file at - 1) in
      (simp (n, adds t, p) (stopped-is (get_or slots.amounts (x - 1) 0 + amount d (start file at - 1))), simp n (amount-block a.0))
  compared v b (counter x a t) =
      let n = ap slot_of check_now ∙ counter-named file at x a in
      (simp (n, adds_not t), simp n count-block)
  compared v b (counter-more x a t) =
      let n = ap slot_of check_now ∙ counter-named file at x a in
      let c = get_or slots.counts (x - 1) 0 in
      (simp (n, adds t) (counted_is c (ltb c 255) refl), simp n count-block)

  -- there is one
  there : (v : ℕ) × (b : ℕ) × Compares file at slots d v b
  there = by w.block
    where
      by : Block file at → (v : ℕ) × (b : ℕ) × Compares file at slots d v b
      by (amounts x a l k h) =
          given (ℕ_discrete (bit file at 2) 1) (λ t. (_, _, accumulator-more x a t)) (λ n. (_, _, accumulator x a (omega arith)))
      by (counts x a k) = given (ℕ_discrete (bit file at 2) 1) (λ t. (_, _, counter-more x a t)) (λ n. (_, _, counter x a (omega arith)))

  -- ITS TEST
  slot_greater_is : (v b : ℕ) → bit file at 1 ≡ 1 → Compares file at slots d v b → slot_passes e d slots ≡ ltb b v
  unfolding slot_passes
  slot_greater_is v b t k =
      let (p, q) = compared v b k in
      let g : asks_greater (check_type e) ≡ true = ap asks_greater check_now ∙ eq-eqb (check file at % 2) 1 (omega arith) in
      simp (g, p, q)

  slot_less_is : (v b : ℕ) → bit file at 1 ≡ 0 → Compares file at slots d v b → slot_passes e d slots ≡ ltb v b
  unfolding slot_passes
  slot_less_is v b t k =
      let (p, q) = compared v b k in
      let g : asks_greater (check_type e) ≡ false = ap asks_greater check_now ∙ ne_eqb (check file at % 2) 1 (λ z. omega arith) in
      simp (g, p, q)

  pub slot_holds : Passes file at slots d → slot_passes e d slots ≡ true
  slot_holds (equal i c l h s) = absurd (omega (arith, o.1))
  slot_holds (less c s) = absurd (omega (arith, o.1))
  slot_holds (greater c s) = absurd (omega (arith, o.1))
  slot_holds (slot_less v b s t k h) = slot_less_is v b t k ∙ lt-ltb v b h
  slot_holds (slot_greater v b s t k h) = slot_greater_is v b t k ∙ lt-ltb b v h

  pub slot_tested : Passes file at slots d ⊎ (slot_passes e d slots ≡ false)
  slot_tested =
      let (v, b, k) = there in
      given (ℕ_discrete (bit file at 1) 1)
      (λ t. given (dec_le (suc b) v) (λ h. inl (slot_greater v b o t k h)) (λ n. inr (slot_greater_is v b t k ∙ le-ltb b v (omega arith))))
      (λ m.
      let t : bit file at 1 ≡ 0 = omega arith in
      given (dec_le (suc v) b) (λ h. inl (slot_less v b o t k h)) (λ n. inr (slot_less_is v b t k ∙ le-ltb v b (omega arith))))

  -- THE AMOUNT THAT IT ASKS
  amount_parts : Decides (has_amount d (position e)) (((0 < start file at) × (start file at + 5 ≤ length d)) × Digits d (start file at - 1))
  unfolding has_amount
  amount_parts = rw start_now (below 0 (start file at) and at_most (start file at + 5) (length d) and digits_are d (start file at - 1))

  asks : bit file at 7 ≡ 1 → bit file at 2 ≡ 1 → lacks_amount e d ≡ not (has_amount d (position e))
  unfolding lacks_amount
  asks b t =
      let n = ap slot_of check_now ∙ accumulator-named file at (bit file at 6 * 2 + bit file at 5) (b, refl) in
      simp (n, adds t)

  lacking : WithAmount file at slots → (has_amount d (position e) ≡ true → ⊥) → lacks_amount e d ≡ true
  lacking a n = asks a.1 a.2 ∙ ap not (refuted (has_amount d (position e)) n)

  pub slot_lacks : Lacks file at slots d → lacks_amount e d ≡ true
  slot_lacks (reaches_past_lem n h) = absurd (n o)
  slot_lacks (amount_nowhere a z) = lacking a (λ h. omega (arith, (amount_parts.0 h).0.0))
  slot_lacks (amount-past a l) = lacking a (λ h. omega (arith, (amount_parts.0 h).0.1))
  slot_lacks (amount_no_digits a n) = lacking a (λ h. n (amount_parts.0 h).1)

  pub slot_has : Lacks file at slots d ⊎ (lacks_amount e d ≡ false)
  unfolding lacks_amount
  slot_has = by w.block
    where
      asked : bit file at 7 ≡ 1 → bit file at 2 ≡ 1 → Lacks file at slots d ⊎ (lacks_amount e d ≡ false)
      asked b t =
          given (dec_le 1 (start file at)) (λ p.
          given (dec_le (start file at + 5) (length d)) (λ l.
          given (decided (digits_are d (start file at - 1)))
          (λ s. inr (asks b t ∙ ap not (amount_parts.1 ((p with l) with s))))
          (λ n. inl (amount_no_digits (o, b, t) n)))
          (λ n. inl (amount-past (o, b, t) (omega arith))))
          (λ n. inl (amount_nowhere (o, b, t) (omega arith)))

      by : Block file at → Lacks file at slots d ⊎ (lacks_amount e d ≡ false)
      by (amounts x a l k h) =
          let n = ap slot_of check_now ∙ accumulator-named file at x a in
          given (ℕ_discrete (bit file at 2) 1) (λ t. asked a.0 t) (λ m. inr (simp (n, adds_not (omega arith))))
      by (counts x a k) = let n = ap slot_of check_now ∙ counter-named file at x a in inr (simp n)
