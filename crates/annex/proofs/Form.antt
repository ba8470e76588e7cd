-- An entry that stands at a place is ill-formed, or all that one has which tests the data, or all that one has which tests a slot.
-- Assumes nothing.
use mathlib.Core.Path.{◌≡◌, refl, sym, ap, ap₂, ◌∙◌}
use mathlib.Core.Bool.{Bool, true, false}
use mathlib.Core.Logic.{◌⊎◌, inl, inr}
use mathlib.Core.List.{List}
use Prim.Native.Nat.{ℕ, zero, suc, ◌+◌, ◌*◌, ◌-◌, ◌/◌, ◌%◌, ◌≤◌, ◌<◌}
use native.Mathlib.Nat.{div-div-eq-div-mul}
use native.Mathlib.Decide.{dec_le, ℕ_discrete}
use native.Mathlib.Omega.{arith}
use borrow.Author.Tests.{eq-eqb, ne_eqb}
use lib.ListN.{length}
use Rattle.wire.specs.Wire.{byte, is_pair}
use Rattle.digits.specs.Digits.{are_pairs}
use Rattle.fields.specs.Fields.{entry_length, position, block_length, blocks, check_type}
use Rattle.ranges.proofs.Decides.{Decides, ◌and◌, ◌with◌, at_most, below, equal as equals, itself, stated, denied, each}
use Rattle.slot.specs.Slot.{tests_slot, slot_of, block_fits, is_slot_sound}
use Rattle.slot.specs.declared.Slots.{Slots}
use Rattle.block.specs.declared.Slot.TheVariants.{Accumulator, Counter}
use Rattle.entry.specs.Entry.{is_well_formed}
use Rattle.annex.specs.Annex.{Bytes, Digits, total, start, width, count, check, bit, OfAccumulator, OfCounter, OfSlot, IllFormed}
use Rattle.annex.specs.Annex.{cut_short_lem, below_six, unfit, below_two, no_width, no_start, unknown-check}
use Rattle.annex.specs.Annex.{not_one, no_accumulator, not_six, no_digits, not_byte}
use Rattle.annex.proofs.Fields.{entry, measured, size_is, start_is, width_is, count-is, check-is, pairs-inside}

pub given : {P R : Type 0} → Dec P → (P → R) → ((P → ⊥) → R) → R
given (yes p) f g = f p
given (no n) f g = g n

pub refuted : (b : Bool) → (b ≡ true → ⊥) → b ≡ false
refuted true f = absurd (f refl)
refuted false f = refl

pub not_both : (b : Bool) → b ≡ true → b ≡ false → ⊥
not_both b e f = let z : ◌≡◌ {A = ℕ} 0 1 = cc in omega arith

-- DIGITS
pub digits_are : (s : List ℕ) (at : ℕ) → Decides (are_pairs s at 6) (Digits s at)
unfolding are_pairs
digits_are s at = each 6 {test = λ i. is_pair (byte s (at + i))} (λ i. at_most (byte s (at + i) / 16) 9 and at_most (byte s (at + i) % 16) 9)

pub decided : {test : Bool} {P : Type 0} → Decides test P → Dec P
decided {test = true} d = yes (d.0 refl)
decided {test = false} d = no (λ p. not_both false (d.1 p) refl)

-- AN ENTRY THAT TESTS THE DATA: the tests of `is_well_formed`, as facts
parts : (e : List ℕ) → Decides (is_well_formed e)
    (((((((length e ≡ entry_length e + 1) × (6 ≤ entry_length e)) × (2 ≤ blocks e)) × (entry_length e ≡ blocks e * block_length e + 6))
    × (check_type e ≤ 2)) × (0 < block_length e)) × (0 < position e))
unfolding is_well_formed
parts e =
    equals (length e) (entry_length e + 1) and at_most 6 (entry_length e) and at_most 2 (blocks e) and equals (entry_length e) (blocks e * block_length e + 6)
    and at_most (check_type e) 2
    and below 0 (block_length e)
    and below 0 (position e)

-- all that it has where there is no cause to call it ill-formed
pub record Whole (file : List ℕ) (at : ℕ) : Type 0 where
  pub fits : at + total file at < length file
  pub six : 6 ≤ total file at
  pub two : 2 ≤ count file at
  pub wide : 0 < width file at
  pub some : 0 < start file at
  pub sum : total file at ≡ count file at * width file at + 6
  pub known : check file at ≤ 2

-- AN ENTRY THAT TESTS A SLOT: its block, and all that it has
pub data Block (file : List ℕ) (at : ℕ) : Type 0 where
  amounts : (x : ℕ) → OfAccumulator file at x → 1 ≤ x → width file at ≡ 6 → Digits file (at + 4) → Block file at
  counts : (x : ℕ) → OfCounter file at x → width file at ≡ 1 → Block file at

pub record SlotWhole (file : List ℕ) (at : ℕ) : Type 0 where
  pub fits : at + total file at < length file
  pub six : 6 ≤ total file at
  pub sum : total file at ≡ count file at * width file at + 6
  pub one : count file at ≡ 1
  pub block : Block file at

slot_parts : (e : List ℕ) → Decides (is_slot_sound e)
    ((((length e ≡ entry_length e + 1) × (blocks e ≡ 1)) × (entry_length e ≡ block_length e + 6)) × (block_fits (slot_of (check_type e)) e ≡ true))
unfolding is_slot_sound
slot_parts e =
    equals (length e) (entry_length e + 1) and equals (blocks e) 1 and equals (entry_length e) (block_length e + 6)
    and itself (block_fits (slot_of (check_type e)) e)

-- b6 and b5 are a number to 3
two-bits : (q : ℕ) → q % 4 ≡ q / 2 % 2 * 2 + q % 2
two-bits q = omega (arith, div-div-eq-div-mul q 2 2)

number_is : (c : ℕ) → c / 16 % 4 ≡ c / 32 % 2 * 2 + c / 16 % 2
number_is c = rw (← div-div-eq-div-mul c 16 2) (two-bits (c / 16))

module _ (file : List ℕ) (at : ℕ) where
  -- the slot that the check names
  pub accumulator-named : (x : ℕ) → OfAccumulator file at x → slot_of (check file at) ≡ Accumulator x
  unfolding slot_of
  accumulator-named x a = simp (eq-eqb (check file at / 64 % 2) 1 a.0) (ap Accumulator (number_is (check file at) ∙ a.1))

  pub counter-named : (x : ℕ) → OfCounter file at x → slot_of (check file at) ≡ Counter x
  unfolding slot_of
  counter-named x (b, l, h, m) =
      let e : check file at / 16 % 4 ≡ x % 4 = number_is (check file at) ∙ m in
      simp (ne_eqb (check file at / 64 % 2) 1 (λ z. omega arith)) (ap Counter (given (ℕ_discrete (check file at / 16 % 4) 0)
      (λ z. simp (eq-eqb (check file at / 16 % 4) 0 z) (omega (arith, e))) (λ n. simp (ne_eqb (check file at / 16 % 4) 0 n) (omega (arith, e)))))

  counter-is : bit file at 7 ≡ 0 → (x : ℕ) × OfCounter file at x
  counter-is b =
      given (ℕ_discrete (bit file at 6 * 2 + bit file at 5) 0)
      (λ z. (4, (b, omega arith, omega arith, z))) (λ n. (bit file at 6 * 2 + bit file at 5, (b, omega arith, omega arith, omega arith)))

  module _ (six : 6 ≤ total file at) (sum : total file at ≡ count file at * width file at + 6) where
    abbrev e : List ℕ
    e = entry file at

    accumulator-fits : (x : ℕ) → OfAccumulator file at x
        → Decides (block_fits (slot_of (check_type e)) e) (((x ≡ 0 → ⊥) × (block_length e ≡ 6)) × (are_pairs e 4 6 ≡ true))
    accumulator-fits x a =
        rw (ap slot_of (check-is file at six sum) ∙ accumulator-named x a)
        (denied (equals x 0) and equals (block_length e) 6 and itself (are_pairs e 4 6))

    counter-fits : (x : ℕ) → OfCounter file at x → Decides (block_fits (slot_of (check_type e)) e) (block_length e ≡ 1)
    counter-fits x a = rw (ap slot_of (check-is file at six sum) ∙ counter-named x a) (equals (block_length e) 1)

    -- a block is one for its slot
    module _ (one : count file at ≡ 1) where
      in_block : width file at ≡ 6 → are_pairs e 4 6 ≡ are_pairs file (at + 4) 6
      in_block w = let s = rw (one, w) at sum in pairs-inside file at 4 6 (omega arith)

      fits_if : Block file at → block_fits (slot_of (check_type e)) e ≡ true
      fits_if (amounts x a l w d) =
          (accumulator-fits x a).1
          (((λ z. omega arith) with (width_is file at six ∙ w)) with (in_block w ∙ (digits_are file (at + 4)).1 d))
      fits_if (counts x a w) = (counter-fits x a).1 (width_is file at six ∙ w)

      block_if : block_fits (slot_of (check_type e)) e ≡ true → Block file at
      block_if h =
          given (ℕ_discrete (bit file at 7) 1)
          (λ b.
          let a : OfAccumulator file at (bit file at 6 * 2 + bit file at 5) = (b, refl) in
          let ((some, long), digits) = (accumulator-fits (bit file at 6 * 2 + bit file at 5) a).0 h in
          let w = sym (width_is file at six) ∙ long in
          amounts (bit file at 6 * 2 + bit file at 5) a (omega (arith, some)) w ((digits_are file (at + 4)).0 (sym (in_block w) ∙ digits)))
          (λ n.
          let (x, a) = counter-is (omega arith) in
          counts x a (sym (width_is file at six) ∙ (counter-fits x a).0 h))

    -- b8 of the check
    module _ (fs : Bytes file) (slots : Slots) where
      pub tests_are : Decides (tests_slot e slots) (OfSlot file at slots)
      unfolding tests_slot
      tests_are =
          let c = check-is file at six sum in
          let b : check file at < 256 = fs (at + (4 + count file at * width file at)) in
          itself slots.testable and stated (at_most 128 (check_type e)) (λ h. omega arith) (λ h. omega arith)

module _ (file : List ℕ) (at : ℕ) where
  pub whole_if : is_well_formed (entry file at) ≡ true → Whole file at
  whole_if h =
      let ((((((l, s), t), u), c), w), p) = (parts (entry file at)).0 h in
      let z = size_is file at in
      let six : 6 ≤ total file at = omega arith in
      let n = count-is file at six in
      let b = width_is file at six in
      let sum : total file at ≡ count file at * width file at + 6 = sym z ∙ u ∙ ap₂ (λ (x y : ℕ). x * y + 6) n b in
      record {
        fits = omega (arith, measured file at);
        six = six;
        two = omega arith;
        wide = omega arith;
        some = omega (arith, start_is file at six);
        sum = sum;
        known = omega (arith, check-is file at six sum);
      }

  pub well_if : Whole file at → is_well_formed (entry file at) ≡ true
  well_if w =
      let z = size_is file at in
      let n = count-is file at w.six in
      let b = width_is file at w.six in
      (parts (entry file at)).1
      (omega (arith, measured file at) with omega arith with omega arith with (z ∙ w.sum ∙ ap₂ (λ (x y : ℕ). x * y + 6) (sym n) (sym b))
      with omega (arith, check-is file at w.six w.sum) with omega arith with omega (arith, start_is file at w.six))

  pub slot_whole_if : is_slot_sound (entry file at) ≡ true → SlotWhole file at
  slot_whole_if h =
      let (((l, o), u), f) = (slot_parts (entry file at)).0 h in
      let z = size_is file at in
      let six : 6 ≤ total file at = omega arith in
      let one : count file at ≡ 1 = sym (count-is file at six) ∙ o in
      let b = width_is file at six in
      let sum : total file at ≡ count file at * width file at + 6 = rw one (omega arith) in
      record { fits = omega (arith, measured file at); six = six; sum = sum; one = one; block = block_if file at six sum one f }

  pub slot_sound_if : SlotWhole file at → is_slot_sound (entry file at) ≡ true
  slot_sound_if w =
      let z = size_is file at in
      let n = count-is file at w.six in
      let b = width_is file at w.six in
      let s = rw w.one at w.sum in
      (slot_parts (entry file at)).1
      (omega (arith, measured file at) with (n ∙ w.one) with omega arith with fits_if file at w.six w.sum w.one w.block)

-- WHAT AN ENTRY IS
pub data Sound (file : List ℕ) (at : ℕ) (slots : Slots) : Type 0 where
  of_data : (OfSlot file at slots → ⊥) → Whole file at → Sound file at slots
  of_slot : OfSlot file at slots → SlotWhole file at → Sound file at slots

module _ (file : List ℕ) (at : ℕ) (slots : Slots) where
  abbrev pub Form : Type 0
  Form = IllFormed file at slots ⊎ Sound file at slots

  module _ (fits : at + total file at < length file) (six : 6 ≤ total file at) (sum : total file at ≡ count file at * width file at + 6) where
    data_form : (OfSlot file at slots → ⊥) → Form
    data_form o =
        given (dec_le 2 (count file at)) (λ two.
        given (dec_le 1 (width file at)) (λ wide.
        given (dec_le 1 (start file at)) (λ some.
        given (dec_le (check file at) 2)
        (λ known. inr (of_data o (record { fits = fits; six = six; two = two; wide = wide; some = some; sum = sum; known = known })))
        (λ n. inl (unknown-check o (omega arith))))
        (λ n. inl (no_start o (omega arith))))
        (λ n. inl (no_width o (omega arith))))
        (λ n. inl (below_two o (omega arith)))

    module _ (o : OfSlot file at slots) (one : count file at ≡ 1) where
      sound : Block file at → Form
      sound b = inr (of_slot o (record { fits = fits; six = six; sum = sum; one = one; block = b }))

      amount-form : (x : ℕ) → OfAccumulator file at x → Form
      amount-form zero a = inl (no_accumulator o a)
      amount-form (suc x) a =
          given (ℕ_discrete (width file at) 6)
          (λ w. given (decided (digits_are file (at + 4)))
          (λ d. sound (amounts (suc x) a (omega arith) w d)) (λ n. inl (no_digits (suc x) o a n)))
          (λ n. inl (not_six (suc x) o a n))

      count-form : (x : ℕ) × OfCounter file at x → Form
      count-form (x, a) = given (ℕ_discrete (width file at) 1) (λ w. sound (counts x a w)) (λ n. inl (not_byte x o a n))

      slot_form : Form
      slot_form =
          given (ℕ_discrete (bit file at 7) 1) (λ b. amount-form (bit file at 6 * 2 + bit file at 5) (b, refl))
          (λ n. count-form (counter-is file at (omega arith)))

  is_slot_lem : Dec (OfSlot file at slots)
  is_slot_lem = decided (itself slots.testable and equals (bit file at 8) 1)

  pub form : Form
  form =
      given (dec_le (at + 1 + total file at) (length file)) (λ fits.
      given (dec_le 6 (total file at)) (λ six.
      given (ℕ_discrete (total file at) (count file at * width file at + 6)) (λ sum.
      given is_slot_lem (λ o. given (ℕ_discrete (count file at) 1) (λ one. slot_form (omega arith) six sum o one) (λ n. inl (not_one o n)))
      (λ o. data_form (omega arith) six sum o))
      (λ n. inl (unfit n)))
      (λ n. inl (below_six (omega arith))))
      (λ n. inl (cut_short_lem (omega arith)))

  pub broken : IllFormed file at slots → Sound file at slots → ⊥
  broken (cut_short_lem h) (of_data o w) = omega arith
  broken (cut_short_lem h) (of_slot o w) = omega arith
  broken (below_six h) (of_data o w) = omega arith
  broken (below_six h) (of_slot o w) = omega arith
  broken (unfit n) (of_data o w) = n w.sum
  broken (unfit n) (of_slot o w) = n w.sum
  broken (below_two n h) (of_data o w) = omega arith
  broken (below_two n h) (of_slot o w) = n o
  broken (no_width n h) (of_data o w) = omega arith
  broken (no_width n h) (of_slot o w) = n o
  broken (no_start n h) (of_data o w) = omega arith
  broken (no_start n h) (of_slot o w) = n o
  broken (unknown-check n h) (of_data o w) = omega arith
  broken (unknown-check n h) (of_slot o w) = n o
  broken (not_one s n) (of_data o w) = o s
  broken (not_one s n) (of_slot o w) = n w.one
  broken (no_accumulator s a) (of_data o w) = o s
  broken (no_accumulator s a) (of_slot o w) = by w.block
    where
      by : Block file at → ⊥
      by (amounts x b l k d) = omega (arith, a.1, b.1)
      by (counts x b k) = omega (arith, a.0, b.0)
  broken (not_six x s a n) (of_data o w) = o s
  broken (not_six x s a n) (of_slot o w) = by w.block
    where
      by : Block file at → ⊥
      by (amounts y b l k d) = n k
      by (counts y b k) = omega (arith, a.0, b.0)
  broken (no_digits x s a n) (of_data o w) = o s
  broken (no_digits x s a n) (of_slot o w) = by w.block
    where
      by : Block file at → ⊥
      by (amounts y b l k d) = n d
      by (counts y b k) = omega (arith, a.0, b.0)
  broken (not_byte x s a n) (of_data o w) = o s
  broken (not_byte x s a n) (of_slot o w) = by w.block
    where
      by : Block file at → ⊥
      by (amounts y b l k d) = omega (arith, a.0, b.0)
      by (counts y b k) = n k
