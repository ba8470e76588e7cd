-- The ring has the newest of the records that were added, as many as there are slots. Assumes nothing.
use mathlib.Core.Path.{◌≡◌, refl, sym, ap, subst, ◌∙◌}
use mathlib.Core.Bool.{Bool, true, false}
use mathlib.Core.List.{List, [], ◌∷◌}
use mathlib.Core.Logic.{◌⊎◌, inl, inr}
use Prim.Native.Nat.{ℕ, zero, suc, ◌+◌, ◌-◌, ◌≤◌, ◌<◌, min}
use native.Mathlib.Omega.{arith}
use borrow.Author.Tests.{lt-ltb, le-ltb, ltb-true, ltb-false, eqb-true, eqb-false, ne_eqb}
use lib.Dec.{ltb, eqb}
use lib.ListN.{length, get_or, set, length-set}
use lib.Seq.{get_or-set_same, get_or-set_other}
use Rattle.ring.specs.declared.Record.{Record}
use Rattle.ring.specs.Ring.{most, slots_of, cell_count, no_records, first_place, first_opened, slot_named, count_kept, cells_of, record_in, record_put}
use Rattle.ring.specs.Ring.{added_in, added, count_in, slot_back, found, added_all}
use Rattle.ring.proofs.Cells.{put-size, other_cell, same_record, alike}
use Rattle.std.specs.Prelude.{None, Some}

-- ---- numbers

kept_min : (count slots : ℕ) → count_kept count slots ≡ min count slots
kept_min count slots = by (ltb count slots) refl where
  by : (b : Bool) → ltb count slots ≡ b → count_kept count slots ≡ min count slots
  by true e = let h = ltb-true count slots e in rw e (omega arith)
  by false e = let h = ltb-false count slots e in rw e (omega arith)

slots_most : (size : ℕ) → slots_of size ≤ most
slots_most size = let is = kept_min size most in omega arith

named-below : (next slots : ℕ) → 1 ≤ slots → slot_named next slots < slots
named-below next slots h = by (ltb next slots) refl where
  by : (b : Bool) → ltb next slots ≡ b → slot_named next slots < slots
  by true e = rw e (ltb-true next slots e)
  by false e = rw e h

back_before : (next slots back : ℕ) → back < next → slot_back next slots back ≡ next - 1 - back
back_before next slots back h = rw (lt-ltb back next h)

back_around : (next slots back : ℕ) → next ≤ back → slot_back next slots back ≡ next + slots - 1 - back
back_around next slots back h = rw (le-ltb back next h)

-- before the slot that comes behind another's comes that other
module _ (slot slots : ℕ) (h : slot < slots) where
  pub newest-is : slot_back (slot_named (slot + 1) slots) slots 0 ≡ slot
  newest-is = by (ltb (slot + 1) slots) refl where
    by : (b : Bool) → ltb (slot + 1) slots ≡ b → slot_back (slot_named (slot + 1) slots) slots 0 ≡ slot
    by true e = rw e (back_before (slot + 1) slots 0 (omega arith) ∙ omega arith)
    by false e = let last = ltb-false (slot + 1) slots e in rw e (back_around 0 slots 0 (omega arith) ∙ omega arith)

  pub others-are : (back : ℕ) → suc back < slots → slot_back (slot_named (slot + 1) slots) slots (suc back) ≡ slot_back slot slots back
  others-are back k = by (ltb (slot + 1) slots) refl (ltb back slot) refl where
    by : (b : Bool) → ltb (slot + 1) slots ≡ b → (d : Bool) → ltb back slot ≡ d
        → slot_back (slot_named (slot + 1) slots) slots (suc back) ≡ slot_back slot slots back
    by true e true q =
        let before = ltb-true back slot q in
        rw e (back_before (slot + 1) slots (suc back) (omega arith) ∙ omega (arith, back_before slot slots back before))
    by true e false q =
        let around = ltb-false back slot q in
        rw e (back_around (slot + 1) slots (suc back) (omega arith) ∙ omega (arith, back_around slot slots back around))
    by false e true q =
        let last = ltb-false (slot + 1) slots e in
        let before = ltb-true back slot q in
        rw e (back_around 0 slots (suc back) (omega arith) ∙ omega (arith, back_before slot slots back before))
    by false e false q =
        let last = ltb-false (slot + 1) slots e in
        let around = ltb-false back slot q in
        absurd (omega arith)

  pub others_apart : (back : ℕ) → suc back < slots → slot_back slot slots back ≡ slot → ⊥
  others_apart back k = by (ltb back slot) refl where
    by : (d : Bool) → ltb back slot ≡ d → slot_back slot slots back ≡ slot → ⊥
    by true q e = let before = ltb-true back slot q in omega (arith, back_before slot slots back before)
    by false q e = let around = ltb-false back slot q in omega (arith, back_around slot slots back around)

  pub others_below : (back : ℕ) → back < slots → slot_back slot slots back < slots
  others_below back k = by (ltb back slot) refl where
    by : (d : Bool) → ltb back slot ≡ d → slot_back slot slots back < slots
    by true q = let before = ltb-true back slot q in omega (arith, back_before slot slots back before)
    by false q = let around = ltb-false back slot q in omega (arith, back_around slot slots back around)

-- ---- the ring

abbrev pub blank : Record
blank = record { first = 0; second = 0; cvr = 0; atc = 0; cid = 0 }

-- of these records, the newest first, it has the newest: the slot so many before the newest has the one so many behind the first
pub record Holds (slots : ℕ) (records : List Record) (ring : List ℕ) : Type 0 where
  pub cells : length ring ≡ cell_count
  pub count : count_kept (get_or ring 2 0) slots ≡ min slots (length records)
  pub kept : (back : ℕ) → back < slots → back < length records
      → record_in ring (slot_back (slot_named (get_or ring 1 0) slots) slots back) ≡ get_or records back blank

pub none_held : (slots : ℕ) → Holds slots [] no_records
none_held slots = record { cells = refl; count = kept_min 0 slots ∙ omega arith; kept = λ back h l. absurd (omega arith) }

-- the place of a First is no part of a record
pub opened_held : (slots : ℕ) (records : List Record) (ring : List ℕ) (at : ℕ) → Holds slots records ring → Holds slots records (first_opened ring at)
opened_held slots records ring at held =
    let next-is = get_or-set_other ring 0 1 at 0 (λ e. omega arith) in
    let count-is = get_or-set_other ring 0 2 at 0 (λ e. omega arith) in
    record {
      cells = length-set ring 0 at ∙ held.cells;
      count = rw count-is held.count;
      kept = λ back h l.
          rw next-is (alike (first_opened ring at) ring _ (λ j low high. get_or-set_other ring 0 j at 0 (λ e. omega arith)) ∙ held.kept back h l);
    }

module _ (slots : ℕ) (records : List Record) (ring : List ℕ) (new : Record) (some : 1 ≤ slots) (few : slots ≤ most) (held : Holds slots records ring) where
  abbrev slot : ℕ
  slot = slot_named (get_or ring 1 0) slots

  abbrev others : ℕ
  others = count_kept (get_or ring 2 0) (slots - 1)

  abbrev put : List ℕ
  put = record_put ring slot new

  abbrev moved : List ℕ
  moved = set put 1 (slot + 1)

  here : slot < slots
  here = named-below (get_or ring 1 0) slots some

  size-put : length put ≡ cell_count
  size-put = put-size ring slot new ∙ held.cells

  size-moved : length moved ≡ cell_count
  size-moved = length-set put 1 (slot + 1) ∙ size-put

  next-is : get_or (added_in slots new ring) 1 0 ≡ slot + 1
  unfolding added_in
  next-is = get_or-set_other moved 2 1 (others + 1) 0 (λ e. omega arith) ∙ get_or-set_same put 1 (slot + 1) 0 (omega (arith, size-put))

  count-is : get_or (added_in slots new ring) 2 0 ≡ others + 1
  unfolding added_in
  count-is = get_or-set_same moved 2 (others + 1) 0 (omega (arith, size-moved))

  size_now : length (added_in slots new ring) ≡ cell_count
  unfolding added_in
  size_now = length-set moved 2 (others + 1) ∙ size-moved

  -- the cells of slots are those of the record put
  cell_is : (j : ℕ) → 3 ≤ j → get_or (added_in slots new ring) j 0 ≡ get_or put j 0
  unfolding added_in
  cell_is j h = get_or-set_other moved 2 j (others + 1) 0 (λ e. omega arith) ∙ get_or-set_other put 1 j (slot + 1) 0 (λ e. omega arith)

  put_in : (at : ℕ) → record_in (added_in slots new ring) at ≡ record_in put at
  put_in at = alike (added_in slots new ring) put at (λ j low high. cell_is j (omega arith))

  newest : record_in put slot ≡ new
  newest = same_record ring slot new (omega (arith, held.cells, here))

  other : (at : ℕ) → (at ≡ slot → ⊥) → record_in put at ≡ record_in ring at
  other at apart = alike put ring at (λ j low high. other_cell ring slot new j (side j low high (ltb at slot) refl)) where
    side : (j : ℕ) → cells_of at ≤ j → j < cells_of at + 5 → (b : Bool) → ltb at slot ≡ b → (j < cells_of slot) ⊎ (cells_of slot + 5 ≤ j)
    side j low high true e = let before = ltb-true at slot e in inl (omega arith)
    side j low high false e = let not_before = ltb-false at slot e in inr (omega (arith, strict not_before)) where
      strict : slot ≤ at → slot < at
      strict h = by (eqb at slot) refl where
        by : (b : Bool) → eqb at slot ≡ b → slot < at
        by true q = absurd (apart (eqb-true at slot q))
        by false q = let differ = eqb-false at slot q in omega arith

  kept_now : (back : ℕ) → back < slots → back < suc (length records)
      → record_in put (slot_back (slot_named (slot + 1) slots) slots back) ≡ get_or (new ∷ records) back blank
  kept_now zero h l = ap (record_in put) (newest-is slot slots here) ∙ newest
  kept_now (suc back) h l =
      ap (record_in put) (others-are slot slots here back h)
      ∙ other (slot_back slot slots back) (others_apart slot slots here back h)
      ∙ held.kept back (omega arith) (omega arith)

  pub added_held : Holds slots (new ∷ records) (added_in slots new ring)
  added_held =
      let before = held.count in
      let was = kept_min (get_or ring 2 0) slots in
      let less = kept_min (get_or ring 2 0) (slots - 1) in
      record {
        cells = size_now;
        count = ap (λ n. count_kept n slots) count-is ∙ kept_min (others + 1) slots ∙ omega arith;
        kept = λ back h l. ap (λ n. record_in (added_in slots new ring) (slot_back (slot_named n slots) slots back)) next-is ∙ put_in _ ∙ kept_now back h l;
      }

-- a ring without a slot has none
full_held : (records : List Record) (ring : List ℕ) (new : Record) → Holds 0 records ring → Holds 0 (new ∷ records) ring
full_held records ring new held =
    record { cells = held.cells; count = kept_min (get_or ring 2 0) 0 ∙ omega arith; kept = λ back h l. absurd (omega arith) }

pub added-kept : (size : ℕ) (records : List Record) (ring : List ℕ) (new : Record) → Holds (slots_of size) records ring
    → Holds (slots_of size) (new ∷ records) (added size new ring)
unfolding added
added-kept size records ring new held = by (eqb (slots_of size) 0) refl where
  by : (b : Bool) → eqb (slots_of size) 0 ≡ b → Holds (slots_of size) (new ∷ records) (added size new ring)
  by true e =
      let none = eqb-true (slots_of size) 0 e in
      rw e (subst (λ (n : ℕ). Holds n (new ∷ records) ring) (sym none) (full_held records ring new (subst (λ (n : ℕ). Holds n records ring) none held)))
  by false e =
      let some = eqb-false (slots_of size) 0 e in
      rw e (added_held (slots_of size) records ring new (omega arith) (slots_most size) held)

-- ---- what is read of it

-- the newest of these records: so many, record 1 the newest, and no further one
pub record Newest (size : ℕ) (records : List Record) (ring : List ℕ) : Type 0 where
  pub count : count_in ring size ≡ min (slots_of size) (length records)
  pub is : (k : ℕ) → 1 ≤ k → k ≤ min (slots_of size) (length records) → found ring size k ≡ Some (get_or records (k - 1) blank)
  pub none : found ring size 0 ≡ None
  pub no_more : (k : ℕ) → min (slots_of size) (length records) < k → found ring size k ≡ None

pub read : (size : ℕ) (records : List Record) (ring : List ℕ) → Holds (slots_of size) records ring → Newest size records ring
unfolding count_in found
read size records ring held =
    record {
      count = held.count;
      is = λ k low high.
          rw (ne_eqb k 0 (λ e. omega arith), held.count, le-ltb (min (slots_of size) (length records)) k high)
          (ap Some (held.kept (k - 1) (omega arith) (omega arith)));
      none = refl;
      no_more = λ k high. rw (ne_eqb k 0 (λ e. omega arith), held.count, lt-ltb (min (slots_of size) (length records)) k high);
    }

-- RECORDS, one after the other: of whatever was added the ring has the newest
all_held : (size : ℕ) (records : List Record) → Holds (slots_of size) records (added_all size records)
unfolding added_all
all_held size [] = none_held (slots_of size)
all_held size (new ∷ older) = added-kept size older (added_all size older) new (all_held size older)

pub newest-kept : (size : ℕ) (records : List Record) → Newest size records (added_all size records)
newest-kept size records = read size records (added_all size records) (all_held size records)

-- ---- the place of a First stays, and is the one that was opened

pub first_stays : (size : ℕ) (new : Record) (ring : List ℕ) → first_place (added size new ring) ≡ first_place ring
unfolding added added_in
first_stays size new ring = by (eqb (slots_of size) 0) refl where
  by : (b : Bool) → eqb (slots_of size) 0 ≡ b → first_place (added size new ring) ≡ first_place ring
  by true e = rw e
  by false e =
      let slot = slot_named (get_or ring 1 0) (slots_of size) in
      let put = record_put ring slot new in
      let moved = set put 1 (slot + 1) in
      rw e
      (get_or-set_other moved 2 0 (count_kept (get_or ring 2 0) (slots_of size - 1) + 1) 0 (λ e. omega arith)
      ∙ get_or-set_other put 1 0 (slot + 1) 0 (λ e. omega arith)
      ∙ other_cell ring slot new 0 (inl (omega arith)))

pub first-opened : (slots : ℕ) (records : List Record) (ring : List ℕ) (at : ℕ) → Holds slots records ring → first_place (first_opened ring at) ≡ at
first-opened slots records ring at held = get_or-set_same ring 0 at 0 (omega (arith, held.cells))
