-- CPA Annex A, and CPACE C.45 for entries that test an accumulator or a counter, as a walk over places in the file's bytes (document 02,
-- requests Three and Thirteen; docs/PAPERS.md, "An entry of the file").
use Rattle.std.specs.Prelude.{◌≡◌, List, true, ℕ, zero, suc, ◌+◌, ◌*◌, ◌-◌, ◌/◌, ◌%◌, ◌^◌, ◌≤◌, ◌<◌, min, length, get_or}
use Rattle.std.specs.Int.Bits.{bit_and}
use Rattle.slot.specs.declared.Slots.{Slots}

abbrev pub Bytes : List ℕ → Type 0
Bytes s = (i : ℕ) → get_or s i 0 < 256

-- THE PLACE OF ENTRY k: entry 0 stands at 0, each next one behind the length byte and as many bytes as that says
unfoldable pub place : List ℕ → ℕ → ℕ
place file zero = 0
place file (suc k) = place file k + 1 + get_or file (place file k) 0

-- NUMBERS OF SO MANY BYTES, the first byte the highest
abbrev pub Same : ℕ → (ℕ → ℕ) → (ℕ → ℕ) → Type 0
Same size a b = (j : ℕ) → j < size → a j ≡ b j

-- there is a first byte in which they differ, and there the left one is smaller
pub record Smaller (size : ℕ) (a b : ℕ → ℕ) : Type 0 where
  pub differ : ℕ
  pub within : differ < size
  pub before : Same differ a b
  pub smaller : a differ < b differ

-- AN AMOUNT in six bytes from a place on: twelve digits, the first the highest
module _ (s : List ℕ) (at : ℕ) where
  abbrev pub Digits : Type 0
  Digits = (j : ℕ) → j < 6 → (get_or s (at + j) 0 / 16 ≤ 9) × (get_or s (at + j) 0 % 16 ≤ 9)

  abbrev pub pair : ℕ → ℕ
  pair j = get_or s (at + j) 0 / 16 * 10 + get_or s (at + j) 0 % 16

  abbrev pub amount : ℕ
  amount = pair 0 * 10 ^ 10 + pair 1 * 10 ^ 8 + pair 2 * 10 ^ 6 + pair 3 * 10 ^ 4 + pair 4 * 10 ^ 2 + pair 5

-- AN ENTRY, by places in the file from its own place on: E, P, L, n, the mask, the values, the check, the two actions
module _ (file : List ℕ) (at : ℕ) where
  abbrev pub total : ℕ
  total = get_or file at 0

  abbrev pub start : ℕ
  start = get_or file (at + 1) 0

  abbrev pub width : ℕ
  width = get_or file (at + 2) 0

  abbrev pub count : ℕ
  count = get_or file (at + 3) 0

  -- byte j of the mask, which is the first of the n blocks, and of value i: value 1 is the second block
  abbrev pub mask : ℕ → ℕ
  mask j = get_or file (at + 4 + j) 0

  abbrev pub value : ℕ → ℕ → ℕ
  value i j = get_or file (at + (4 + i * width) + j) 0

  abbrev pub check : ℕ
  check = get_or file (at + (4 + count * width)) 0

  abbrev pub positive : ℕ
  positive = get_or file (at + (5 + count * width)) 0

  abbrev pub negative : ℕ
  negative = get_or file (at + (6 + count * width)) 0

  -- byte j of the stretch of the data, which are the bytes P to P + L - 1, the first byte being 1, under the mask
  abbrev pub seen : List ℕ → ℕ → ℕ
  seen terminal j = bit_and (get_or terminal (start - 1 + j) 0) (mask j)

  -- bits b8 to b1 of the check; b6 and b5 are a number, of a counter 4 where they are 00
  abbrev pub bit : ℕ → ℕ
  bit b = check / 2 ^ (b - 1) % 2

  abbrev pub OfAccumulator : (x : ℕ) → Type 0
  OfAccumulator x = (bit 7 ≡ 1) × (bit 6 * 2 + bit 5 ≡ x)

  abbrev pub OfCounter : (x : ℕ) → Type 0
  OfCounter x = (bit 7 ≡ 0) × (1 ≤ x) × (x ≤ 4) × (bit 6 * 2 + bit 5 ≡ x % 4)

  module _ (slots : Slots) where
    -- a CPACE card's entry with b8 in its check tests a slot, and compares it with its one block
    abbrev pub OfSlot : Type 0
    OfSlot = (slots.testable ≡ true) × (bit 8 ≡ 1)

    pub data IllFormed : Type 0 where
      cut_short_lem : length file < at + 1 + total → IllFormed
      below_six : total < 6 → IllFormed
      unfit : (total ≡ count * width + 6 → ⊥) → IllFormed
      -- an entry that tests the data
      below_two : (OfSlot → ⊥) → count < 2 → IllFormed
      no_width : (OfSlot → ⊥) → width ≡ 0 → IllFormed
      no_start : (OfSlot → ⊥) → start ≡ 0 → IllFormed
      unknown-check : (OfSlot → ⊥) → 2 < check → IllFormed
      -- an entry that tests a slot
      not_one : OfSlot → (count ≡ 1 → ⊥) → IllFormed
      no_accumulator : OfSlot → OfAccumulator 0 → IllFormed
      not_six : (x : ℕ) → OfSlot → OfAccumulator x → (width ≡ 6 → ⊥) → IllFormed
      no_digits : (x : ℕ) → OfSlot → OfAccumulator x → (Digits file (at + 4) → ⊥) → IllFormed
      not_byte : (x : ℕ) → OfSlot → OfCounter x → (width ≡ 1 → ⊥) → IllFormed

    -- an accumulator is tested with the amount that the data have at P
    abbrev pub WithAmount : Type 0
    WithAmount = OfSlot × (bit 7 ≡ 1) × (bit 2 ≡ 1)

    module _ (terminal : List ℕ) where
      -- what an entry looks at is not in the data
      pub data Lacks : Type 0 where
        reaches_past_lem : (OfSlot → ⊥) → length terminal < start + width - 1 → Lacks
        amount_nowhere : WithAmount → start ≡ 0 → Lacks
        amount-past : WithAmount → length terminal < start + 5 → Lacks
        amount_no_digits : WithAmount → (Digits terminal (start - 1) → ⊥) → Lacks

      -- the value that is tested, alone or with the transaction, and the block
      pub data Compares : (value block : ℕ) → Type 0 where
        accumulator : (x : ℕ) → OfAccumulator x → bit 2 ≡ 0 → Compares (get_or slots.amounts (x - 1) 0) (amount file (at + 4))
        accumulator-more : (x : ℕ) → OfAccumulator x → bit 2 ≡ 1
            → Compares (min 999_999_999_999 (get_or slots.amounts (x - 1) 0 + amount terminal (start - 1))) (amount file (at + 4))
        counter : (x : ℕ) → OfCounter x → bit 2 ≡ 0 → Compares (get_or slots.counts (x - 1) 0) (mask 0)
        counter-more : (x : ℕ) → OfCounter x → bit 2 ≡ 1 → Compares (min 255 (get_or slots.counts (x - 1) 0 + 1)) (mask 0)

      -- check 0: equal to one of the values; 1: less than value 1; 2: greater than value 1; of a slot b1 clear: less than the block, b1 set: greater
      pub data Passes : Type 0 where
        equal : (i : ℕ) → check ≡ 0 → 1 ≤ i → i < count → Same width (seen terminal) (value i) → Passes
        less : check ≡ 1 → Smaller width (seen terminal) (value 1) → Passes
        greater : check ≡ 2 → Smaller width (value 1) (seen terminal) → Passes
        slot_less : (v b : ℕ) → OfSlot → bit 1 ≡ 0 → Compares v b → v < b → Passes
        slot_greater : (v b : ℕ) → OfSlot → bit 1 ≡ 1 → Compares v b → b < v → Passes

      -- an entry that is not ill-formed and lacks no data leads to this action byte
      pub data Acts (action : ℕ) : Type 0 where
        passed : (IllFormed → ⊥) → (Lacks → ⊥) → Passes → action ≡ positive → Acts action
        failed : (IllFormed → ⊥) → (Lacks → ⊥) → (Passes → ⊥) → action ≡ negative → Acts action

module _ (file : List ℕ) (entries : ℕ) (slots : Slots) (terminal : List ℕ) where
  -- entry k is visited and leads to this action byte
  abbrev pub Leads : (k action : ℕ) → Type 0
  Leads k action = (k < entries) × Acts file (place file k) slots terminal action

  -- 81 to FF: down by 1 to 127 entries
  abbrev pub Moves : (k m : ℕ) → Type 0
  Moves k m = Leads k (0x80 + m) × (1 ≤ m) × (m ≤ 0x7F)

  -- THE WALK from entry k on to a profile, 01 to 7E, and its visits
  pub data Walks : (k profile visits : ℕ) → Type 0 where
    names : (k p : ℕ) → Leads k p → 1 ≤ p → p ≤ 0x7E → Walks k p 1
    moves : (k m p v : ℕ) → Moves k m → Walks (k + m) p v → Walks k p (v + 1)

  -- REFUSAL 12, by its causes
  pub data Stops : (k : ℕ) → Type 0 where
    profile_zero : (k : ℕ) → Leads k 0x00 → Stops k
    move_zero : (k : ℕ) → Leads k 0x80 → Stops k
    past_the_end : (k m : ℕ) → Moves k m → entries ≤ k + m → Stops k
    profile_7_f : (k : ℕ) → Leads k 0x7F → Stops k
    empty-file : (k : ℕ) → entries ≡ 0 → Stops k
    ill_formed : (k : ℕ) → k < entries → IllFormed file (place file k) slots → Stops k
    lacks_data : (k : ℕ) → k < entries → Lacks file (place file k) slots terminal → Stops k
    onward : (k m : ℕ) → Moves k m → Stops (k + m) → Stops k
