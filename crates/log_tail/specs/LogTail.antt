-- What a set-up says of its log: the tail of version 07, where it is on (document 02, Eight; Table L-10 for the switches).
use Rattle.std.specs.Prelude.{ℕ, zero, suc, ◌+◌, ◌-◌, ◌*◌, ◌%◌, Bool, true, cond, not, ◌&&◌, List, leb, ltb, eqb, Err, Ok, Result}
use Rattle.wire.specs.Wire.{byte}
use Rattle.log_tail.specs.declared.Entry.{Entry}
use Rattle.log_tail.specs.declared.Fault.{Fault}
use Rattle.log_tail.specs.declared.Fault.TheVariants.{PastData}
use Rattle.log_tail.specs.declared.Fault.TheVariants.{Wrong}

-- behind the switch that is on (1): the ring's size, the switches, a byte for each profile, First's table, Second's; a table is the number of its
-- entries, and then the entries, each source (1), position (1), length (1)
abbrev pub size_in : (tail : List ℕ) → ℕ
size_in tail = byte tail 1

abbrev pub switches_in : (tail : List ℕ) → ℕ
switches_in tail = byte tail 2

abbrev pub flag_in : (tail : List ℕ) (i : ℕ) → ℕ
flag_in tail i = byte tail (3 + i)

abbrev pub logs_in : (tail : List ℕ) (i : ℕ) → Bool
logs_in tail i = eqb (flag_in tail i) 1

abbrev pub first_table : (profiles : ℕ) → ℕ
first_table profiles = 3 + profiles

abbrev pub behind_table : (tail : List ℕ) (table : ℕ) → ℕ
behind_table tail table = table + 1 + 3 * byte tail table

abbrev pub second_table : (tail : List ℕ) (profiles : ℕ) → ℕ
second_table tail profiles = behind_table tail (first_table profiles)

unfoldable pub entry_in : (tail : List ℕ) (table i : ℕ) → Entry
entry_in tail table i =
    let at = table + 1 + 3 * i in
    record { source = byte tail at; position = byte tail (at + 1); length = byte tail (at + 2) }

-- a transaction that a First closes is logged by First's table, one that a Second closes by Second's
abbrev pub table_of : (tail : List ℕ) (profiles : ℕ) (second : Bool) → ℕ
table_of tail profiles second = cond second (second_table tail profiles) (first_table profiles)

abbrev pub entry_count : (tail : List ℕ) (profiles : ℕ) (second : Bool) → ℕ
entry_count tail profiles second = byte tail (table_of tail profiles second)

abbrev pub entry_at : (tail : List ℕ) (profiles : ℕ) (second : Bool) (i : ℕ) → Entry
entry_at tail profiles second i = entry_in tail (table_of tail profiles second) i

-- First's data, of so many bytes, is source 0; Second's has 8
abbrev pub data_of : Entry → (first : ℕ) → ℕ
data_of entry first = cond (eqb entry.source 0) first 8

-- position 0 is "not logged"; the data's first byte has position 1, so that length 0 behind the data is fine
unfoldable pub reaches_past : Entry → (first : ℕ) → Bool
reaches_past entry first = not (eqb entry.position 0) && ltb (data_of entry first) (entry.position - 1 + entry.length)

-- so many are all so
abbrev pub all : ℕ → (ℕ → Bool) → Bool
all zero test = true
all (suc n) test = all n test && test n

unfoldable pub are_flags : (tail : List ℕ) (profiles : ℕ) → Bool
are_flags tail profiles = all profiles (λ i. leb (flag_in tail i) 1)

unfoldable pub are_sources : (tail : List ℕ) (table highest : ℕ) → Bool
are_sources tail table highest = all (byte tail table) (λ i. leb (entry_in tail table i).source highest)

unfoldable pub are_within : (tail : List ℕ) (table first : ℕ) → Bool
are_within tail table first = all (byte tail table) (λ i. not (reaches_past (entry_in tail table i) first))

-- a ring of 0 to 20, the two low switches zero, each profile's byte 0 or 1, source 0 in First's table and 0 or 1 in Second's
unfoldable pub is_in_range : (tail : List ℕ) (profiles : ℕ) → Bool
is_in_range tail profiles =
    leb (size_in tail) 20 && eqb (switches_in tail % 4) 0 && are_flags tail profiles
    && (are_sources tail (first_table profiles) 0 && are_sources tail (second_table tail profiles) 1)

unfoldable pub is_within : (tail : List ℕ) (profiles first : ℕ) → Bool
is_within tail profiles first = are_within tail (first_table profiles) first && are_within tail (second_table tail profiles) first

-- THE JUDGEMENT: out of range before past its data
unfoldable pub judged : (tail : List ℕ) (profiles first : ℕ) → Result Unit Fault
judged tail profiles first = cond (is_in_range tail profiles) (cond (is_within tail profiles first) (Ok tt) (Err PastData)) (Err Wrong)

abbrev pub judged_number : Result Unit Fault → ℕ
judged_number (Ok done) = 0
judged_number (Err Wrong) = 1
judged_number (Err PastData) = 14
