-- The ring of a transaction log (document 02, Eight): up to 20 records, of which the oldest goes when it is full. Record 1 is the newest.
use Rattle.std.specs.Prelude.{ℕ, ◌+◌, ◌-◌, ◌*◌, cond, List, [], ◌∷◌, eqb, ltb, get_or, set, replicate, None, Option, Some}
use Rattle.ring.specs.declared.Record.{Record}

-- a set-up's size is 0 to 20; a larger one counts as 20
abbrev pub most : ℕ
most = 20

abbrev pub slots_of : (size : ℕ) → ℕ
slots_of size = cond (ltb size most) size most

-- THE CELLS: where the First lies that a Second may close; the slot that the next record takes; the number of records; five for each slot
abbrev pub cell_count : ℕ
cell_count = 103

abbrev pub no_records : List ℕ
no_records = replicate cell_count 0

abbrev pub first_place : (ring : List ℕ) → ℕ
first_place ring = get_or ring 0 0

abbrev pub first_opened : (ring : List ℕ) (at : ℕ) → List ℕ
first_opened ring at = set ring 0 at

-- behind the last slot comes the first
abbrev pub slot_named : (next slots : ℕ) → ℕ
slot_named next slots = cond (ltb next slots) next 0

abbrev pub count_kept : (count slots : ℕ) → ℕ
count_kept count slots = cond (ltb count slots) count slots

abbrev pub cells_of : (slot : ℕ) → ℕ
cells_of slot = 3 + 5 * slot

unfoldable pub record_in : (ring : List ℕ) (slot : ℕ) → Record
record_in ring slot =
    let at = cells_of slot in
    record {
      first = get_or ring at 0;
      second = get_or ring (at + 1) 0;
      cvr = get_or ring (at + 2) 0;
      atc = get_or ring (at + 3) 0;
      cid = get_or ring (at + 4) 0;
    }

unfoldable pub record_put : (ring : List ℕ) (slot : ℕ) → Record → List ℕ
record_put ring slot kept =
    let at = cells_of slot in
    set (set (set (set (set ring at kept.first) (at + 1) kept.second) (at + 2) kept.cvr) (at + 3) kept.atc) (at + 4) kept.cid

-- A NEW RECORD takes the next slot; none is kept where there is no slot
unfoldable pub added_in : (slots : ℕ) → Record → (ring : List ℕ) → List ℕ
added_in slots kept ring =
    let slot = slot_named (get_or ring 1 0) slots in
    let others = count_kept (get_or ring 2 0) (slots - 1) in
    set (set (record_put ring slot kept) 1 (slot + 1)) 2 (others + 1)

unfoldable pub added : (size : ℕ) → Record → (ring : List ℕ) → List ℕ
added size kept ring = cond (eqb (slots_of size) 0) ring (added_in (slots_of size) kept ring)

-- READ: how many there are; and record k, the newest being 1
unfoldable pub count_in : (ring : List ℕ) (size : ℕ) → ℕ
count_in ring size = count_kept (get_or ring 2 0) (slots_of size)

-- the slot of the record so many before the newest: before the next one's slot, and before the first comes the last
abbrev pub slot_back : (next slots back : ℕ) → ℕ
slot_back next slots back = cond (ltb back next) (next - 1 - back) (next + slots - 1 - back)

unfoldable pub found : (ring : List ℕ) (size k : ℕ) → Option Record
found ring size k =
    cond (eqb k 0) None
    (cond (ltb (count_in ring size) k) None
    (Some (record_in ring (slot_back (slot_named (get_or ring 1 0) (slots_of size)) (slots_of size) (k - 1)))))

-- RECORDS that were added one after the other, the newest first
unfoldable pub added_all : (size : ℕ) → List Record → List ℕ
added_all size [] = no_records
added_all size (new ∷ older) = added size new (added_all size older)
