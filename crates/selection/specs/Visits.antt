-- What a selection looks at: the entries that it visits, of the data what each of these extracts, and the slots that they test.
use Rattle.std.specs.Prelude.{ℕ, zero, suc, ◌-◌, ◌≡◌, true, cond, not, ◌&&◌, ◌⊎◌, List, [], ◌∷◌, map, get_or, take, drop}
use Rattle.fields.specs.Fields.{position, block_length, check_type}
use Rattle.slot.specs.declared.Slots.{Slots}
use Rattle.block.specs.declared.Slot.{Slot}
use Rattle.slot.specs.Slot.{tests_slot, slot_of, is_slot_sound, asks_amount, value_of}
use Rattle.entry.specs.Entry.{action_taken}
use Rattle.entry.specs.declared.Action.{Action}
use Rattle.entry.specs.declared.Action.TheVariants.{Profile, Move, Refused}
use Rattle.selection.specs.Selection.{entries_of}

-- the places that a move leads on to; an action that names a profile or is refused leads to none
abbrev pub onward : Action → (ℕ → List ℕ) → List ℕ
onward (Profile p) below = []
onward (Move m) below = below m
onward Refused below = []

-- the places of the entries visited from entry k of a list on, the first being 0
unfoldable pub visited_from : ℕ → List (List ℕ) → List ℕ → Slots → List ℕ
visited_from k [] d slots = []
visited_from zero (e ∷ es) d slots = 0 ∷ map suc (onward (action_taken e d slots) (λ m. visited_from (m - 1) es d slots))
visited_from (suc k) (e ∷ es) d slots = map suc (visited_from k es d slots)

abbrev pub visited : List ℕ → ℕ → List ℕ → Slots → List ℕ
visited file n d slots = visited_from 0 (entries_of file n) d slots

abbrev pub entry_at : List ℕ → ℕ → ℕ → List ℕ
entry_at file n i = get_or (entries_of file n) i []

-- the bytes of the data that an entry looks at; one that tests a slot looks at none but for the amount to add
abbrev pub stretch : List ℕ → List ℕ → List ℕ
stretch e d = take (block_length e) (drop (position e - 1) d)

abbrev pub looked : List ℕ → List ℕ → Slots → List ℕ
looked e d slots = cond (tests_slot e slots && not (asks_amount (slot_of (check_type e)) (check_type e))) [] (stretch e d)

-- the slot that an entry tests: it is sound, and its check type names it
abbrev pub Names : List ℕ → Slots → Slot → Type 0
Names e slots x = (tests_slot e slots ≡ true) × (is_slot_sound e ≡ true) × (slot_of (check_type e) ≡ x)

pub record Alike (e e' d d' : List ℕ) (slots slots' : Slots) : Type 0 where
  pub entry : e ≡ e'
  pub seen : looked e d slots ≡ looked e d' slots
  pub tested : (x : Slot) → Names e slots x → value_of slots x ≡ value_of slots' x

abbrev pub All : (ℕ → Type 0) → List ℕ → Type 0
All P [] = Unit
All P (x ∷ xs) = P x × All P xs

abbrev pub Among : ℕ → List ℕ → Type 0
Among i [] = ⊥
Among i (x ∷ xs) = (i ≡ x) ⊎ Among i xs

-- A SELECTION TESTS A SLOT if an entry that it visits does
pub record Tests (file : List ℕ) (n : ℕ) (d : List ℕ) (slots : Slots) (x : Slot) : Type 0 where
  pub place : ℕ
  pub visits : Among place (visited file n d slots)
  pub names : Names (entry_at file n place) slots x
