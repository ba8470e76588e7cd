-- The Profile Selection File (CPA Annex A, A2): its entries, and the profile that they select.
use Rattle.std.specs.Prelude.{ℕ, zero, suc, ◌+◌, ◌-◌, Bool, ◌&&◌, List, [], ◌∷◌, length, take, drop, ltb, eqb, None, Option, Some}
use Rattle.wire.specs.Wire.{byte}
use Rattle.slot.specs.declared.Slots.{Slots}
use Rattle.entry.specs.Entry.{action_taken}
use Rattle.entry.specs.declared.Action.{Action}
use Rattle.entry.specs.declared.Action.TheVariants.{Profile, Move, Refused}
use Rattle.selection.specs.declared.Selected.{Selected}

-- THE FILE: entries one after the other, each its length byte and as many bytes as that says
abbrev pub first_entry : List ℕ → List ℕ
first_entry file = take (byte file 0 + 1) file

abbrev pub below : List ℕ → List ℕ
below file = drop (byte file 0 + 1) file

unfoldable pub entries_of : List ℕ → ℕ → List (List ℕ)
entries_of file zero = []
entries_of file (suc n) = first_entry file ∷ entries_of (below file) n

-- so many entries, none cut short, and nothing behind them
unfoldable pub is_file : List ℕ → ℕ → Bool
is_file file zero = eqb (length file) 0
is_file file (suc n) = ltb (byte file 0) (length file) && is_file (below file) n

-- THE SELECTION
-- one visit more than those below
abbrev pub one_more : Option Selected → Option Selected
one_more (Some chosen) = Some (record { profile = chosen.profile; visits = chosen.visits + 1 })
one_more None = None

-- an action, where `below m` is the selection from the m-th entry below
unfoldable pub follow : Action → (ℕ → Option Selected) → Option Selected
follow (Profile p) below = Some (record { profile = p; visits = 1 })
follow (Move m) below = one_more (below m)
follow Refused below = None

-- the selection that begins at entry k of a list, the first being 0; past the last one there is none
unfoldable pub select_from : ℕ → List (List ℕ) → List ℕ → Slots → Option Selected
select_from k [] d slots = None
select_from zero (e ∷ es) d slots = follow (action_taken e d slots) (λ m. select_from (m - 1) es d slots)
select_from (suc k) (e ∷ es) d slots = select_from k es d slots

unfoldable pub selection_of : List ℕ → ℕ → List ℕ → Slots → Option Selected
selection_of file n d slots = select_from 0 (entries_of file n) d slots

-- ITS NUMBER AND VALUES: refusal 12 where nothing is selected
abbrev pub selection_number : Option Selected → ℕ
selection_number (Some chosen) = 0
selection_number None = 12

abbrev pub profile_of : Option Selected → ℕ
profile_of (Some chosen) = chosen.profile
profile_of None = 0

abbrev pub visits_of : Option Selected → ℕ
visits_of (Some chosen) = chosen.visits
visits_of None = 0

-- the file from its k-th entry below the first on
unfoldable pub skipped : List ℕ → ℕ → List ℕ
skipped file zero = file
skipped file (suc k) = skipped (below file) k
