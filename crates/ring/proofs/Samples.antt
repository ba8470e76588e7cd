-- Rings worked out: of which records, told by their First's places, they show which. Assumes nothing.
use mathlib.Core.Path.{◌≡◌, refl}
use mathlib.Core.List.{List, [], ◌∷◌}
use Prim.Native.Nat.{ℕ, zero, suc, ◌+◌}
use Rattle.ring.specs.declared.Record.{Record}
use Rattle.ring.specs.Ring.{record_in, record_put, added_in, added, count_in, found, added_all}
use Rattle.std.specs.Prelude.{None, Option, Some}

-- a record of a Second, its cells all different
abbrev one : ℕ → Record
one n = record { first = n; second = n + 1; cvr = n + 2; atc = n + 3; cid = n + 4 }

abbrev cells_shown : Option Record → List ℕ
cells_shown None = []
cells_shown (Some r) = r.first ∷ r.second ∷ r.cvr ∷ r.atc ∷ r.cid ∷ []

abbrev place_shown : Option Record → ℕ
place_shown None = 0
place_shown (Some r) = r.first

abbrev many_of : List ℕ → List Record
many_of [] = []
many_of (n ∷ ns) = one n ∷ many_of ns

-- records k + 1 and on, so many of them, of a ring of a size to which these were added, the newest first
abbrev shown_from : (ring : List ℕ) (size k n : ℕ) → List ℕ
shown_from ring size k zero = []
shown_from ring size k (suc n) = place_shown (found ring size (k + 1)) ∷ shown_from ring size (k + 1) n

abbrev shown : (size : ℕ) (records : List ℕ) (n : ℕ) → List ℕ
shown size records n = shown_from (added_all size (many_of records)) size 0 n

-- n, n - 1, .. 1
abbrev down : ℕ → List ℕ
down zero = []
down (suc n) = suc n ∷ down n

pub record Samples : Type 0 where
  pub fresh : shown 20 [] 2 ≡ 0 ∷ 0 ∷ []
  pub not_full : shown 3 (8 ∷ 7 ∷ []) 4 ≡ 8 ∷ 7 ∷ 0 ∷ 0 ∷ []
  pub full : shown 3 (9 ∷ 8 ∷ 7 ∷ []) 4 ≡ 9 ∷ 8 ∷ 7 ∷ 0 ∷ []
  -- the oldest goes
  pub one_gone : shown 3 (5 ∷ 9 ∷ 8 ∷ 7 ∷ []) 4 ≡ 5 ∷ 9 ∷ 8 ∷ 0 ∷ []
  pub around_twice : shown 3 (down 8) 4 ≡ 8 ∷ 7 ∷ 6 ∷ 0 ∷ []
  pub one_slot : shown 1 (down 3) 2 ≡ 3 ∷ 0 ∷ []
  pub no_slot : shown 0 (down 3) 2 ≡ 0 ∷ 0 ∷ []
  pub no_slot_count : count_in (added_all 0 (many_of (down 3))) 0 ≡ 0
  pub twenty : shown 20 (down 21) 21 ≡ 21 ∷ 20 ∷ 19 ∷ 18 ∷ 17 ∷ 16 ∷ 15 ∷ 14 ∷ 13 ∷ 12 ∷ 11 ∷ 10 ∷ 9 ∷ 8 ∷ 7 ∷ 6 ∷ 5 ∷ 4 ∷ 3 ∷ 2 ∷ 0 ∷ []
  pub larger_is_twenty : count_in (added_all 21 (many_of (down 22))) 21 ≡ 20
  pub cells : cells_shown (found (added_all 2 (many_of (60 ∷ 50 ∷ 40 ∷ []))) 2 2) ≡ 50 ∷ 51 ∷ 52 ∷ 53 ∷ 54 ∷ []

pub samples : Samples
unfolding record_in record_put added_in added count_in found added_all
samples =
    record {
      fresh = refl;
      not_full = refl;
      full = refl;
      one_gone = refl;
      around_twice = refl;
      one_slot = refl;
      no_slot = refl;
      no_slot_count = refl;
      twenty = refl;
      larger_is_twenty = refl;
      cells = refl;
    }
