-- The cells of a record: what is put into a slot is read from it, and no other cell changes. Assumes nothing.
use mathlib.Core.Path.{◌≡◌, ◌∙◌}
use mathlib.Core.List.{List}
use mathlib.Core.Logic.{◌⊎◌, inl, inr}
use Prim.Native.Nat.{ℕ, ◌+◌, ◌≤◌, ◌<◌}
use native.Mathlib.Omega.{arith}
use lib.ListN.{length, get_or, set, length-set}
use lib.Seq.{get_or-set_same, get_or-set_other}
use Rattle.ring.specs.declared.Record.{Record}
use Rattle.ring.specs.Ring.{cells_of, record_in, record_put}

module _ (ring : List ℕ) (slot : ℕ) (kept : Record) where
  abbrev at : ℕ
  at = cells_of slot

  abbrev one : List ℕ
  one = set ring at kept.first

  abbrev two : List ℕ
  two = set one (at + 1) kept.second

  abbrev three : List ℕ
  three = set two (at + 2) kept.cvr

  abbrev four : List ℕ
  four = set three (at + 3) kept.atc

  pub put-size : length (record_put ring slot kept) ≡ length ring
  unfolding record_put
  put-size = simp length-set

  pub other_cell : (j : ℕ) → (j < at) ⊎ (at + 5 ≤ j) → get_or (record_put ring slot kept) j 0 ≡ get_or ring j 0
  unfolding record_put
  other_cell j apart =
      get_or-set_other four (at + 4) j kept.cid 0 (is-other (at + 4) (omega arith) (omega arith) apart)
      ∙ get_or-set_other three (at + 3) j kept.atc 0 (is-other (at + 3) (omega arith) (omega arith) apart)
      ∙ get_or-set_other two (at + 2) j kept.cvr 0 (is-other (at + 2) (omega arith) (omega arith) apart)
      ∙ get_or-set_other one (at + 1) j kept.second 0 (is-other (at + 1) (omega arith) (omega arith) apart)
      ∙ get_or-set_other ring at j kept.first 0 (is-other at (omega arith) (omega arith) apart) where
        is-other : (i : ℕ) → at ≤ i → i < at + 5 → (j < at) ⊎ (at + 5 ≤ j) → j ≡ i → ⊥
        is-other i low high (inl before) e = omega arith
        is-other i low high (inr behind) e = omega arith

  pub same_record : at + 5 ≤ length ring → record_in (record_put ring slot kept) slot ≡ kept
  unfolding record_in record_put
  same_record fits =
      let size-1 = length-set ring at kept.first in
      let size-2 = length-set one (at + 1) kept.second in
      let size-3 = length-set two (at + 2) kept.cvr in
      let size-4 = length-set three (at + 3) kept.atc in
      let first-is =
      get_or-set_other four (at + 4) at kept.cid 0 (λ e. omega arith)
      ∙ get_or-set_other three (at + 3) at kept.atc 0 (λ e. omega arith)
      ∙ get_or-set_other two (at + 2) at kept.cvr 0 (λ e. omega arith)
      ∙ get_or-set_other one (at + 1) at kept.second 0 (λ e. omega arith)
      ∙ get_or-set_same ring at kept.first 0 (omega arith) in
      let second_is =
      get_or-set_other four (at + 4) (at + 1) kept.cid 0 (λ e. omega arith)
      ∙ get_or-set_other three (at + 3) (at + 1) kept.atc 0 (λ e. omega arith)
      ∙ get_or-set_other two (at + 2) (at + 1) kept.cvr 0 (λ e. omega arith)
      ∙ get_or-set_same one (at + 1) kept.second 0 (omega arith) in
      let cvr_is =
      get_or-set_other four (at + 4) (at + 2) kept.cid 0 (λ e. omega arith)
      ∙ get_or-set_other three (at + 3) (at + 2) kept.atc 0 (λ e. omega arith)
      ∙ get_or-set_same two (at + 2) kept.cvr 0 (omega arith) in
      let atc-is = get_or-set_other four (at + 4) (at + 3) kept.cid 0 (λ e. omega arith) ∙ get_or-set_same three (at + 3) kept.atc 0 (omega arith) in
      let cid-is = get_or-set_same four (at + 4) kept.cid 0 (omega arith) in
      rw (first-is, second_is, cvr_is, atc-is, cid-is)

-- a record is told by its five cells
pub alike : (ring other : List ℕ) (slot : ℕ) → ((j : ℕ) → cells_of slot ≤ j → j < cells_of slot + 5 → get_or ring j 0 ≡ get_or other j 0)
    → record_in ring slot ≡ record_in other slot
unfolding record_in
alike ring other slot same =
    let at = cells_of slot in
    rw (
      same at (omega arith) (omega arith),
      same (at + 1) (omega arith) (omega arith),
      same (at + 2) (omega arith) (omega arith),
      same (at + 3) (omega arith) (omega arith),
      same (at + 4) (omega arith) (omega arith),
    )
