-- How often a selection visits. Assumes nothing.
use mathlib.Core.Path.{◌≡◌, refl, sym, ap, ◌∙◌}
use mathlib.Core.List.{List, [], ◌∷◌, map}
use Prim.Native.Nat.{ℕ, zero, suc, ◌+◌, ◌-◌, ◌≤◌}
use native.Mathlib.Omega.{arith}
use lib.ListN.{length, length-map}
use Rattle.slot.specs.declared.Slots.{Slots}
use Rattle.entry.specs.Entry.{action_taken}
use Rattle.entry.specs.declared.Action.{Action}
use Rattle.entry.specs.declared.Action.TheVariants.{Profile, Move, Refused}
use Rattle.selection.specs.Selection.{below, entries_of, one_more, follow, select_from, selection_of, visits_of}
use Rattle.selection.specs.Visits.{onward, visited_from, visited}
use Rattle.std.specs.Prelude.{None, Option, Some}
use Rattle.selection.specs.declared.Selected.{Selected}

-- AT MOST AS MANY VISITS AS ENTRIES
follow-few : (a : Action) (f : ℕ → Option Selected) (n : ℕ) → ((m : ℕ) → visits_of (f m) ≤ n) → visits_of (follow a f) ≤ suc n
unfolding follow
follow-few (Profile p) f n h = omega arith
follow-few (Move m) f n h = more (f m) (h m)
  where
    more : (s : Option Selected) → visits_of s ≤ n → visits_of (one_more s) ≤ suc n
    more (Some chosen) g = omega arith
    more None g = omega arith
follow-few Refused f n h = omega arith

few-from : (k : ℕ) (es : List (List ℕ)) (d : List ℕ) (slots : Slots) → visits_of (select_from k es d slots) ≤ length es
unfolding select_from
few-from k [] d slots = omega arith
few-from zero (e ∷ es) d slots =
    follow-few (action_taken e d slots) (λ m. select_from (m - 1) es d slots) (length es) (λ m. few-from (m - 1) es d slots)
few-from (suc k) (e ∷ es) d slots = omega (arith, few-from k es d slots)

pub entries-number : (n : ℕ) (s : List ℕ) → length (entries_of s n) ≡ n
unfolding entries_of
entries-number zero s = refl
entries-number (suc n) s = ap suc (entries-number n (below s))

module _ (file : List ℕ) (n : ℕ) (d : List ℕ) (slots : Slots) where
  pub few-visits : visits_of (selection_of file n d slots) ≤ n
  unfolding selection_of
  few-visits = omega (arith, few-from 0 (entries_of file n) d slots, entries-number n file)

  pub few-told : (r : Option Selected) (p v : ℕ) → r ≡ selection_of file n d slots → r ≡ Some (record { profile = p; visits = v }) → v ≤ n
  few-told r p v e f = omega (arith, few-visits, ap visits_of (sym e ∙ f))

-- VISITS ARE THE ENTRIES VISITED
follow-counts : (a : Action) (f : ℕ → Option Selected) (v : ℕ → List ℕ) → ((m p n : ℕ) → f m ≡ Some (record { profile = p; visits = n }) → length (v m) ≡ n)
    → (p n : ℕ) → follow a f ≡ Some (record { profile = p; visits = n }) → suc (length (map suc (onward a v))) ≡ n
unfolding follow
follow-counts (Profile q) f v h p n e = ap visits_of e
follow-counts (Move m) f v h p n e = more (f m) refl e
  where
    more : (s : Option Selected) → f m ≡ s → one_more s ≡ Some (record { profile = p; visits = n }) → suc (length (map suc (v m))) ≡ n
    more (Some chosen) g i = let z : chosen.visits + 1 ≡ n = ap visits_of i in omega (arith, length-map (v m) suc, h m chosen.profile chosen.visits g)
    more None g i = let z : ◌≡◌ {A = ℕ} 0 1 = cc in absurd (omega arith)
follow-counts Refused f v h p n e = let z : ◌≡◌ {A = ℕ} 0 1 = cc in absurd (omega arith)

counts-from : (k : ℕ) (es : List (List ℕ)) (d : List ℕ) (slots : Slots) (p n : ℕ)
    → select_from k es d slots ≡ Some (record { profile = p; visits = n }) → length (visited_from k es d slots) ≡ n
unfolding select_from visited_from
counts-from k [] d slots p n e = let z : ◌≡◌ {A = ℕ} 0 1 = cc in absurd (omega arith)
counts-from zero (e ∷ es) d slots p n h =
    follow-counts (action_taken e d slots) (λ m. select_from (m - 1) es d slots) (λ m. visited_from (m - 1) es d slots)
    (λ m. counts-from (m - 1) es d slots) p n h
counts-from (suc k) (e ∷ es) d slots p n h = length-map (visited_from k es d slots) suc ∙ counts-from k es d slots p n h

pub counts-visited : (file : List ℕ) (n : ℕ) (d : List ℕ) (slots : Slots) (p v : ℕ)
    → selection_of file n d slots ≡ Some (record { profile = p; visits = v }) → length (visited file n d slots) ≡ v
unfolding selection_of
counts-visited file n d slots p v h = counts-from 0 (entries_of file n) d slots p v h
