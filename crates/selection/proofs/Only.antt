-- What a selection depends on: the entries that it visits, what these look at, and the slots that they test. Assumes nothing.
use mathlib.Core.Path.{◌≡◌, refl, sym, ap, ◌∙◌}
use mathlib.Core.Bool.{false}
use mathlib.Core.Logic.{inl, inr}
use mathlib.Core.List.{List, [], ◌∷◌, map}
use Prim.Native.Nat.{ℕ, zero, suc, ◌-◌}
use native.Mathlib.Omega.{arith}
use lib.ListN.{length, get_or}
use Rattle.fields.specs.Fields.{check_type}
use Rattle.slot.specs.Slot.{tests_slot, value_of}
use Rattle.slot.specs.declared.Slots.{Slots}
use Rattle.block.specs.declared.Slot.{Slot}
use Rattle.block.specs.declared.Slot.TheVariants.{Accumulator}
use Rattle.block.proofs.Facts.{to-three}
use Rattle.entry.specs.Entry.{action_taken}
use Rattle.entry.specs.declared.Action.{Action}
use Rattle.entry.specs.declared.Action.TheVariants.{Profile, Move, Refused}
use Rattle.selection.specs.Selection.{entries_of, one_more, follow, select_from, selection_of}
use Rattle.selection.specs.Visits.{onward, visited_from, visited, entry_at, Alike, All, Among, Tests}
use Rattle.selection.proofs.Looked.{same_action}
use Rattle.selection.proofs.Visits.{entries-number}
use Rattle.std.specs.Prelude.{Option}
use Rattle.selection.specs.declared.Selected.{Selected}

all_map : (P : ℕ → Type 0) (xs : List ℕ) → All P (map suc xs) → All (λ i. P (suc i)) xs
all_map P [] h = tt
all_map P (x ∷ xs) h = (h.0, all_map P xs h.1)

-- the same selection, by the same visits
abbrev Same : (s s' : Option Selected) (v v' : List ℕ) → Type 0
Same s s' v v' = (s ≡ s') × (v ≡ v')

follow_alike : (P : ℕ → Type 0) (a : Action) (f g : ℕ → Option Selected) (v w : ℕ → List ℕ)
    → ((m : ℕ) → All P (map suc (v m)) → Same (f m) (g m) (v m) (w m))
    → All P (map suc (onward a v)) → Same (follow a f) (follow a g) (onward a v) (onward a w)
unfolding follow
follow_alike P (Profile p) f g v w h u = (refl, refl)
follow_alike P (Move m) f g v w h u = let (s, t) = h m u in (ap one_more s, t)
follow_alike P Refused f g v w h u = (refl, refl)

module _ (d d' : List ℕ) (slots slots' : Slots) (family : slots.testable ≡ slots'.testable) where
  abbrev AlikeAt : (es es' : List (List ℕ)) → ℕ → Type 0
  AlikeAt es es' i = Alike (get_or es i []) (get_or es' i []) d d' slots slots'

  alike_from : (k : ℕ) (es es' : List (List ℕ)) → length es ≡ length es' → All (AlikeAt es es') (visited_from k es d slots)
      → Same (select_from k es d slots) (select_from k es' d' slots') (visited_from k es d slots) (visited_from k es' d' slots')
  unfolding select_from visited_from
  alike_from k [] [] l w = (refl, refl)
  alike_from k [] (e' ∷ es') l w = absurd (omega arith)
  alike_from k (e ∷ es) [] l w = absurd (omega arith)
  alike_from zero (e ∷ es) (e' ∷ es') l w =
      let n : length es ≡ length es' = omega arith in
      let here = w.0 in
      let P : ℕ → Type 0 = AlikeAt (e ∷ es) (e' ∷ es') in
      let a : action_taken e d slots ≡ action_taken e' d' slots' =
      same_action e d d' slots slots' family here.seen here.tested ∙ ap (λ (x : List ℕ). action_taken x d' slots') here.entry in
      let f : ℕ → (Option Selected) = λ m. select_from (m - 1) es' d' slots' in
      let v : ℕ → List ℕ = λ m. visited_from (m - 1) es' d' slots' in
      let (s, t) =
      follow_alike P (action_taken e d slots) (λ m. select_from (m - 1) es d slots) f (λ m. visited_from (m - 1) es d slots) v
      (λ m u. alike_from (m - 1) es es' n (all_map P (visited_from (m - 1) es d slots) u)) w.1 in
      (s ∙ ap (λ (x : Action). follow x f) a, ap (λ (xs : List ℕ). 0 ∷ map suc xs) (t ∙ ap (λ (x : Action). onward x v) a))
  alike_from (suc k) (e ∷ es) (e' ∷ es') l w =
      let (s, t) = alike_from k es es' (omega arith) (all_map (AlikeAt (e ∷ es) (e' ∷ es')) (visited_from k es d slots) w) in
      (s, ap (map suc) t)

  -- NOTHING ELSE IS LOOKED AT: two files that have the same entries where a selection visits, data that agree in what these entries
  -- look at, and cards that agree in the slots that they test, give the same selection. So no other entry matters, nor any other byte.
  pub only-visited : (file file' : List ℕ) (n : ℕ)
      → All (λ i. Alike (entry_at file n i) (entry_at file' n i) d d' slots slots') (visited file n d slots)
      → (selection_of file n d slots ≡ selection_of file' n d' slots') × (visited file n d slots ≡ visited file' n d' slots')
  unfolding selection_of
  only-visited file file' n w = alike_from 0 (entries_of file n) (entries_of file' n) (entries-number n file ∙ sym (entries-number n file')) w

all_among : (P : ℕ → Type 0) (xs : List ℕ) → ((i : ℕ) → Among i xs → P i) → All P xs
all_among P [] h = tt
all_among P (x ∷ xs) h = (h x (inl refl), all_among P xs (λ i a. h i (inr a)))

module _ (file : List ℕ) (n : ℕ) (d : List ℕ) (slots : Slots) where
  -- A CPA CARD'S ENTRIES TEST NO SLOT
  pub cpa_tests_none : slots.testable ≡ false → (x : Slot) → Tests file n d slots x → ⊥
  unfolding tests_slot
  cpa_tests_none family x t =
      let f : tests_slot (entry_at file n t.place) slots ≡ false = simp family in
      let z : ◌≡◌ {A = ℕ} 0 1 = cc in
      omega arith

  -- no check type names accumulator 4
  pub fourth-untested : Tests file n d slots (Accumulator 4) → ⊥
  fourth-untested t = omega (arith, to-three (check_type (entry_at file n t.place)) 4 t.names.2)

  module _ (slots' : Slots) where
    -- NO OTHER SLOT MATTERS: cards that agree in every slot that a selection tests give the same one, by the same visits
    pub only-tested : slots.testable ≡ slots'.testable → ((x : Slot) → Tests file n d slots x → value_of slots x ≡ value_of slots' x)
        → (selection_of file n d slots ≡ selection_of file n d slots') × (visited file n d slots ≡ visited file n d slots')
    only-tested family same =
        only-visited d d slots slots' family file file n
        (all_among (λ i. Alike (entry_at file n i) (entry_at file n i) d d slots slots') (visited file n d slots)
        (λ i a. record { entry = refl; seen = refl; tested = λ x c. same x (record { place = i; visits = a; names = c }) }))

    -- so that of a CPA card no amount and no count matters
    pub cpa_reads_none : slots.testable ≡ false → slots'.testable ≡ false
        → (selection_of file n d slots ≡ selection_of file n d slots') × (visited file n d slots ≡ visited file n d slots')
    cpa_reads_none a b = only-tested (a ∙ sym b) (λ x t. absurd (cpa_tests_none a x t))
