-- The judgement by its causes: 14 exactly where a tail in range has an entry that reaches past its source, 1 exactly where it is out of range.
-- Assumes nothing.
use mathlib.Core.Path.{◌≡◌, refl, ap}
use mathlib.Core.Bool.{Bool, true, false, cond, not, ◌&&◌, and-false}
use mathlib.Core.List.{List}
use mathlib.Core.Logic.{◌⊎◌, inl, inr}
use Prim.Native.Nat.{ℕ, zero, suc, ◌<◌}
use native.Mathlib.Omega.{arith}
use Rattle.log_tail.specs.LogTail.{all, entry_count, entry_at, reaches_past, are_within, is_in_range, is_within, judged, judged_number}
use Rattle.log_tail.proofs.All.{not_all}
use Rattle.std.specs.Prelude.{Err, Ok}
use Rattle.log_tail.specs.declared.Fault.TheVariants.{PastData}
use Rattle.log_tail.specs.declared.Fault.TheVariants.{Wrong}

-- one of so many is not so
record One (n : ℕ) (test : ℕ → Bool) : Type 0 where
  at : ℕ
  below : at < n
  fails : test at ≡ false

find : (n : ℕ) (test : ℕ → Bool) → all n test ≡ false → One n test
find zero test e = absurd (let z : ◌≡◌ {A = ℕ} 0 1 = cc in omega arith)
find (suc n) test e = by (all n test) (test n) refl (find n test) refl e where
  by : (before last : Bool) → all n test ≡ before → (all n test ≡ false → One n test) → test n ≡ last → (before && last) ≡ false → One (suc n) test
  by true false p there q r = record { at = n; below = omega arith; fails = q }
  by false last p there q r =
      let one = there p in
      let h = one.below in
      record { at = one.at; below = omega arith; fails = one.fails }
  by true true p there q r = absurd (let z : ◌≡◌ {A = ℕ} 0 1 = cc in omega arith)

not_not : (b : Bool) → not b ≡ false → b ≡ true
not_not true e = refl
not_not false e = absurd (let z : ◌≡◌ {A = ℕ} 0 1 = cc in omega arith)

module _ (tail : List ℕ) (profiles first : ℕ) where
  -- an entry of First's table, or of Second's, reaches past its source
  pub record Past (second : Bool) : Type 0 where
    pub at : ℕ
    pub below : at < entry_count tail profiles second
    pub reaches : reaches_past (entry_at tail profiles second at) first ≡ true

  abbrev within : (second : Bool) → Bool
  within second = all (entry_count tail profiles second) (λ i. not (reaches_past (entry_at tail profiles second i) first))

  past : (second : Bool) → within second ≡ false → Past second
  past second e =
      let one = find (entry_count tail profiles second) (λ i. not (reaches_past (entry_at tail profiles second i) first)) e in
      record { at = one.at; below = one.below; reaches = not_not _ one.fails }

  not_within : (second : Bool) → Past second → within second ≡ false
  not_within second p =
      not_all (entry_count tail profiles second) p.at (λ i. not (reaches_past (entry_at tail profiles second i) first)) p.below (ap not p.reaches)

  pub fourteen_by_cause : judged_number (judged tail profiles first) ≡ 14 → (is_in_range tail profiles ≡ true) × (Past false ⊎ Past true)
  unfolding judged is_within are_within
  fourteen_by_cause = by (is_in_range tail profiles) (within false) (within true) refl refl where
    by : (range f s : Bool) → within false ≡ f → within true ≡ s
        → judged_number (cond range (cond (f && s) (Ok tt) (Err PastData)) (Err Wrong)) ≡ 14 → (range ≡ true) × (Past false ⊎ Past true)
    by true false s p q e = (refl, inl (past false p))
    by true true false p q e = (refl, inr (past true q))
    by true true true p q e = (refl, absurd (omega arith))
    by false f s p q e = absurd (omega arith)

  pub fourteen_if : is_in_range tail profiles ≡ true → Past false ⊎ Past true → judged_number (judged tail profiles first) ≡ 14
  unfolding judged is_within are_within
  fourteen_if range (inl p) = rw (range, not_within false p)
  fourteen_if range (inr p) = rw (range, not_within true p) (ap (λ b. judged_number (cond b (Ok tt) (Err PastData))) (and-false (within false)))

  pub one-exactly : (judged_number (judged tail profiles first) ≡ 1 → is_in_range tail profiles ≡ false)
      × (is_in_range tail profiles ≡ false → judged_number (judged tail profiles first) ≡ 1)
  unfolding judged
  one-exactly = (by (is_in_range tail profiles) (is_within tail profiles first), λ e. rw e) where
    by : (range w : Bool) → judged_number (cond range (cond w (Ok tt) (Err PastData)) (Err Wrong)) ≡ 1 → range ≡ false
    by true true e = absurd (omega arith)
    by true false e = absurd (omega arith)
    by false w e = refl
