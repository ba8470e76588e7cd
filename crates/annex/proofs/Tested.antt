-- The comparison of an entry that is sound and tests the data, by the file's bytes and by numbers, is one. Assumes nothing.
use mathlib.Core.Path.{◌≡◌, refl, sym, ap, ◌∙◌}
use mathlib.Core.Bool.{Bool, true, false, ◌||◌}
use mathlib.Core.Logic.{◌⊎◌, inl, inr}
use mathlib.Core.List.{List}
use Prim.Native.Nat.{ℕ, zero, suc, ◌+◌, ◌*◌, ◌-◌, ◌≤◌, ◌<◌}
use native.Mathlib.Nat.{suc-mul, mul-le-mul_right}
use native.Mathlib.Decide.{ℕ_discrete}
use native.Mathlib.Omega.{arith}
use borrow.Author.Tests.{lt-ltb, le-ltb, eq-eqb, ne_eqb}
use lib.Dec.{ltb, eqb}
use Rattle.wire.specs.Wire.{number}
use Rattle.fields.specs.Fields.{blocks, check_type}
use Rattle.slot.specs.declared.Slots.{Slots}
use Rattle.entry.specs.Entry.{block, masked, is_any_of, passes}
use Rattle.entry.proofs.Compared.{masked_to, masked-more, masked_small}
use Rattle.annex.specs.Annex.{Bytes, total, start, width, count, value, check, seen, Same, Smaller}
use Rattle.annex.specs.Annex.{Passes, equal, less, greater, slot_less, slot_greater}
use Rattle.annex.proofs.Order.{Stand, same, smaller, larger, stand, same_number, smaller-number}
use Rattle.annex.proofs.Fields.{entry, number-inside, start_is, width_is, count-is, check-is}
use Rattle.annex.proofs.Form.{given, Whole}

module _ (file : List ℕ) (at : ℕ) (w : Whole file at) (slots : Slots) (d : List ℕ) (fs : Bytes file) (ds : Bytes d) where
  abbrev e : List ℕ
  e = entry file at

  abbrev value_at : ℕ → ℕ
  value_at i = at + (4 + i * width file at)

  one-there : 1 < count file at
  one-there = omega (arith, w.two)

  block-fits : (i : ℕ) → i < count file at → 4 + i * width file at + width file at ≤ total file at + 1
  block-fits i h = omega (arith, w.sum, mul-le-mul_right {m = suc i} {n = count file at} (width file at) h, suc-mul i (width file at))

  block-is : (i : ℕ) → i < count file at → block e i ≡ number file (value_at i) (width file at)
  unfolding block
  block-is i h =
      ap (λ (l : ℕ). number e (4 + i * l) l) (width_is file at w.six)
      ∙ number-inside file at (4 + i * width file at) (width file at) (block-fits i h)

  abbrev grown : ℕ → ℕ
  grown = masked_to d file (start file at - 1) (at + 4) ds fs

  masked-is : masked e d ≡ grown (width file at)
  unfolding masked
  masked-is =
      let m = number-inside file at 4 (width file at) (omega (arith, block-fits 0 (omega (arith, one-there)))) in
      rw (start_is file at w.six, width_is file at w.six, m)

  none : (i : ℕ) → grown 0 ≡ number file (value_at i) 0
  unfolding number
  none i = refl

  value-more : (i j : ℕ) → number file (value_at i) (suc j) ≡ number file (value_at i) j * 256 + value file at i j
  unfolding number
  value-more i j = refl

  grown-more : (j : ℕ) → grown (suc j) ≡ grown j * 256 + seen file at d j
  grown-more = masked-more d file (start file at - 1) (at + 4) ds fs

  module _ (i : ℕ) (h : i < count file at) where
    same-is : Same (width file at) (seen file at d) (value file at i) → masked e d ≡ block e i
    same-is s =
        masked-is ∙ same_number grown (number file (value_at i)) (seen file at d) (value file at i) (none i) grown-more (value-more i) (width file at) s
        ∙ sym (block-is i h)

    less-is : Smaller (width file at) (seen file at d) (value file at i) → masked e d < block e i
    less-is s =
        rw (masked-is, block-is i h)
        (smaller-number grown (number file (value_at i)) (seen file at d) (value file at i) (none i) grown-more (value-more i)
        (masked_small d file (start file at - 1) (at + 4) ds fs) (width file at) s)

    greater-is : Smaller (width file at) (value file at i) (seen file at d) → block e i < masked e d
    greater-is s =
        rw (masked-is, block-is i h)
        (smaller-number (number file (value_at i)) grown (value file at i) (seen file at d) (sym (none i)) (value-more i) grown-more
        (λ j. fs (value_at i + j)) (width file at) s)

    how : Stand (width file at) (seen file at d) (value file at i)
    how = stand (width file at) (seen file at d) (value file at i)

  -- some value is equal, or none from value i on
  any_holds : (m i k : ℕ) → i ≤ k → k < i + m → masked e d ≡ block e k → is_any_of (masked e d) e i m ≡ true
  unfolding is_any_of
  any_holds zero i k l h q = absurd (omega arith)
  any_holds (suc m) i k l h q =
      given (ℕ_discrete i k)
      (λ z. simp (eq-eqb (masked e d) (block e i) (q ∙ ap (block e) (sym z))))
      (λ z. or_right (eqb (masked e d) (block e i)) (is_any_of (masked e d) e (suc i) m) (any_holds m (suc i) k (omega arith) (omega arith) q))
    where
      or_right : (a b : Bool) → b ≡ true → (a || b) ≡ true
      or_right true b t = refl
      or_right false b t = t

  any_or : check file at ≡ 0 → (m i : ℕ) → 1 ≤ i → i + m ≤ count file at → Passes file at slots d ⊎ (is_any_of (masked e d) e i m ≡ false)
  unfolding is_any_of
  any_or c zero i l h = inr refl
  any_or c (suc m) i l h = by (how i (omega arith)) (any_or c m (suc i) (omega arith) (omega arith))
    where
      next : (masked e d ≡ block e i → ⊥) → Passes file at slots d ⊎ (is_any_of (masked e d) e (suc i) m ≡ false)
          → Passes file at slots d ⊎ ((eqb (masked e d) (block e i) || is_any_of (masked e d) e (suc i) m) ≡ false)
      next n (inl p) = inl p
      next n (inr f) = inr (simp (ne_eqb (masked e d) (block e i) n, f))

      by : Stand (width file at) (seen file at d) (value file at i) → Passes file at slots d ⊎ (is_any_of (masked e d) e (suc i) m ≡ false)
          → Passes file at slots d ⊎ ((eqb (masked e d) (block e i) || is_any_of (masked e d) e (suc i) m) ≡ false)
      by (same s) r = inl (equal i c l (omega arith) s)
      by (smaller s) r = next (λ z. omega (arith, less-is i (omega arith) s)) r
      by (larger s) r = next (λ z. omega (arith, greater-is i (omega arith) s)) r

  check_now : check_type e ≡ check file at
  check_now = check-is file at w.six w.sum

  passes_as : (b : Bool) → (check file at ≡ 0 → is_any_of (masked e d) e 1 (blocks e - 1) ≡ b)
      → (check file at ≡ 1 → ltb (masked e d) (block e 1) ≡ b)
      → (check file at ≡ 2 → ltb (block e 1) (masked e d) ≡ b) → passes e d ≡ b
  unfolding passes
  passes_as b f g h =
      given (ℕ_discrete (check file at) 0)
      (λ z. simp (eq-eqb (check_type e) 0 (check_now ∙ z)) (f z))
      (λ n. given (ℕ_discrete (check file at) 1)
      (λ o. simp (eq-eqb (check_type e) 1 (check_now ∙ o), ne_eqb (check_type e) 0 (λ z. n (sym check_now ∙ z))) (g o))
      (λ m.
      let two : check file at ≡ 2 = omega (arith, w.known) in
      simp (ne_eqb (check_type e) 0 (λ z. n (sym check_now ∙ z)), ne_eqb (check_type e) 1 (λ z. m (sym check_now ∙ z))) (h two)))

  -- an entry that passes by the file's bytes passes the test
  pub holds : Passes file at slots d → passes e d ≡ true
  holds (equal i c l h s) =
      passes_as true
      (λ z. any_holds (blocks e - 1) 1 i l (omega (arith, count-is file at w.six)) (same-is i h s))
      (λ z. absurd (omega arith))
      (λ z. absurd (omega arith))
  holds (less c s) =
      passes_as true (λ z. absurd (omega arith)) (λ z. lt-ltb _ _ (less-is 1 one-there s)) (λ z. absurd (omega arith))
  holds (greater c s) =
      passes_as true (λ z. absurd (omega arith)) (λ z. absurd (omega arith)) (λ z. lt-ltb _ _ (greater-is 1 one-there s))
  holds (slot_less v b o t k h) = absurd (omega (arith, o.1, w.known))
  holds (slot_greater v b o t k h) = absurd (omega (arith, o.1, w.known))

  -- and one that does not
  abbrev pub Tested : Type 0
  Tested = Passes file at slots d ⊎ (passes e d ≡ false)

  pub tested : Tested
  tested =
      given (ℕ_discrete (check file at) 0)
      (λ z. none_equal z (any_or z (blocks e - 1) 1 (omega arith) (omega (arith, count-is file at w.six, w.two))))
      (λ n. given (ℕ_discrete (check file at) 1)
      (λ o. is-less o (how 1 one-there))
      (λ m. is_greater_lem (omega (arith, w.known)) (how 1 one-there)))
    where
      none_equal : check file at ≡ 0 → Passes file at slots d ⊎ (is_any_of (masked e d) e 1 (blocks e - 1) ≡ false) → Tested
      none_equal c (inl p) = inl p
      none_equal c (inr f) = inr (passes_as false (λ z. f) (λ z. absurd (omega arith)) (λ z. absurd (omega arith)))

      not_less : check file at ≡ 1 → block e 1 ≤ masked e d → Tested
      not_less c h = inr (passes_as false (λ z. absurd (omega arith)) (λ z. le-ltb _ _ h) (λ z. absurd (omega arith)))

      is-less : check file at ≡ 1 → Stand (width file at) (seen file at d) (value file at 1) → Tested
      is-less c (same s) = not_less c (omega (arith, same-is 1 one-there s))
      is-less c (smaller s) = inl (less c s)
      is-less c (larger s) = not_less c (omega (arith, greater-is 1 one-there s))

      not_greater : check file at ≡ 2 → masked e d ≤ block e 1 → Tested
      not_greater c h = inr (passes_as false (λ z. absurd (omega arith)) (λ z. absurd (omega arith)) (λ z. le-ltb _ _ h))

      is_greater_lem : check file at ≡ 2 → Stand (width file at) (seen file at d) (value file at 1) → Tested
      is_greater_lem c (same s) = not_greater c (omega (arith, same-is 1 one-there s))
      is_greater_lem c (smaller s) = not_greater c (omega (arith, less-is 1 one-there s))
      is_greater_lem c (larger s) = inl (greater c s)
