-- The bytes that hold fields which are bytes are bytes. Assumes nothing.
use mathlib.Core.Path.{◌≡◌, refl, sym, subst}
use mathlib.Core.List.{List}
use Prim.Native.Nat.{ℕ, ◌+◌, ◌-◌, ◌/◌, ◌%◌, ◌≤◌, ◌<◌}
use native.Mathlib.Omega.{arith}
use lib.ListN.{length, get_or-eq_default}
use Rattle.iad.specs.declared.Iad.{Iad}
use Rattle.readback.specs.WellFormed.{octet, Octets, OfBytes, Writable, LaidOut}
use Rattle.readback.proofs.Places.{one_more_lem, sides, on}

-- what holds of n places from a base on
from : (P : ℕ → Type 0) (base n : ℕ) → ((j : ℕ) → j < n → P (base + j)) → (i : ℕ) → base ≤ i → i < base + n → P i
from P base n p i h l = let same : base + (i - base) ≡ i = omega arith in subst P same (p (i - base) (omega arith))

module _ (iad : Iad) (s : List ℕ) (w : Writable iad) (o : OfBytes iad) (l : LaidOut iad s) where
  abbrev Fine : ℕ → Type 0
  Fine i = octet s i < 256

  none : (base j : ℕ) → j < 0 → Fine (base + j)
  none base j h = absurd (omega arith)

  -- fixed bytes, key, CVR
  heads : (i : ℕ) → i < 8 → Fine (0 + i)
  heads =
      let step = one_more_lem (λ i. Fine (0 + i)) in
      let fifth = w.fifth in
      step 7 (step 6 (step 5 (step 4 (step 3 (step 2 (step 1 (step 0 (none 0)
      (rw l.opens (omega arith))) (rw l.format (omega arith))) (rw l.key o.key)) (rw l.cvr1 o.cvr1)) (rw l.cvr2 o.cvr2))
      (rw l.cvr3 o.cvr3)) (rw l.cvr4 o.cvr4)) (rw (l.cvr5, fifth) (omega arith))

  pairs : (i : ℕ) → i < 6 → Fine (8 + i)
  pairs i h = let u = l.uppers i h in omega arith

  -- counters, 0F, profile
  tails : (i : ℕ) → i < 4 → Fine (14 + i)
  tails =
      let step = one_more_lem (λ i. Fine (14 + i)) in
      let most = w.profile.most in
      step 3 (step 2 (step 1 (step 0 (none 14) (rw l.first o.first)) (rw l.second o.second)) (rw l.divides (omega arith)))
      (rw l.profile (omega arith))

  pub octets : Octets s
  octets i =
      let size = l.size in
      on (sides 8 i)
      (λ h8. on (sides 14 i)
      (λ h14. on (sides 18 i)
      (λ h18. on (sides 32 i)
      (λ h32. rw (get_or-eq_default s 0 {n = i} (omega arith)) (omega arith))
      (λ l32. from Fine 18 14 (λ j k. rw (l.zeros j k) (omega arith)) i h18 (omega arith)))
      (λ l18. from Fine 14 4 tails i h14 (omega arith)))
      (λ l14. from Fine 8 6 pairs i h8 (omega arith)))
      (λ l8. from Fine 0 8 heads i (omega arith) (omega arith))
