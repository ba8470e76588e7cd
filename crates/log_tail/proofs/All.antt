-- So many are all so, or one is not. Assumes nothing.
use mathlib.Core.Path.{◌≡◌, refl, sym, ap, subst, ◌∙◌}
use mathlib.Core.Bool.{Bool, true, false, ◌&&◌, and-false}
use Prim.Native.Nat.{ℕ, zero, suc, ◌<◌}
use native.Mathlib.Omega.{arith}
use borrow.Author.Tests.{eqb-true, eqb-false}
use lib.Dec.{eqb}
use Rattle.std.proofs.Common.{zero-add}
use lib.ListN.{length}
use Rattle.std.specs.Bool.{MatchBool}
use Rattle.std.specs.List.{range_with_len, AllWithin, HoldsAt}
use Rattle.std.proofs.lemmas.List.FromFn.{length-range_with_len, get_or-range_with_len}
use Rattle.log_tail.specs.LogTail.{all}

pub not_all : (n i : ℕ) (test : ℕ → Bool) → i < n → test i ≡ false → all n test ≡ false
not_all zero i test h e = absurd (omega arith)
not_all (suc n) i test h e = by (eqb i n) refl (λ l. not_all n i test l e) where
  by : (b : Bool) → eqb i n ≡ b → (i < n → all n test ≡ false) → (all n test && test n) ≡ false
  by true q before = let is = eqb-true i n q in ap (λ t. all n test && t) (subst (λ (k : ℕ). test k ≡ false) is e) ∙ and-false (all n test)
  by false q before = let other = eqb-false i n q in ap (λ t. t && test n) (before (omega (arith, other)))

each : (n : ℕ) (test : ℕ → Bool) → ((i : ℕ) → i < n → test i ≡ true) → all n test ≡ true
each zero test so = refl
each (suc n) test so = rw (each n test (λ i l. so i (omega arith)), so n (omega arith)) refl

-- so an iterator's `all` over them is
pub decided : (n : ℕ) (test : ℕ → Bool) (r : Bool)
    → MatchBool r (AllWithin (λ i. test i ≡ true) (range_with_len 0 n) 0 (length (range_with_len 0 n)))
    ((k : ℕ) × (k < length (range_with_len 0 n)) × HoldsAt (λ i. test i ≡ false) (range_with_len 0 n) k)
    → r ≡ all n test
decided n test true so = sym (each n test (λ i h. subst (λ (k : ℕ). test k ≡ true) (get_or-range_with_len 0 n i 0 h ∙ zero-add i) (so i 0 (omega arith) (omega (arith, length-range_with_len 0 n)))))
decided n test false other =
    let below : other.0 < n = omega (arith, length-range_with_len 0 n, other.1) in
    sym (not_all n other.0 test below (subst (λ (k : ℕ). test k ≡ false) (get_or-range_with_len 0 n other.0 0 below ∙ zero-add other.0) (other.2 0)))
