-- What two set-ups' bodies that are the same but for a start share. Assumes nothing.
use mathlib.Core.Path.{◌≡◌, refl, sym, ap, ap₂, ◌∙◌}
use mathlib.Core.Bool.{Bool, true, false}
use mathlib.Core.Logic.{◌⊎◌, inl, inr}
use mathlib.Core.List.{List}
use Prim.Native.Nat.{ℕ, zero, suc, ◌+◌, ◌-◌, ◌*◌, ◌≤◌, ◌<◌}
use native.Mathlib.Omega.{arith}
use borrow.Author.Tests.{ltb-true, ltb-false}
use lib.Dec.{ltb}
use lib.ListN.{length, drop, length-drop}
use lib.Seq.{get_or-drop, ext_get_or}
use Rattle.wire.specs.Wire.{byte, number}
use Rattle.purchase.specs.Meter.{Meter, accumulator, counter, cyclic}
use Rattle.apart_papers.specs.Start.{IsSwitch, SameSetups}

pub same_number : (s t : List ℕ) (at n : ℕ) → ((k : ℕ) → k < n → byte s (at + k) ≡ byte t (at + k)) → number s at n ≡ number t at n
unfolding number
same_number s t at zero h = refl
same_number s t at (suc n) h = ap₂ (λ (a b : ℕ). a * 256 + b) (same_number s t at n (λ k l. h k (omega arith))) (h n (omega arith))

-- all but the starts: the head's first bytes, the currencies, and what stands behind the head
pub record Shared (s t : List ℕ) : Type 0 where
  pub as_long : length s ≡ length t
  pub early : (k : ℕ) → k < 8 → byte s k ≡ byte t k
  pub currencies : (j : ℕ) → j < 4 → number s (8 + 10 * j) 2 ≡ number t (8 + 10 * j) 2
  pub late : (k : ℕ) → 52 ≤ k → byte s k ≡ byte t k

pub shared : (x : Meter) → IsSwitch x → (s t : List ℕ) → SameSetups x s t → Shared s t
shared (accumulator i) l s t same =
    record {
      as_long = same.as_long;
      early = λ k h. same.elsewhere k (inl (omega arith));
      currencies = λ j h. same_number s t (8 + 10 * j) 2 (λ k b. same.elsewhere (8 + 10 * j + k) (beside j k h b));
      late = λ k h. same.elsewhere k (inr (omega arith));
    }
  where
    beside : (j k : ℕ) → j < 4 → k < 2 → (8 + 10 * j + k < 10 + 10 * i) ⊎ (10 + 10 * i + 8 ≤ 8 + 10 * j + k)
    beside j k h b = by (ltb i j) refl where
      by : (b : Bool) → ltb i j ≡ b → (8 + 10 * j + k < 10 + 10 * i) ⊎ (10 + 10 * i + 8 ≤ 8 + 10 * j + k)
      by true e = let m = ltb-true i j e in inr (omega arith)
      by false e = let m = ltb-false i j e in inl (omega arith)
shared (counter i) l s t same =
    record {
      as_long = same.as_long;
      early = λ k h. same.elsewhere k (inl (omega arith));
      currencies = λ j h. same_number s t (8 + 10 * j) 2 (λ k b. same.elsewhere (8 + 10 * j + k) (inl (omega arith)));
      late = λ k h. same.elsewhere k (inr (omega arith));
    }
shared (cyclic i) l s t same = absurd l

module _ (s t : List ℕ) (same : Shared s t) where
  pub late-number : (at n : ℕ) → 52 ≤ at → number s at n ≡ number t at n
  late-number at n h = same_number s t at n (λ k l. same.late (at + k) (omega arith))

  pub early_number : (at n : ℕ) → at + n ≤ 8 → number s at n ≡ number t at n
  early_number at n h = same_number s t at n (λ k l. same.early (at + k) (omega arith))

  pub late_drop : (at : ℕ) → 52 ≤ at → drop at s ≡ drop at t
  late_drop at h =
      ext_get_or 0 (drop at s) (drop at t) (length-drop at s ∙ ap (λ (n : ℕ). n - at) same.as_long ∙ sym (length-drop at t))
      (λ k l. get_or-drop at s k 0 ∙ same.late (at + k) (omega arith) ∙ sym (get_or-drop at t k 0))
