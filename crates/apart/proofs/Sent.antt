-- The IAD does not show the value of a meter that is not sent. Assumes nothing.
use mathlib.Core.Path.{◌≡◌, refl, ap, ◌∙◌}
use mathlib.Core.Bool.{Bool, true, false, cond, ◌||◌}
use Prim.Native.Nat.{ℕ, ◌+◌, ◌-◌}
use native.Mathlib.Omega.{arith}
use borrow.Author.Tests.{eqb-false}
use lib.Dec.{eqb, ltb}
use Rattle.iad.specs.declared.Cvr.{Cvr}
use Rattle.rules.specs.declared.Place.{Place}
use Rattle.rules.specs.declared.Sent.{Sent}
use Rattle.rules.specs.declared.Values.{Values}
use Rattle.rules.specs.Rules.{Rules, profile_at}
use Rattle.purchase.specs.Meter.{Meter, accumulator, counter, cyclic}
use Rattle.cryptogram.specs.Cryptogram.{sent_amount, sent_count, sent_iad}
use Rattle.apart.specs.Off.{IsUnsent, IsOff}
use Rattle.apart.proofs.Values.{Beside}

-- ---- what a number names is another meter

amount_another : (sent : Sent) (x : Meter) → IsUnsent sent x → (k : ℕ) → sent.accumulator ≡ k + 1 → accumulator k ≡ x → ⊥
amount_another sent (accumulator i) unsent k n e = let s : k ≡ i = cc in unsent (n ∙ ap (λ (m : ℕ). m + 1) s)
amount_another sent (counter i) unsent k n e = let z : ◌≡◌ {A = ℕ} 0 1 = cc in omega arith
amount_another sent (cyclic i) unsent k n e = let z : ◌≡◌ {A = ℕ} 0 1 = cc in omega arith

first_another : (sent : Sent) (x : Meter) → IsUnsent sent x → (k : ℕ) → sent.first ≡ k + 1 → counter k ≡ x → ⊥
first_another sent (accumulator i) unsent k n e = let z : ◌≡◌ {A = ℕ} 0 1 = cc in omega arith
first_another sent (counter i) unsent k n e = let s : k ≡ i = cc in unsent.0 (n ∙ ap (λ (m : ℕ). m + 1) s)
first_another sent (cyclic i) unsent k n e = let z : ◌≡◌ {A = ℕ} 0 1 = cc in omega arith

second_another : (sent : Sent) (x : Meter) → IsUnsent sent x → (k : ℕ) → sent.second ≡ k + 1 → counter k ≡ x → ⊥
second_another sent (accumulator i) unsent k n e = let z : ◌≡◌ {A = ℕ} 0 1 = cc in omega arith
second_another sent (counter i) unsent k n e = let s : k ≡ i = cc in unsent.1 (n ∙ ap (λ (m : ℕ). m + 1) s)
second_another sent (cyclic i) unsent k n e = let z : ◌≡◌ {A = ℕ} 0 1 = cc in omega arith

module _ (x : Meter) (v w : Values) (b : Beside x v w) where
  amount-same : (n : ℕ) → ((k : ℕ) → n ≡ k + 1 → accumulator k ≡ x → ⊥) → sent_amount v.accumulators n ≡ sent_amount w.accumulators n
  amount-same n another = by (eqb n 0) refl where
    by : (t : Bool) → eqb n 0 ≡ t → sent_amount v.accumulators n ≡ sent_amount w.accumulators n
    by true e = rw e
    by false e =
        let some = eqb-false n 0 e in
        ap (λ (m : ℕ). cond (eqb n 0 || ltb 4 n) (record { 0 = 0 }) (record { 0 = m }))
        (b.others (accumulator (n - 1)) (another (n - 1) (omega arith)))

  count_same : (n : ℕ) → ((k : ℕ) → n ≡ k + 1 → counter k ≡ x → ⊥) → sent_count v.counters n ≡ sent_count w.counters n
  count_same n another = by (eqb n 0) refl where
    by : (t : Bool) → eqb n 0 ≡ t → sent_count v.counters n ≡ sent_count w.counters n
    by true e = rw e
    by false e =
        let some = eqb-false n 0 e in
        ap (λ (m : ℕ). cond (eqb n 0 || ltb 4 n) 0 m) (b.others (counter (n - 1)) (another (n - 1) (omega arith)))

  pub iad_same : (rules : Rules) (place : Place) (cvr : Cvr) → IsOff rules x place → sent_iad rules place v cvr ≡ sent_iad rules place w cvr
  unfolding sent_iad
  iad_same rules place cvr off =
      let sent = (profile_at rules place).sent in
      let a = amount-same sent.accumulator (amount_another sent x off.unsent) in
      let f = count_same sent.first (first_another sent x off.unsent) in
      let s = count_same sent.second (second_another sent x off.unsent) in
      λ i. record { accumulator = a i; key = rules.key; cvr = cvr; first = f i; second = s i; profile = (profile_at rules place).number }
