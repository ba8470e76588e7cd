-- What it is to exceed a limit, in numbers. Assumes nothing.
use mathlib.Core.Path.{◌≡◌, refl, sym, ap, ◌∙◌}
use mathlib.Core.Bool.{Bool, true, false, cond, ◌&&◌, ◌||◌, or-true, or-false}
use mathlib.Core.List.{◌++◌}
use Prim.Native.Nat.{ℕ, ◌+◌, ◌-◌, ◌*◌, ◌<◌, ◌≤◌}
use native.Mathlib.Omega.{arith}
use borrow.Author.Tests.{ltb-true, ltb-false, lt-ltb, le-ltb}
use lib.Dec.{ltb}
use Rattle.money.specs.declared.AccumulatorAmount.{AccumulatorAmount}
use Rattle.money.specs.declared.Converted.{Converted}
use Rattle.money.specs.declared.Converted.TheVariants.{Amount, Over, NoEntry}
use Rattle.rules.specs.declared.Place.{Place}
use Rattle.rules.specs.declared.Values.{Values}
use Rattle.rules.specs.Rules.{Rules, four}
use Rattle.purchase.specs.declared.Purchase.{Purchase}
use Rattle.purchase.specs.Meter.{Meter, MeterRule, once}
use Rattle.limits.specs.Limits.{bit, packed, sum_exceeds, value_exceeds, exceeds, exceeds_lower, exceeds_upper}

-- a sum against a limit is the summand against what is left to it
pub left-to : (limit value more : ℕ) → value ≤ limit → ltb (limit - value) more ≡ ltb limit (value + more)
left-to limit value more h = by (ltb (limit - value) more) refl where
  by : (b : Bool) → ltb (limit - value) more ≡ b → b ≡ ltb limit (value + more)
  by true e = let p = ltb-true (limit - value) more e in sym (lt-ltb limit (value + more) (omega arith))
  by false e = let p = ltb-false (limit - value) more e in sym (le-ltb limit (value + more) (omega arith))

-- a value and what a test adds to it exceed a limit
abbrev pub sum_above : (limit value : ℕ) → Converted → Bool
sum_above limit value (Amount more) = ltb limit (value + more.0)
sum_above limit value Over = true
sum_above limit value NoEntry = ltb limit (value + 0)

-- what is above by itself is above with more
pub sum_alone : (limit value more : ℕ) → (ltb limit value || ltb limit (value + more)) ≡ ltb limit (value + more)
sum_alone limit value more = by (ltb limit value) refl where
  by : (b : Bool) → ltb limit value ≡ b → (b || ltb limit (value + more)) ≡ ltb limit (value + more)
  by true e = let h = ltb-true limit value e in sym (lt-ltb limit (value + more) (omega arith))
  by false e = refl

-- so an accumulator is tested by one sum, to which a purchase that isn't included or doesn't convert adds nothing
pub exceeds_sum : (limit value : ℕ) (include : Bool) (worth : Converted)
    → value_exceeds limit value include worth ≡ sum_above limit value (cond include worth NoEntry)
exceeds_sum limit value = by where
  alone : ltb limit value ≡ ltb limit (value + 0)
  alone = let e : value ≡ value + 0 = omega arith in ap (ltb limit) e

  by : (include : Bool) (worth : Converted) → value_exceeds limit value include worth ≡ sum_above limit value (cond include worth NoEntry)
  by true (Amount more) = sum_alone limit value more.0
  by true Over = or-true (ltb limit value)
  by true NoEntry = or-false (ltb limit value) ∙ alone
  by false worth = or-false (ltb limit value) ∙ alone

-- and a counter by one more if the purchase is included
pub exceeds-once : (limit value : ℕ) (include : Bool) → value_exceeds limit value include once ≡ ltb limit (value + bit include)
exceeds-once limit value true = exceeds_sum limit value true once
exceeds-once limit value false = exceeds_sum limit value false once

-- above a limit: by itself, with an amount that is included and converts, or with one that is over
pub data Above (limit value : ℕ) (include : Bool) (worth : Converted) : Type 0 where
  alone : limit < value → Above limit value include worth
  together : (more : AccumulatorAmount) → include ≡ true → worth ≡ Amount more → limit < value + more.0 → Above limit value include worth
  over : include ≡ true → worth ≡ Over → Above limit value include worth

-- within it: by itself, and with such an amount, which is not over
pub record Within (limit value : ℕ) (include : Bool) (worth : Converted) : Type 0 where
  pub alone : value ≤ limit
  pub together : (more : AccumulatorAmount) → include ≡ true → worth ≡ Amount more → value + more.0 ≤ limit
  pub not_over : include ≡ true → worth ≡ Over → ⊥

never : true ≡ false → ⊥
never e = let z : ◌≡◌ {A = ℕ} 0 1 = cc in omega arith

module _ (limit value : ℕ) where
  above : (b include : Bool) (worth : Converted) → ltb limit value ≡ b → (b || (include && sum_exceeds limit value worth)) ≡ true
      → Above limit value include worth
  above true include worth p e = alone (ltb-true limit value p)
  above false true (Amount more) p e = together more refl refl (ltb-true limit (value + more.0) e)
  above false true Over p e = over refl refl
  above false true NoEntry p e = let z : ◌≡◌ {A = ℕ} 0 1 = cc in absurd (omega arith)
  above false false worth p e = let z : ◌≡◌ {A = ℕ} 0 1 = cc in absurd (omega arith)

  within : (b include : Bool) (worth : Converted) → ltb limit value ≡ b → (b || (include && sum_exceeds limit value worth)) ≡ false
      → Within limit value include worth
  within true include worth p e = let z : ◌≡◌ {A = ℕ} 0 1 = cc in absurd (omega arith)
  within false include worth p e =
      record {
        alone = ltb-false limit value p;
        together = λ more i w. ltb-false limit (value + more.0) (simp (i, w) at e);
        not_over = λ i w. never (simp (i, w) at e);
      }

  kept : (include : Bool) (worth : Converted) → ((more : AccumulatorAmount) → include ≡ true → worth ≡ Amount more → value + more.0 ≤ limit)
      → (include ≡ true → worth ≡ Over → ⊥) → (include && sum_exceeds limit value worth) ≡ false
  kept true (Amount more) h o = le-ltb limit (value + more.0) (h more refl refl)
  kept true Over h o = absurd (o refl refl)
  kept true NoEntry h o = refl
  kept false worth h o = refl

-- a value and an amount exceed a limit exactly if they are above it, and don't exactly if they are within
module _ (limit value : ℕ) (include : Bool) (worth : Converted) where
  pub exceeds-above : value_exceeds limit value include worth ≡ true → Above limit value include worth
  exceeds-above e = above limit value (ltb limit value) include worth refl e

  pub above-exceeds : Above limit value include worth → value_exceeds limit value include worth ≡ true
  above-exceeds (alone h) = simp (lt-ltb limit value h)
  above-exceeds (together more i w h) = simp (i, w, lt-ltb limit (value + more.0) h, or-true)
  above-exceeds (over i w) = simp (i, w, or-true)

  pub kept-within : value_exceeds limit value include worth ≡ false → Within limit value include worth
  kept-within e = within limit value (ltb limit value) include worth refl e

  pub within-kept : Within limit value include worth → value_exceeds limit value include worth ≡ false
  within-kept w = rw (le-ltb limit value w.alone) (kept limit value include worth w.together w.not_over)

-- of a meter: one that is active is tested, any other exceeds no limit
module _ (rule : MeterRule) (include : Bool) (worth : Converted) (limit value : ℕ) where
  pub active-exceeds : rule.active ≡ true → exceeds rule include worth limit value ≡ value_exceeds limit value include worth
  active-exceeds e = simp e

  pub inactive-exceeds : rule.active ≡ false → exceeds rule include worth limit value ≡ false
  inactive-exceeds e = simp e

  -- an active one that doesn't exceed a limit is within it
  pub active-within : rule.active ≡ true → exceeds rule include worth limit value ≡ false → Within limit value include worth
  active-within active e = kept-within limit value include worth (sym (active-exceeds active) ∙ e)

-- the limits of four meters, side by side
module _ (rules : Rules) (place : Place) (values : Values) (purchase : Purchase) (meter : ℕ → Meter) where
  abbrev lower : ℕ → Bool
  lower i = exceeds_lower rules place values purchase (meter i)

  abbrev upper : ℕ → Bool
  upper i = exceeds_upper rules place values purchase (meter i)

  pub four-packed : {w x y z : ℕ} → w ≡ bit (lower 0) + bit (upper 0) * 16 → x ≡ bit (lower 1) + bit (upper 1) * 16
      → y ≡ bit (lower 2) + bit (upper 2) * 16 → z ≡ bit (lower 3) + bit (upper 3) * 16
      → w + x * 2 + y * 4 + z * 8 ≡ packed (four lower ++ four upper)
  four-packed p q r s = omega arith
