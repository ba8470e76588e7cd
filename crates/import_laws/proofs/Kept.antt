-- What a record that is taken over keeps; what never gets through. Assumes nothing.
use mathlib.Core.Path.{◌≡◌, refl, subst}
use mathlib.Core.Bool.{Bool, true, false, cond}
use Prim.Native.Nat.{ℕ}
use native.Mathlib.Omega.{arith}
use lib.Dec.{T}
use lib.Ieee.{binary64, fits}
use lib.Ieee.Positive.{positive}
use Rattle.money.specs.declared.Rate.{Rate}
use Rattle.mta.specs.Mta.{mta_of}
use Rattle.mta.proofs.Whole.{taken-whole}
use Rattle.rate.specs.Rate.{rate_of}
use Rattle.rate.proofs.Request.{rate-taken, never}
use Rattle.refusal.specs.declared.Refusal.{Refusal}
use Rattle.refusal.specs.declared.Refusal.TheVariants.{OutOfRange, BadRate, BadMta}
use Rattle.import.specs.declared.OldRecord.{OldRecord}
use Rattle.import.specs.declared.NewRecord.{NewRecord}
use Rattle.import.specs.Import.{are_currencies, with_mta, with_rate, take_over}
use Rattle.import_laws.specs.Moved.{Moved}
use Rattle.std.specs.Prelude.{Err, None, Ok, Option, Some}
use Rattle.money.specs.declared.AccumulatorAmount.{AccumulatorAmount}
use Rattle.rate.specs.declared.Pair.{Pair}

differ : (refusal : Refusal) (new : NewRecord) → Err refusal ≡ Ok new → ⊥
differ refusal new e = let z : ◌≡◌ {A = ℕ} 0 1 = cc in omega arith

module _ (old : OldRecord) (new : NewRecord) (rate-held : T (fits binary64 old.rate)) (mta-held : T (fits binary64 old.mta)) where
  abbrev conversion : ℕ → ℕ → Rate
  conversion digits shift = record { from = old.from; to = old.to; digits = digits; shift = shift }

  by-mta : (digits shift : ℕ) → are_currencies old.from old.to ≡ true → rate_of old.rate ≡ Some (record { digits = digits; shift = shift })
      → (mta : Option AccumulatorAmount) → mta_of old.mta ≡ mta → with_mta (conversion digits shift) mta ≡ Ok new
      → Moved old new
  by-mta digits shift codes found None e h = absurd (differ BadMta new h)
  by-mta digits shift codes found (Some amount) e h =
      let whole = taken-whole old.mta mta-held amount.0 e in
      let is : record { mta = amount; conversion = conversion digits shift } ≡ new = cc in
      subst (λ (n : NewRecord). Moved old n) is
      (record { codes = codes; from = refl; to = refl; taken = rate-taken old.rate rate-held digits shift found; same = whole.0; most = whole.1 })

  by-rate : are_currencies old.from old.to ≡ true → (found : Option Pair) → rate_of old.rate ≡ found → with_rate old found ≡ Ok new
      → Moved old new
  by-rate codes None e h = absurd (differ BadRate new h)
  by-rate codes (Some pair) e h = by-mta pair.digits pair.shift codes e (mta_of old.mta) refl h

  by_codes : (codes : Bool) → are_currencies old.from old.to ≡ codes
      → cond codes (with_rate old (rate_of old.rate)) (Err OutOfRange) ≡ Ok new → Moved old new
  by_codes true e h = by-rate e (rate_of old.rate) refl h
  by_codes false e h = absurd (differ OutOfRange new h)

  pub kept : take_over old ≡ Ok new → Moved old new
  unfolding take_over
  kept h = by_codes (are_currencies old.from old.to) refl h

  through : (codes : Bool) → cond codes (Err BadRate) (Err OutOfRange) ≡ Ok new → ⊥
  through true h = differ BadRate new h
  through false h = differ OutOfRange new h

  -- not-a-number, infinities, zero rates and negative ones never get through
  pub never_through : (T (positive old.rate) → ⊥) → take_over old ≡ Ok new → ⊥
  unfolding take_over
  never_through low h =
      let codes = are_currencies old.from old.to in
      through codes
      (subst (λ (found : Option Pair). cond codes (with_rate old found) (Err OutOfRange) ≡ Ok new) (never old.rate rate-held low) h)
