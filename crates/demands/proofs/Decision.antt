-- The card's decision bits are the flags of document 01's checks, read in the bytes, and its decision is the table's. Assumes nothing.
use mathlib.Core.Path.{◌≡◌, refl, sym, ap, ap₂, ◌∙◌}
use mathlib.Core.Bool.{Bool, true, false, cond, not, ◌&&◌, ◌||◌}
use mathlib.Core.List.{List, [], ◌∷◌}
use Prim.Native.Nat.{ℕ, zero, suc, ◌+◌, ◌*◌, ◌/◌, ◌%◌, ◌≤◌, ◌<◌, min}
use native.Mathlib.Nat.{div-one, zero-add}
use native.Mathlib.Omega.{arith}
use borrow.Author.Tests.{eqb-true, eqb-false, eq-eqb, ne_eqb}
use lib.Bits.{bit_and, and_step}
use lib.Dec.{ltb, eqb}
use Rattle.money.specs.declared.Converted.{Converted}
use Rattle.money.specs.declared.Converted.TheVariants.{Amount, Over, NoEntry}
use Rattle.money.specs.Money.{max, convert_of}
use Rattle.rules.specs.declared.Place.{Place}
use Rattle.rules.specs.declared.Values.{Values}
use Rattle.rules.specs.declared.Masks.{Masks}
use Rattle.rules.specs.declared.MaximumAmount.{MaximumAmount}
use Rattle.rules.specs.Rules.{Rules, four}
use Rattle.setup.specs.Setup.{profile_in}
use Rattle.purchase.specs.declared.Timing.{Timing}
use Rattle.purchase.specs.declared.Timing.TheVariants.{Undated, InOrder, DateError}
use Rattle.purchase.specs.declared.Purchase.{Purchase}
use Rattle.purchase.specs.Meter.{Meter, accumulator, counter, cyclic, IsMeter, MeterRule, rule_of, value_of, is_tested, is_date_error}
use Rattle.purchase.specs.Meter.{takes_up as card_takes_up, worth_to as card_worth}
use Rattle.state.specs.declared.History.{History}
use Rattle.limits.specs.Limits.{bit, packed, sum_exceeds, exceeds_lower, exceeds_upper, exceeds as card_exceeds}
use Rattle.checks.specs.Checks.{spent_exceeds, maximum_exceeded}
use Rattle.limits.specs.Limits.{accumulators_lower, accumulators_upper, counters_lower, counters_upper, dating_flags}
use Rattle.checks.specs.Checks.{cashback_found, decision_bits}
use Rattle.checks.specs.Checks.{decision_flags, meets_mask}
use Rattle.state.specs.declared.Kind.{Kind}
use Rattle.state.specs.declared.Kind.TheVariants.{Aac, Tc, Arqc}
use Rattle.first.specs.First.{decision, is_offline_only}
use Rattle.demands.specs.Setup.{Setup, byte_at, number_at, AcceptedSetup}
use Rattle.demands.specs.Conversation.{rules_by}
use Rattle.demands.specs.Audit.{takes_part}
use Rattle.demands.specs.Decision.{exceeds_with, exceeds, exceeds_mta, each_of, above_lower, above_upper, is_error, finds_cashback, flags, meets, Decides}
use Rattle.demands.specs.Decision.{aac_requested, meets-decline, arqc_requested, meets-default, offline-approves, meets-online, online-approves}
use Rattle.demands.proofs.Bytes.{Stands, maximum-is, cashback_is, rule_read, rule-read, as_read, converts_to, worth-read}
use Rattle.demands.proofs.Moves.{takes_part_lem, takes_up_lem}

-- ---- a mask that is met

module _ (m : ℕ) (small : m < 2) (rest : Bool) where
  joined : (flag : Bool) (x : ℕ) → not (eqb x 0) ≡ rest → not (eqb (x * 2 + min (bit flag) m) 0) ≡ ((flag && eqb m 1) || rest)
  joined false zero e = rw (eq-eqb (0 * 2 + min 0 m) 0 (omega arith)) e
  joined false (suc x) e = rw (ne_eqb (suc x * 2 + min 0 m) 0 (λ z. omega arith)) (sym (ap not (ne_eqb (suc x) 0 (λ z. omega arith))) ∙ e)
  joined true x e = by (eqb m 1) refl x e where
    by : (b : Bool) → eqb m 1 ≡ b → (x : ℕ) → not (eqb x 0) ≡ rest → not (eqb (x * 2 + min 1 m) 0) ≡ (b || rest)
    by true h x e = let o = eqb-true m 1 h in rw (ne_eqb (x * 2 + min 1 m) 0 (λ z. omega arith))
    by false h zero e = let o : m ≡ 0 = omega (arith, eqb-false m 1 h) in rw (eq-eqb (0 * 2 + min 1 m) 0 (omega arith)) e
    by false h (suc x) e = rw (ne_eqb (suc x * 2 + min 1 m) 0 (λ z. omega arith)) (sym (ap not (ne_eqb (suc x) 0 (λ z. omega arith))) ∙ e)

pub meets-is : (fs : List Bool) (mask : ℕ) → meets_mask (packed fs) mask ≡ meets fs mask
meets-is [] mask = refl
meets-is (flag ∷ fs) mask =
    let h : (bit flag + 2 * packed fs) / 2 ≡ packed fs = half flag in
    let o : (bit flag + 2 * packed fs) % 2 ≡ bit flag = odd flag in
    let step : bit_and (packed (flag ∷ fs)) mask ≡ bit_and (packed fs) (mask / 2) * 2 + min (bit flag) (mask % 2) =
    and_step (packed (flag ∷ fs)) mask ∙ ap₂ (λ (a b : ℕ). bit_and a (mask / 2) * 2 + min b (mask % 2)) h o in
    ap (λ (n : ℕ). not (eqb n 0)) step
    ∙ joined (mask % 2) (omega arith) (meets fs (mask / 2)) flag (bit_and (packed fs) (mask / 2)) (meets-is fs (mask / 2))
    ∙ rw div-one
  where
    half : (flag : Bool) → (bit flag + 2 * packed fs) / 2 ≡ packed fs
    half true = omega arith
    half false = omega arith

    odd : (flag : Bool) → (bit flag + 2 * packed fs) % 2 ≡ bit flag
    odd true = omega arith
    odd false = omega arith

-- ---- an amount that converts, one that is over, or none

sum_is : (limit value : ℕ) (worth : Converted) → sum_exceeds limit value worth ≡ exceeds_with limit value (as_read worth)
sum_is limit value (Amount more) = refl
sum_is limit value Over = refl
sum_is limit value NoEntry = refl

spent_is : (limit : ℕ) (worth : Converted) → spent_exceeds limit worth ≡ exceeds_with limit 0 (as_read worth)
spent_is limit (Amount spent) = rw zero-add
spent_is limit Over = refl
spent_is limit NoEntry = refl

error_is : (timing : Timing) → is_date_error timing ≡ is_error timing
error_is Undated = refl
error_is InOrder = refl
error_is (DateError date) = refl

-- ---- the flags

module _ (setup : Setup) (good : AcceptedSetup setup) (place : Place) (at : ℕ) (stands : Stands setup place at) (values : Values) (purchase : Purchase)
    (small : purchase.amount.0 ≤ max) where
  abbrev rules : Rules
  rules = rules_by setup

  abbrev value : Meter → ℕ
  value = value_of values

  -- a meter exceeds a limit of its rule by the card as by the bytes
  meter_flag : (limit : MeterRule → ℕ) (meter : Meter) → IsMeter meter
      → (is_tested purchase meter
      && card_exceeds (rule_of rules place meter) (card_takes_up rules purchase meter && (rule_of rules place meter).include)
      (card_worth rules purchase meter) (limit (rule_of rules place meter)) (value meter))
      ≡ exceeds setup at purchase (value meter) (limit (rule_read setup at meter)) meter
  meter_flag limit meter l =
      let read = rule_read setup at meter in
      ap₂ (λ part (rule : MeterRule).
      part && card_exceeds rule (card_takes_up rules purchase meter && rule.include) (card_worth rules purchase meter) (limit rule) (value meter))
      (takes_part_lem purchase meter) (rule-read setup place at stands meter l)
      ∙ ap₂ (λ up b. takes_part purchase meter && (read.active && (ltb (limit read) (value meter) || (up && read.include && b))))
      (takes_up_lem setup purchase meter l)
      (sum_is (limit read) (value meter) (card_worth rules purchase meter)
      ∙ ap (exceeds_with (limit read) (value meter)) (worth-read setup good purchase small meter l))

  mta_flag : maximum_exceeded rules place purchase ≡ exceeds_mta setup at purchase
  unfolding maximum_exceeded profile_in
  mta_flag =
      let in-currency : ℕ → Converted = λ currency. convert_of purchase.amount purchase.currency currency rules.rates in
      ap (λ (m : MaximumAmount). m.on && spent_exceeds m.amount.0 (in-currency m.currency)) (maximum-is setup place at stands)
      ∙ ap (λ b. eqb (byte_at setup (at + 13)) 1 && b)
      (spent_is (number_at setup (at + 16) 8) (in-currency (number_at setup (at + 14) 2))
      ∙ ap (exceeds_with (number_at setup (at + 16) 8) 0) (converts_to setup good purchase (number_at setup (at + 14) 2) small))

  four_same : (f g : ℕ → Bool) → ((i : ℕ) → i < 4 → f i ≡ g i) → four f ≡ four g
  four_same f g h = simp (h 0 (omega arith), h 1 (omega arith), h 2 (omega arith), h 3 (omega arith))

  lowers : (meter : ℕ → Meter) → ((i : ℕ) → i < 4 → IsMeter (meter i))
      → four (λ i. exceeds_lower rules place values purchase (meter i)) ≡ each_of meter (above_lower setup at purchase value)
  lowers meter is = four_same _ (λ i. above_lower setup at purchase value (meter i)) (λ i l. meter_flag (λ rule. rule.lower) (meter i) (is i l))

  uppers : (meter : ℕ → Meter) → ((i : ℕ) → i < 4 → IsMeter (meter i))
      → four (λ i. exceeds_upper rules place values purchase (meter i)) ≡ each_of meter (above_upper setup at purchase value)
  uppers meter is = four_same _ (λ i. above_upper setup at purchase value (meter i)) (λ i l. meter_flag (λ rule. rule.upper) (meter i) (is i l))

  accumulators-lower : accumulators_lower rules place values purchase ≡ each_of accumulator (above_lower setup at purchase value)
  unfolding accumulators_lower
  accumulators-lower = lowers accumulator (λ i l. l)

  accumulators-upper : accumulators_upper rules place values purchase ≡ each_of accumulator (above_upper setup at purchase value)
  unfolding accumulators_upper
  accumulators-upper = uppers accumulator (λ i l. l)

  counters-lower : counters_lower rules place values purchase ≡ each_of counter (above_lower setup at purchase value)
  unfolding counters_lower
  counters-lower = lowers counter (λ i l. l)

  counters-upper : counters_upper rules place values purchase ≡ each_of counter (above_upper setup at purchase value)
  unfolding counters_upper
  counters-upper = uppers counter (λ i l. l)

  dating : dating_flags rules place values purchase
      ≡ above_upper setup at purchase value (cyclic 0) ∷ above_upper setup at purchase value (cyclic 1) ∷ is_error purchase.timing ∷ []
  unfolding dating_flags
  dating =
      let upper : (i : ℕ) → i < 2 → exceeds_upper rules place values purchase (cyclic i) ≡ above_upper setup at purchase value (cyclic i) =
      λ i l. meter_flag (λ rule. rule.upper) (cyclic i) l in
      simp (upper 0 (omega arith), upper 1 (omega arith), error_is purchase.timing)

  cashback_flag : cashback_found rules place purchase ≡ finds_cashback setup at purchase
  cashback_flag = ap (λ checks. checks && purchase.cashback) (cashback_is setup place at stands)

  flags-are : (history : History) → decision_flags rules place values purchase history ≡ flags setup at purchase value history
  unfolding flags
  flags-are history = simp (mta_flag, accumulators-lower, accumulators-upper, counters-lower, counters-upper, dating, cashback_flag)

  pub adr_is : (history : History) → decision_bits rules place values purchase history ≡ packed (flags setup at purchase value history)
  unfolding decision_bits
  adr_is history = ap packed (flags-are history)

  -- a mask is met by the card's bits as by the flags
  pub met-is : (history : History) (mask : ℕ)
      → meets_mask (decision_bits rules place values purchase history) mask ≡ meets (flags setup at purchase value history) mask
  met-is history mask = ap (λ adr. meets_mask adr mask) (adr_is history) ∙ meets-is (flags setup at purchase value history) mask

-- ---- the table

module _ (adr : ℕ) (masks : Masks) (terminal : ℕ) where
  abbrev Decided : ℕ → Kind → Type 0
  Decided requested kind =
      Decides requested (meets_mask adr masks.online) (meets_mask adr masks.decline) (meets_mask adr masks.default) (is_offline_only terminal) kind

  tc_decided : (f : Bool) → meets_mask adr masks.decline ≡ false → is_offline_only terminal ≡ f
      → Decided 1 (cond f (cond (meets_mask adr masks.default) Aac Tc) (cond (meets_mask adr masks.online) Arqc Tc))
  tc_decided true d f = by (meets_mask adr masks.default) refl where
    by : (b : Bool) → meets_mask adr masks.default ≡ b → Decided 1 (cond b Aac Tc)
    by true e = meets-default refl d f e
    by false e = offline-approves refl d f e
  tc_decided false d f = by (meets_mask adr masks.online) refl where
    by : (b : Bool) → meets_mask adr masks.online ≡ b → Decided 1 (cond b Arqc Tc)
    by true e = meets-online refl d f e
    by false e = online-approves refl d f e

  pub decided : (requested : ℕ) → requested ≤ 2 → Decided requested (decision requested adr masks terminal)
  unfolding decision
  decided zero l = aac_requested refl
  decided (suc zero) l = by (meets_mask adr masks.decline) refl where
    by : (b : Bool) → meets_mask adr masks.decline ≡ b
        → Decided 1 (cond b Aac (cond (is_offline_only terminal) (cond (meets_mask adr masks.default) Aac Tc) (cond (meets_mask adr masks.online) Arqc Tc)))
    by true e = meets-decline (omega arith) e
    by false e = tc_decided (is_offline_only terminal) e refl
  decided (suc (suc zero)) l = by (meets_mask adr masks.decline) refl where
    by : (b : Bool) → meets_mask adr masks.decline ≡ b → Decided 2 (cond b Aac Arqc)
    by true e = meets-decline (omega arith) e
    by false e = arqc_requested refl e
  decided (suc (suc (suc n))) l = absurd (omega arith)
