-- What the auditor reads in the bytes is what the card's rules say: a profile's place, its rules, and what a purchase converts to.
-- Assumes nothing.
use mathlib.Core.Path.{◌≡◌, refl, sym, ap, ap₂, ◌∙◌}
use mathlib.Core.Bool.{Bool, true, false, cond, ◌&&◌}
use mathlib.Core.List.{List, []}
use Prim.Native.Nat.{ℕ, zero, suc, ◌+◌, ◌-◌, ◌*◌, ◌/◌, ◌%◌, ◌^◌, ◌≤◌, ◌<◌}
use native.Mathlib.Nat.{add-zero, div-one}
use native.Mathlib.Omega.{arith}
use borrow.Author.Tests.{ltb-true, ltb-false, lt-ltb, le-ltb, le-leb, eqb-true, eq-eqb, ne_eqb}
use lib.Dec.{ltb, eqb}
use lib.ListN.{length, get_or}
use Rattle.money.specs.declared.Rate.{Rate}
use Rattle.money.specs.declared.Converted.{Converted}
use Rattle.money.specs.declared.Converted.TheVariants.{Amount, Over, NoEntry}
use Rattle.money.specs.Money.{max, stopped, blank, is_for, is_rate, rate_for, rounded, scaled, amount_of, amount_or_over, convert_of}
use Rattle.rules.specs.declared.Place.{Place}
use Rattle.rules.specs.declared.Place.TheVariants.{One, Two, Three, Four}
use Rattle.rules.specs.declared.Cycle.{Cycle}
use Rattle.rules.specs.declared.CyclicRule.{CyclicRule}
use Rattle.rules.specs.Rules.{Profile, two, blank_profile, blank_accumulator, blank_counter, blank_cycle, blank_cyclic, index_of, profile_at}
use Rattle.rules.specs.Rules.{currency_at, accumulator_rule, counter_rule, cycle_of, cyclic_rule, control_at, checks_cashback}
use Rattle.rules.proofs.Limits.{Stays}
use Rattle.rules.proofs.Places.{four-at, two_at, eight-at}
use Rattle.ranges.proofs.Accepted.{Accepted, accepted}
use Rattle.tails.proofs.Accepted.{CyclesAccepted, cycles-accepted}
use Rattle.setup.specs.Setup.{rate_in, accumulator_in, counter_in, profile_in, cycle_in, cyclic_in, rules_in, is_accepted}
use Rattle.purchase.specs.declared.Purchase.{Purchase}
use Rattle.purchase.specs.Meter.{Meter, accumulator, counter, cyclic, IsMeter, MeterRule, accumulating, counting, cycling, rule_of, worth, cyclic_worth}
use Rattle.purchase.specs.Meter.{worth_to as card_worth}
use Rattle.meters.specs.Meters.{addition}
use Rattle.demands.specs.Setup.{Setup, byte_at, number_at, family_byte, AcceptedSetup}
use Rattle.demands.specs.Conversation.{rules_by}
use Rattle.demands.specs.Audit.{place_from, place_of, Conversion, comes_to, over, none, whole, up_to_max, by_entry, converted, adds}
use Rattle.demands.specs.Audit.{is_active, is_allowed, is_included, counts_declines, upper_of, worth_to, accumulator_limits, counter_limits}
use Rattle.demands.specs.Decision.{lower_of}
use Rattle.demands.proofs.Found.{Holds, below-four}
use Rattle.demands.proofs.Written.{limited_to, its_limits, stays, accumulator-written, counter-written, given, given-whole}

-- every field of an accepted set-up is in its range
pub fits : {setup : Setup} → AcceptedSetup setup → Accepted setup.bytes setup.unnamed
fits good = accepted _ _ good.taken

-- and of its tail, where it has one
pub fits-tail : {setup : Setup} → AcceptedSetup setup → CyclesAccepted setup.tail
fits-tail good = cycles-accepted _ good.tail-taken

pub all_fit_lem : {setup : Setup} → AcceptedSetup setup → is_accepted setup.bytes setup.tail setup.family setup.unnamed ≡ true
all_fit_lem good = simp (good.taken, good.tail-taken, good.family-taken)

-- the profile at a place of the rules stands at an offset in the bytes
pub record Stands (setup : Setup) (place : Place) (at : ℕ) : Type 0 where
  pub there : index_of place < byte_at setup 3
  pub offset : at ≡ 52 + 107 * index_of place

at-index : (setup : Setup) (place : Place)
    → profile_at (given setup) place ≡ cond (ltb (index_of place) (byte_at setup 3)) (profile_in setup.bytes (52 + 107 * index_of place)) blank_profile
unfolding rules_in
at-index setup One = refl
at-index setup Two = refl
at-index setup Three = refl
at-index setup Four = refl

-- what no script writes
abbrev kept : (setup : Setup) → Stays (given setup) (rules_by setup)
kept setup = stays (given setup) setup.written

-- of no profile
module _ (setup : Setup) where
  pub key-is : (rules_by setup).key ≡ byte_at setup 0
  unfolding rules_in
  key-is = (kept setup).key

  pub pin-is : (rules_by setup).pin ≡ byte_at setup 1
  unfolding rules_in
  pin-is = (kept setup).pin

  pub required-is : (rules_by setup).required ≡ eqb (byte_at setup 2) 1
  unfolding rules_in
  required-is = (kept setup).required

module _ (setup : Setup) (place : Place) (at : ℕ) (stands : Stands setup place at) where
  profile-is : profile_at (given setup) place ≡ profile_in setup.bytes at
  profile-is =
      at-index setup place
      ∙ ap (λ b. cond b (profile_in setup.bytes (52 + 107 * index_of place)) blank_profile) (lt-ltb (index_of place) (byte_at setup 3) stands.there)
      ∙ ap (profile_in setup.bytes) (sym stands.offset)

  pub number_is : (profile_at (rules_by setup) place).number ≡ (profile_in setup.bytes at).number
  number_is = (kept setup).number place ∙ ap (λ (p : Profile). p.number) profile-is

  pub masks-are : (profile_at (rules_by setup) place).masks ≡ (profile_in setup.bytes at).masks
  masks-are = (kept setup).masks place ∙ ap (λ (p : Profile). p.masks) profile-is

  pub maximum-is : (profile_at (rules_by setup) place).maximum ≡ (profile_in setup.bytes at).maximum
  maximum-is = (kept setup).maximum place ∙ ap (λ (p : Profile). p.maximum) profile-is

  pub sent_is : (profile_at (rules_by setup) place).sent ≡ (profile_in setup.bytes at).sent
  sent_is = (kept setup).sent place ∙ ap (λ (p : Profile). p.sent) profile-is

  accumulator-is : (i : ℕ) → i < 4 → accumulator_rule (given setup) place i ≡ accumulator_in setup.bytes (at + (24 + 17 * i))
  unfolding profile_in
  accumulator-is i l =
      ap (λ profile. get_or profile.accumulators i blank_accumulator) profile-is
      ∙ four-at (λ j. accumulator_in setup.bytes (at + (24 + 17 * j))) blank_accumulator i l

  counter-is : (i : ℕ) → i < 4 → counter_rule (given setup) place i ≡ counter_in setup.bytes (at + (92 + 3 * i))
  unfolding profile_in
  counter-is i l =
      ap (λ profile. get_or profile.counters i blank_counter) profile-is
      ∙ four-at (λ j. counter_in setup.bytes (at + (92 + 3 * j))) blank_counter i l

  -- its cyclic accumulators' rules stand in the tail behind those of the profiles before it
  pub cyclic-is : (i : ℕ) → i < 2 → cyclic_rule (rules_by setup) place i ≡ cyclic_in setup.tail (28 + 18 * ((at - 52) / 107) + 9 * i)
  unfolding rules_in
  cyclic-is i l =
      let before : index_of place ≡ (at - 52) / 107 = omega (arith, stands.offset) in
      let each : ℕ → List CyclicRule = λ j. two (λ k. cyclic_in setup.tail (28 + 18 * j + 9 * k)) in
      (kept setup).cyclic place i
      ∙ ap (λ rules. get_or rules i blank_cyclic) (four-at each [] (index_of place) (below-four place))
      ∙ two_at (λ k. cyclic_in setup.tail (28 + 18 * index_of place + 9 * k)) blank_cyclic i l
      ∙ ap (λ j. cyclic_in setup.tail (28 + 18 * j + 9 * i)) before

  -- whether it checks cashback stands behind the same of those before it
  pub cashback_is : checks_cashback (rules_by setup) place ≡ eqb (family_byte setup (9 + (at - 52) / 107)) 1
  unfolding rules_in
  cashback_is =
      let before : index_of place ≡ (at - 52) / 107 = omega (arith, stands.offset) in
      (kept setup).cashback place
      ∙ four-at (λ j. eqb (family_byte setup (9 + j)) 1) false (index_of place) (below-four place)
      ∙ ap (λ j. eqb (family_byte setup (9 + j)) 1) before

-- the control of a slot
pub control_is : (setup : Setup) (i : ℕ) → i < 8 → control_at (rules_by setup) i ≡ family_byte setup (1 + i)
unfolding rules_in
control_is setup i l = (kept setup).control i ∙ eight-at (λ j. family_byte setup (1 + j)) 0 i l

-- the rule of a meter as the auditor reads it
abbrev pub rule_read : Setup → ℕ → Meter → MeterRule
rule_read setup at meter =
    record {
      active = is_active setup at meter;
      allow = is_allowed setup at meter;
      include = is_included setup at meter;
      declines = counts_declines setup at meter;
      lower = lower_of setup at meter;
      upper = upper_of setup at meter;
    }

pub rule-read : (setup : Setup) (place : Place) (at : ℕ) → Stands setup place at → (meter : Meter) → IsMeter meter
    → rule_of (rules_by setup) place meter ≡ rule_read setup at meter
unfolding accumulator_in counter_in cyclic_in
rule-read setup place at stands (accumulator i) l =
    let ws = setup.written in
    accumulator-written (given setup) (given-whole setup) place i l ws
    ∙ ap (λ rule. limited_to (accumulator_limits i ws (its_limits (accumulating rule))) (accumulating rule)) (accumulator-is setup place at stands i l)
    ∙ rw div-one
rule-read setup place at stands (counter i) l =
    let ws = setup.written in
    counter-written (given setup) (given-whole setup) place i l ws
    ∙ ap (λ rule. limited_to (counter_limits i ws (its_limits (counting rule))) (counting rule)) (counter-is setup place at stands i l)
    ∙ rw div-one
rule-read setup place at stands (cyclic i) l = ap cycling (cyclic-is setup place at stands i l) ∙ rw div-one

-- a cyclic accumulator as it stands in the tail
pub cycle-is : (setup : Setup) (i : ℕ) → i < 2 → cycle_of (rules_by setup) i ≡ cycle_in setup.tail (4 + 12 * i)
unfolding rules_in
cycle-is setup i l = (kept setup).cycle i ∙ two_at (λ j. cycle_in setup.tail (4 + 12 * j)) blank_cycle i l

-- the card's answer as the auditor reads it
abbrev pub as_read : Converted → Conversion
as_read (Amount amount) = comes_to amount.0
as_read Over = over
as_read NoEntry = none

adds-read : (worth : Converted) → addition worth ≡ adds (as_read worth)
adds-read (Amount amount) = refl
adds-read Over = refl
adds-read NoEntry = refl

-- the card rounds as the auditor does
rounds : (syllabus n : ℕ) → rounded (eqb syllabus 1) n (10 ^ 9) ≡ whole syllabus n (10 ^ 9)
unfolding rounded
rounds syllabus n = by (eqb syllabus 1) (ltb 0 (n % 10 ^ 9)) refl where
  by : (up left : Bool) → ltb 0 (n % 10 ^ 9) ≡ left → (n + cond up (10 ^ 9 - 1) 0) / 10 ^ 9 ≡ cond (up && left) (n / 10 ^ 9 + 1) (n / 10 ^ 9)
  by true true e = let h = ltb-true 0 (n % 10 ^ 9) e in omega arith
  by true false e = let h = ltb-false 0 (n % 10 ^ 9) e in omega arith
  by false left e = rw add-zero

read_or_over : (n : ℕ) → as_read (amount_or_over n) ≡ up_to_max n
read_or_over n = by (ltb max n) where
  by : (b : Bool) → as_read (cond b Over (amount_of n)) ≡ cond b over (comes_to n)
  by true = refl
  by false = refl

module _ (setup : Setup) (good : AcceptedSetup setup) where
  -- the first profile of a number is the only one
  reach : (j i n : ℕ) → j < byte_at setup 3 → i ≤ j → j < i + n → place_from setup (byte_at setup (52 + 107 * j)) i n ≡ 52 + 107 * j
  reach j i zero p h l = absurd (omega arith)
  reach j i (suc n) p h l = by (ltb i j) refl (λ m. reach j (suc i) n p m (omega arith)) where
    by : (b : Bool) → ltb i j ≡ b → (i < j → place_from setup (byte_at setup (52 + 107 * j)) (suc i) n ≡ 52 + 107 * j)
        → place_from setup (byte_at setup (52 + 107 * j)) i (suc n) ≡ 52 + 107 * j
    by true e r =
        let m = ltb-true i j e in
        rw (ne_eqb (byte_at setup (52 + 107 * i)) (byte_at setup (52 + 107 * j)) ((fits good).numbers i j m p)) (r m)
    by false e r =
        let q : i ≡ j = omega (arith, ltb-false i j e) in
        rw (q, eq-eqb (byte_at setup (52 + 107 * j)) (byte_at setup (52 + 107 * j)) refl)

  numbered_at : (i : ℕ) → i < 4
      → (get_or (rules_by setup).profiles i blank_profile).number ≡ cond (ltb i (byte_at setup 3)) (byte_at setup (52 + 107 * i)) 0
  unfolding rules_in profile_in
  numbered_at i l =
      kept-number i l
      ∙ ap (λ (p : Profile). p.number) (four-at (λ j. cond (ltb j (byte_at setup 3)) (profile_in setup.bytes (52 + 107 * j)) blank_profile) blank_profile i l)
      ∙ by (ltb i (byte_at setup 3)) where
        kept-number : (i : ℕ) → i < 4 → (get_or (rules_by setup).profiles i blank_profile).number ≡ (get_or (given setup).profiles i blank_profile).number
        kept-number zero l = (kept setup).number One
        kept-number (suc zero) l = (kept setup).number Two
        kept-number (suc (suc zero)) l = (kept setup).number Three
        kept-number (suc (suc (suc zero))) l = (kept setup).number Four
        kept-number (suc (suc (suc (suc i)))) l = absurd (omega arith)

        by : (b : Bool) → (cond b (profile_in setup.bytes (52 + 107 * i)) blank_profile).number ≡ cond b (byte_at setup (52 + 107 * i)) 0
        by true = refl
        by false = refl

  -- a profile of the rules with a number stands in the bytes with it, and the other way round
  pub number_in : (i number : ℕ) → i < 4 → 1 ≤ number → (get_or (rules_by setup).profiles i blank_profile).number ≡ number
      → (i < byte_at setup 3) × (byte_at setup (52 + 107 * i) ≡ number)
  number_in i number l some its = by (ltb i (byte_at setup 3)) refl (sym (numbered_at i l) ∙ its) where
    by : (b : Bool) → ltb i (byte_at setup 3) ≡ b → cond b (byte_at setup (52 + 107 * i)) 0 ≡ number
        → (i < byte_at setup 3) × (byte_at setup (52 + 107 * i) ≡ number)
    by true e n = (ltb-true _ _ e, n)
    by false e n = absurd (omega arith)

  pub number_out : (i number : ℕ) → i < 4 → i < byte_at setup 3 → byte_at setup (52 + 107 * i) ≡ number
      → (get_or (rules_by setup).profiles i blank_profile).number ≡ number
  number_out i number l there its = numbered_at i l ∙ ap (λ b. cond b (byte_at setup (52 + 107 * i)) 0) (lt-ltb _ _ there) ∙ its

  -- the profile that a Start opens stands where the auditor looks for it
  pub stands_at_lem : (place : Place) (number : ℕ) → Holds (rules_by setup) number place → Stands setup place (place_of setup number)
  unfolding place_of
  stands_at_lem place number h =
      let p = byte_at setup 3 in
      let n = number_in (index_of place) number (below-four place) h.some h.its in
      record {
        there = n.0;
        offset = ap (λ k. place_from setup k 0 p) (sym n.1) ∙ reach (index_of place) 0 p n.0 (omega arith) (omega (arith, n.0));
      }

  -- ---- conversion

  entry-at : (i : ℕ) → i < 5
      → get_or (given setup).rates.entries i blank ≡ cond (ltb i (byte_at setup 4)) (rate_in setup.bytes (52 + 107 * byte_at setup 3 + 7 * i)) blank
  unfolding rules_in
  entry-at zero l = refl
  entry-at (suc zero) l = refl
  entry-at (suc (suc zero)) l = refl
  entry-at (suc (suc (suc zero))) l = refl
  entry-at (suc (suc (suc (suc zero)))) l = refl
  entry-at (suc (suc (suc (suc (suc i))))) l = absurd (omega arith)

  good-rate : (i : ℕ) → i < byte_at setup 4 → is_rate (rate_in setup.bytes (52 + 107 * byte_at setup 3 + 7 * i)) ≡ true
  unfolding rate_in
  good-rate i l = let r = (fits good).conversions i l in simp (le-leb _ _ r.digits-least, le-leb _ _ r.digits-most, le-leb _ _ r.shift)

  module _ (purchase : Purchase) (to : ℕ) where
    -- the entry for the purchase among n of them from i on
    abbrev entry : (i n : ℕ) → Rate
    entry i n = rate_for (given setup).rates.entries purchase.currency to i n

    -- the amount by entry i + 1, in billionths of a unit
    abbrev billionths : ℕ → ℕ
    billionths i =
        let at = 52 + 107 * byte_at setup 3 + 7 * i in
        purchase.amount.0 * number_at setup (at + 4) 2 * 10 ^ byte_at setup (at + 6)

    abbrev is_for_lem : Rate → Bool
    is_for_lem rate = is_for rate purchase.currency to

    -- what a rate, or its absence, makes of the amount
    abbrev by_rate : Rate → Conversion
    by_rate rate = as_read (cond (is_rate rate) (amount_or_over (scaled (eqb setup.syllabus 1) purchase.amount.0 rate)) NoEntry)

    blanks : (i n : ℕ) → byte_at setup 4 ≤ i → i + n ≤ 5 → entry i n ≡ blank
    unfolding rate_for
    blanks i zero c l = refl
    blanks i (suc n) c l =
        let none : get_or (given setup).rates.entries i blank ≡ blank =
        entry-at i (omega arith) ∙ ap (λ b. cond b (rate_in setup.bytes (52 + 107 * byte_at setup 3 + 7 * i)) blank) (le-ltb i (byte_at setup 4) c) in
        ap (λ rate. cond (is_for_lem rate) rate (entry (suc i) n)) none
        ∙ ap (λ rate. cond (is_for_lem blank) blank rate) (blanks (suc i) n (omega arith) (omega arith))
        ∙ same (is_for_lem blank)
      where
        same : (b : Bool) → cond b blank blank ≡ blank
        same true = refl
        same false = refl

    by-entry : (i n m : ℕ) → byte_at setup 4 ≡ i + n → i + m ≡ 5 → by_rate (entry i m) ≡ by_entry setup purchase to i n
    unfolding rate_for rate_in scaled
    by-entry i zero m c l = ap by_rate (blanks i m (omega arith) (omega arith))
    by-entry i (suc n) zero c l = let most = (fits good).conversions-most in absurd (omega arith)
    by-entry i (suc n) (suc m) c l =
        let at = 52 + 107 * byte_at setup 3 + 7 * i in
        let here : get_or (given setup).rates.entries i blank ≡ rate_in setup.bytes at =
        entry-at i (omega arith) ∙ ap (λ b. cond b (rate_in setup.bytes at) blank) (lt-ltb i (byte_at setup 4) (omega arith)) in
        ap (λ rate. by_rate (cond (is_for_lem rate) rate (entry (suc i) m))) here
        ∙ found (is_for_lem (rate_in setup.bytes at)) (by-entry (suc i) n m (omega arith) (omega arith))
      where
        found : (b : Bool) → by_rate (entry (suc i) m) ≡ by_entry setup purchase to (suc i) n
            → by_rate (cond b (rate_in setup.bytes (52 + 107 * byte_at setup 3 + 7 * i)) (entry (suc i) m))
            ≡ cond b (up_to_max (whole setup.syllabus (billionths i) (10 ^ 9))) (by_entry setup purchase to (suc i) n)
        found true r =
            rw (good-rate i (omega arith))
            (read_or_over (rounded (eqb setup.syllabus 1) (billionths i) (10 ^ 9)) ∙ ap up_to_max (rounds setup.syllabus (billionths i)))
        found false r = r

  currency-at : (i : ℕ) → i < 4 → currency_at (rules_by setup) i ≡ number_at setup (8 + 10 * i) 2
  unfolding rules_in
  currency-at i l = (kept setup).currency i ∙ four-at (λ j. number_at setup (8 + 10 * j) 2) 0 i l

  rule-is : (given setup).rates.up ≡ eqb setup.syllabus 1
  unfolding rules_in
  rule-is = refl

  -- the amount of a purchase, converted to a currency by the rules and by the bytes
  pub converts_to : (purchase : Purchase) (to : ℕ) → purchase.amount.0 ≤ max
      → as_read (convert_of purchase.amount purchase.currency to (rules_by setup).rates) ≡ converted setup purchase to
  unfolding convert_of converted
  converts_to purchase to small =
      let rate = entry purchase to 0 5 in
      let small-stays : stopped purchase.amount.0 ≡ purchase.amount.0 = simp (le-ltb max purchase.amount.0 small) in
      ap (λ rates. as_read (convert_of purchase.amount purchase.currency to rates)) (kept setup).rates
      ∙ ap₂ (λ up a. as_read (cond (eqb purchase.currency to) (amount_of a) (cond (is_rate rate) (amount_or_over (scaled up a rate)) NoEntry))) rule-is small-stays
      ∙ same (eqb purchase.currency to)
    where
      same : (b : Bool)
          → as_read (cond b (amount_of purchase.amount.0) (cond (is_rate (entry purchase to 0 5))
          (amount_or_over (scaled (eqb setup.syllabus 1) purchase.amount.0 (entry purchase to 0 5))) NoEntry))
          ≡ cond b (comes_to purchase.amount.0) (by_entry setup purchase to 0 (byte_at setup 4))
      same true = refl
      same false = by-entry purchase to 0 (byte_at setup 4) 5 (omega arith) refl

  -- and to a currency of the rules that stands in the bytes
  converts : (purchase : Purchase) → purchase.amount.0 ≤ max → {from to : ℕ} → from ≡ to
      → as_read (convert_of purchase.amount purchase.currency from (rules_by setup).rates) ≡ converted setup purchase to
  converts purchase small {from} {to} e =
      ap (λ c. as_read (convert_of purchase.amount purchase.currency c (rules_by setup).rates)) e ∙ converts_to purchase to small

  -- and to a meter, with what it adds to it
  pub worth-read : (purchase : Purchase) → purchase.amount.0 ≤ max → (meter : Meter) → IsMeter meter
      → as_read (card_worth (rules_by setup) purchase meter) ≡ worth_to setup purchase meter
  unfolding worth cyclic_worth cycle_in
  worth-read purchase small (accumulator i) l = converts purchase small (currency-at i l)
  worth-read purchase small (counter i) l = refl
  worth-read purchase small (cyclic i) l = converts purchase small (ap (λ (c : Cycle). c.currency) (cycle-is setup i l))

  pub worth-adds : (purchase : Purchase) → purchase.amount.0 ≤ max → (meter : Meter) → IsMeter meter
      → addition (card_worth (rules_by setup) purchase meter) ≡ adds (worth_to setup purchase meter)
  worth-adds purchase small meter l = adds-read (card_worth (rules_by setup) purchase meter) ∙ ap adds (worth-read purchase small meter l)

module _ (setup : Setup) (good : AcceptedSetup setup) where
  -- and the number that stands there is the one looked for
  there-is : (wanted at i n : ℕ) → place_from setup wanted i n ≡ at → at < length setup.bytes → byte_at setup at ≡ wanted
  there-is wanted at i zero e l = absurd (omega arith)
  there-is wanted at i (suc n) e l = by (eqb (byte_at setup (52 + 107 * i)) wanted) refl e (λ d. there-is wanted at (suc i) n d l) where
    by : (b : Bool) → eqb (byte_at setup (52 + 107 * i)) wanted ≡ b → cond b (52 + 107 * i) (place_from setup wanted (suc i) n) ≡ at
        → (place_from setup wanted (suc i) n ≡ at → byte_at setup at ≡ wanted) → byte_at setup at ≡ wanted
    by true q e r = ap (byte_at setup) (sym e) ∙ eqb-true _ _ q
    by false q e r = r e

  pub number-there : (wanted : ℕ) (place : Place) → Stands setup place (place_of setup wanted) → byte_at setup (place_of setup wanted) ≡ wanted
  unfolding place_of
  number-there wanted place stands =
      let size = (fits good).size in
      let there = stands.there in
      let offset = stands.offset in
      there-is wanted (place_from setup wanted 0 (byte_at setup 3)) 0 (byte_at setup 3) refl (omega arith)
