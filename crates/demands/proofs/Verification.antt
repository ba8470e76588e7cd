-- The CVR's bits and the IAD's fields are those that document 01 names. Assumes nothing.
use mathlib.Core.Path.{◌≡◌, refl, sym, ap, ◌∙◌, subst}
use mathlib.Core.Bool.{Bool, true, false, and-true, and-false, or-false}
use Prim.Native.Nat.{ℕ, zero, suc, ◌+◌, ◌*◌, ◌/◌, ◌%◌, ◌≤◌, ◌<◌}
use native.Mathlib.Omega.{arith}
use borrow.Author.Tests.{eqb-true, eqb-false}
use lib.Dec.{eqb}
use Rattle.money.specs.Money.{max}
use Rattle.iad.specs.declared.Cvr.{Cvr}
use Rattle.rules.specs.declared.Place.{Place}
use Rattle.rules.specs.declared.Sent.{Sent as Sending}
use Rattle.rules.specs.declared.Values.{Values}
use Rattle.rules.specs.Rules.{Rules, index_of}
use Rattle.setup.specs.Setup.{profile_in, rules_in}
use Rattle.purchase.specs.declared.Purchase.{Purchase}
use Rattle.marks.specs.declared.Scripts.{Scripts}
use Rattle.script.specs.Script.{marks_of}
use Rattle.marks.proofs.Marks.{marks-say, marks_low}
use Rattle.state.specs.declared.History.{History}
use Rattle.limits.specs.Limits.{bit}
use Rattle.checks.specs.Checks.{decision_bits, accumulators_lower_group, accumulators_upper_group, counters_lower_group, counters_upper_group}
use Rattle.checks.specs.Checks.{date_error}
use Rattle.cryptogram.specs.declared.Issuer.{Issuer}
use Rattle.state.specs.declared.Kind.{Kind}
use Rattle.state.specs.declared.Kind.TheVariants.{Aac, Tc, Arqc}
use Rattle.cryptogram.specs.declared.Later.{Later}
use Rattle.cryptogram.specs.Cryptogram.{kind_code, later_code, limits_byte, verification, sent_iad}
use Rattle.cryptogram.specs.Cryptogram.{sent_of as card_sent}
use Rattle.demands.specs.Setup.{Setup, byte_at, AcceptedSetup}
use Rattle.purchase.specs.Meter.{Meter, accumulator, counter, IsMeter, value_of}
use Rattle.demands.specs.Conversation.{rules_by}
use Rattle.demands.specs.Scripts.{Remembered}
use Rattle.demands.specs.Decision.{above_lower, above_upper, is_error, flags, meets}
use Rattle.demands.specs.Verification.{any_of, Verifies, sent_of, Sends}
use Rattle.demands.specs.Audit.{place_of}
use Rattle.demands.proofs.Written.{given}
use Rattle.demands.proofs.Bytes.{fits, Stands, key-is, pin-is, number_is, sent_is, number-there}
use Rattle.demands.proofs.Scripts.{Keeps}
use Rattle.demands.proofs.Decision.{met-is}

bit-small : (b : Bool) → bit b < 2
bit-small true = omega arith
bit-small false = omega arith

kind-small : (kind : Kind) → kind_code kind < 4
kind-small Aac = omega arith
kind-small Tc = omega arith
kind-small Arqc = omega arith

-- CVR byte 3, of five causes
abbrev pub limits_of : (counters_lower counters_upper accumulators_lower accumulators_upper date_error : Bool) → ℕ
limits_of a b c d e = bit a * 128 + bit b * 64 + bit c * 32 + bit d * 16 + bit e * 2

module _ (setup : Setup) (good : AcceptedSetup setup) (place : Place) (at : ℕ) (stands : Stands setup place at) (values : Values) (purchase : Purchase)
    (small : purchase.amount.0 ≤ max) where
  abbrev rules : Rules
  rules = rules_by setup

  abbrev lower : Meter → Bool
  lower = above_lower setup at purchase (value_of values)

  abbrev upper : Meter → Bool
  upper = above_upper setup at purchase (value_of values)

  -- a group of the decision bits is met where one of its four flags is set
  module _ (history : History) where
    abbrev met : ℕ → Bool
    met mask = meets (flags setup at purchase (value_of values) history) mask

    counters-lower : met counters_lower_group ≡ any_of counter lower
    unfolding flags
    counters-lower = simp (and-true, and-false)

    counters-upper : met counters_upper_group ≡ any_of counter upper
    unfolding flags
    counters-upper = simp (and-true, and-false)

    accumulators-lower : met accumulators_lower_group ≡ any_of accumulator lower
    unfolding flags
    accumulators-lower = simp (and-true, and-false)

    accumulators-upper : met accumulators_upper_group ≡ any_of accumulator upper
    unfolding flags
    accumulators-upper = simp (and-true, and-false)

    error_met : met date_error ≡ is_error purchase.timing
    unfolding flags
    error_met = simp (and-true, and-false, or-false)

    pub limits-are : limits_byte (decision_bits rules place values purchase history)
        ≡ limits_of (any_of counter lower) (any_of counter upper) (any_of accumulator lower) (any_of accumulator upper) (is_error purchase.timing)
    unfolding limits_byte
    limits-are =
        let is = met-is setup good place at stands values purchase small history in
        λ i. limits_of ((is counters_lower_group ∙ counters-lower) i) ((is counters_upper_group ∙ counters-upper) i)
        ((is accumulators_lower_group ∙ accumulators-lower) i) ((is accumulators_upper_group ∙ accumulators-upper) i) ((is date_error ∙ error_met) i)

-- a CVR shows of the rules the PIN's digit alone
pub same_cvr : (a b : Rules) → a.pin ≡ b.pin → (history : History) (limits : ℕ) (scripts : Scripts) (first : Kind) (later : Later) (issuer : Issuer)
    → verification a history limits scripts first later issuer ≡ verification b history limits scripts first later issuer
unfolding verification
same_cvr a b e history limits scripts first later issuer = rw e

bit_is : (n : ℕ) (b : Bool) → n < 2 → eqb n 1 ≡ b → n ≡ bit b
bit_is n true l e = eqb-true n 1 e
bit_is n false l e = let d = eqb-false n 1 e in omega arith

-- a CVR whose byte 3 has its five causes
module _ (setup : Setup) (profile : ℕ) (purchase : Purchase) (value : Meter → ℕ) (history : History) (memory : Remembered) (scripts : Scripts)
    (keeps : Keeps memory scripts) where
  abbrev below : Meter → Bool
  below = above_lower setup profile purchase value

  abbrev over : Meter → Bool
  over = above_upper setup profile purchase value

  verifies-given : (limits : ℕ)
      → limits ≡ limits_of (any_of counter below) (any_of counter over) (any_of accumulator below) (any_of accumulator over) (is_error purchase.timing)
      → (first : Kind) (later : Later) (issuer : Issuer)
      → Verifies setup profile purchase value history memory (later_code later) (kind_code first)
      (record { unperformed = issuer.unperformed; failed = issuer.failed; unable = issuer.unable })
      (verification (given setup) history limits scripts first later issuer)
  unfolding verification rules_in
  verifies-given limits is first later issuer =
      let marks = marks-say scripts in
      let low = marks_low scripts in
      let count : marks_of scripts / 16 ≡ memory.count = marks.count ∙ keeps.says.count in
      let failed : marks_of scripts / 8 % 2 ≡ bit memory.failed =
      bit_is (marks_of scripts / 8 % 2) memory.failed (omega arith) (marks.failed ∙ keeps.says.failed) in
      let l = bit-small memory.failed in
      let a = bit-small issuer.unperformed in
      let b = bit-small issuer.failed in
      let k = kind-small first in
      let c = bit-small (eqb (byte_at setup 1) 0) in
      let d = bit-small history.uncompleted in
      let e = bit-small history.online in
      let f = bit-small issuer.unable in
      let g = bit-small (any_of counter below) in
      let h = bit-small (any_of counter over) in
      let i = bit-small (any_of accumulator below) in
      let j = bit-small (any_of accumulator over) in
      let k' = bit-small (is_error purchase.timing) in
      record {
        byte1_b87 = omega arith;
        byte1_b65 = omega arith;
        byte1_b43 = omega arith;
        byte1_b2 = omega arith;
        byte1_b1 = omega arith;
        byte2_high = omega arith;
        byte2_b43 = omega arith;
        byte2_b2 = omega arith;
        byte2_b1 = omega arith;
        byte3_b8 = omega arith;
        byte3_b7 = omega arith;
        byte3_b6 = omega arith;
        byte3_b5 = omega arith;
        byte3_b43 = omega arith;
        byte3_b2 = omega arith;
        byte3_b1 = omega arith;
        byte4_b85 = omega arith;
        byte4_b4 = omega arith;
        byte4_b3 = omega arith;
        byte4_b2 = omega arith;
        byte4_b1 = omega arith;
        byte5_all = refl;
      }

  pub verifies : (limits : ℕ)
      → limits ≡ limits_of (any_of counter below) (any_of counter over) (any_of accumulator below) (any_of accumulator over) (is_error purchase.timing)
      → (first : Kind) (later : Later) (issuer : Issuer)
      → Verifies setup profile purchase value history memory (later_code later) (kind_code first)
      (record { unperformed = issuer.unperformed; failed = issuer.failed; unable = issuer.unable })
      (verification (rules_by setup) history limits scripts first later issuer)
  unfolding rules_in
  verifies limits is first later issuer =
      subst (Verifies setup profile purchase value history memory (later_code later) (kind_code first) _)
      (same_cvr (given setup) (rules_by setup) (sym (pin-is setup)) history limits scripts first later issuer)
      (verifies-given limits is first later issuer)

-- ---- what is sent

module _ (values : Values) (value : Meter → ℕ) (same : (meter : Meter) → IsMeter meter → value_of values meter ≡ value meter) where
  sent-amount : (n : ℕ) → n ≤ 4 → (card_sent values.accumulators (record { 0 = 0 }) n).0 ≡ sent_of value accumulator n
  sent-amount zero l = refl
  sent-amount (suc zero) l = same (accumulator 0) (omega arith)
  sent-amount (suc (suc zero)) l = same (accumulator 1) (omega arith)
  sent-amount (suc (suc (suc zero))) l = same (accumulator 2) (omega arith)
  sent-amount (suc (suc (suc (suc zero)))) l = same (accumulator 3) (omega arith)
  sent-amount (suc (suc (suc (suc (suc n))))) l = absurd (omega arith)

  sent-count : (n : ℕ) → n ≤ 4 → card_sent values.counters 0 n ≡ sent_of value counter n
  sent-count zero l = refl
  sent-count (suc zero) l = same (counter 0) (omega arith)
  sent-count (suc (suc zero)) l = same (counter 1) (omega arith)
  sent-count (suc (suc (suc zero))) l = same (counter 2) (omega arith)
  sent-count (suc (suc (suc (suc zero)))) l = same (counter 3) (omega arith)
  sent-count (suc (suc (suc (suc (suc n))))) l = absurd (omega arith)

module _ (setup : Setup) (good : AcceptedSetup setup) (wanted : ℕ) (place : Place) (stands : Stands setup place (place_of setup wanted)) where
  abbrev profile-at : ℕ
  profile-at = place_of setup wanted

  -- a number of what is sent is 0 to 4
  few : (k : ℕ) → byte_at setup (52 + 107 * index_of place + k) ≤ 4 → byte_at setup (profile-at + k) ≤ 4
  few k l = subst (λ a. byte_at setup (a + k) ≤ 4) (sym stands.offset) l

  -- what is sent of the values that the auditor finds
  pub sends-audited : (values : Values) (cvr : Cvr) (value : Meter → ℕ) → ((meter : Meter) → IsMeter meter → value_of values meter ≡ value meter)
      → Sends setup profile-at wanted value (sent_iad (rules_by setup) place values cvr)
  unfolding sent_iad rules_in profile_in
  sends-audited values cvr value same =
      let ranges = (fits good).profiles (index_of place) stands.there in
      let these = sent_is setup place profile-at stands in
      let count : ℕ → ℕ = card_sent values.counters 0 in
      record {
        key = key-is setup;
        profile-number = number_is setup place profile-at stands ∙ number-there setup good wanted place stands;
        accumulator-sent =
            ap (λ (s : Sending). (card_sent values.accumulators (record { 0 = 0 }) s.accumulator).0) these
            ∙ sent-amount values value same (byte_at setup (profile-at + 104)) (few 104 ranges.accumulator-sent);
        first-sent =
            ap (λ (s : Sending). count s.first) these
            ∙ sent-count values value same (byte_at setup (profile-at + 105)) (few 105 ranges.first-sent);
        second-sent =
            ap (λ (s : Sending). count s.second) these
            ∙ sent-count values value same (byte_at setup (profile-at + 106)) (few 106 ranges.second-sent);
      }

-- CVR byte 3 of the values that the auditor finds
abbrev pub limits_by : Setup → (profile : ℕ) → Purchase → (Meter → ℕ) → ℕ
limits_by setup profile purchase value =
    limits_of (any_of counter (above_lower setup profile purchase value)) (any_of counter (above_upper setup profile purchase value))
    (any_of accumulator (above_lower setup profile purchase value))
    (any_of accumulator (above_upper setup profile purchase value))
    (is_error purchase.timing)

pub limits-audited : (setup : Setup) (profile : ℕ) (purchase : Purchase) (f g : Meter → ℕ) → ((meter : Meter) → IsMeter meter → f meter ≡ g meter)
    → limits_by setup profile purchase f ≡ limits_by setup profile purchase g
limits-audited setup profile purchase f g h =
    simp (
      h (accumulator 0) (omega arith),
      h (accumulator 1) (omega arith),
      h (accumulator 2) (omega arith),
      h (accumulator 3) (omega arith),
      h (counter 0) (omega arith),
      h (counter 1) (omega arith),
      h (counter 2) (omega arith),
      h (counter 3) (omega arith),
    )
