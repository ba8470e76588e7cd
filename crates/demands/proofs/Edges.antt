-- The twelve edges of document 01 in one table, over the definitions that the contracts cite. Assumes nothing.
use mathlib.Core.Bool.{Bool, true, false, ◌&&◌}
use mathlib.Core.List.{List, [], ◌∷◌}
use Prim.Native.Nat.{ℕ, ◌/◌, ◌%◌}
use lib.Dec.{T, eqb}
use Rattle.money.specs.declared.Converted.{Converted}
use Rattle.money.specs.declared.Converted.TheVariants.{Amount, Over, NoEntry}
use Rattle.money.specs.declared.Rates.{Rates}
use Rattle.money.specs.Money.{max, blank, convert_of}
use Rattle.cpace.specs.declared.Cvm.TheVariants.{NoCvm}
use Rattle.rules.specs.declared.Place.TheVariants.{One}
use Rattle.rules.specs.declared.Values.{Values}
use Rattle.rules.specs.Rules.{Rules, two, four, eight, blank_accumulator, blank_counter, blank_profile, blank_cycle, blank_cyclic}
use Rattle.purchase.specs.declared.Timing.TheVariants.{Undated}
use Rattle.purchase.specs.declared.Purchase.{Purchase}
use Rattle.purchase.specs.Meter.{amount_at, count_at}
use Rattle.meters.specs.declared.Change.TheVariants.{Approve}
use Rattle.meters.specs.Meters.{applied}
use Rattle.script.specs.Script.{fresh_scripts}
use Rattle.state.specs.declared.History.{History}
use Rattle.checks.specs.Checks.{decision_bits}
use Rattle.state.specs.declared.Kind.{Kind}
use Rattle.state.specs.declared.Kind.TheVariants.{Aac, Tc}
use Rattle.cryptogram.specs.declared.Later.TheVariants.{NotRequested}
use Rattle.cryptogram.specs.Cryptogram.{kind_code, verification, issuer_before}
use Rattle.first.specs.First.{decision}
use Rattle.demands.proofs.Computed.{computed}

-- one conversion, from currency 1 to currency 2
abbrev rates : Bool → ℕ → ℕ → Rates
rates up d t = record { entries = record { from = 1; to = 2; digits = d; shift = t } ∷ blank ∷ blank ∷ blank ∷ blank ∷ []; up = up }

-- a card whose first accumulator, in currency 1, and first counter are active, count and include this transaction
abbrev card : ℕ → Rules
card upper =
    record {
      key = 0;
      pin = 0;
      required = false;
      currencies = 1 ∷ 2 ∷ 2 ∷ 2 ∷ [];
      rates = rates false 1 9;
      profiles =
          record {
            number = 1;
            masks = blank_profile.masks;
            maximum = blank_profile.maximum;
            accumulators =
                record { lower = record { 0 = upper }; upper = record { 0 = upper }; active = true; allow = true; include = true }
                ∷ blank_accumulator
                ∷ blank_accumulator
                ∷ blank_accumulator
                ∷ [];
            counters =
                record { lower = 0; upper = 0; active = true; allow = true; include = true; declines = true }
                ∷ blank_counter
                ∷ blank_counter
                ∷ blank_counter
                ∷ [];
            sent = blank_profile.sent;
          }
          ∷ blank_profile
          ∷ blank_profile
          ∷ blank_profile
          ∷ [];
      cycles = two (λ i. blank_cycle);
      cyclic_rules = four (λ j. two (λ i. blank_cyclic));
      controls = eight (λ i. 0);
      cashbacks = four (λ j. false);
    }

abbrev values : ℕ → ℕ → Values
values amount count =
    record { accumulators = four (λ i. record { 0 = amount }); counters = four (λ i. count); cyclic = two (λ i. record { 0 = 0 }) }

abbrev purchase : ℕ → Purchase
purchase amount = record { amount = record { 0 = amount }; currency = 1; timing = Undated; cvm = NoCvm; cashback = false }

abbrev clear : History
clear = record { uncompleted = false; online = false; failed = false; unable = false; missing = false }

abbrev is_amount : Converted → ℕ → Bool
is_amount (Amount amount) n = eqb amount.0 n
is_amount Over n = false
is_amount NoEntry n = false

abbrev is_over : Converted → Bool
is_over (Amount amount) = false
is_over Over = true
is_over NoEntry = false

-- a value and an amount against a limit: the decision bits from 6 on of the first accumulator (1 lower, 16 upper); a conversion, its fraction rounded up or
-- not, and one that is over; an approval stored in an accumulator and in a counter; a decision, with the masks Online, Decline, Default; CVR byte 1 of a First
pub data Row : Type 0 where
  limit_row : (value amount limit bits : ℕ) → Row
  rate_row : (up : Bool) (amount d t result : ℕ) → Row
  over_row : (up : Bool) (amount d t : ℕ) → Row
  amount_row : (value more result : ℕ) → Row
  count_row : (value result : ℕ) → Row
  kind_row : (requested adr online decline default terminal : ℕ) → Kind → Row
  byte_row : Kind → ℕ → Row

unfoldable pub holds : Row → Bool
holds (limit_row value amount upper bits) =
    eqb (decision_bits (card upper) One (values value 0) (purchase amount) clear / 64 % 256) bits
holds (rate_row up amount d t result) = is_amount (convert_of (record { 0 = amount }) 1 2 (rates up d t)) result
holds (over_row up amount d t) = is_over (convert_of (record { 0 = amount }) 1 2 (rates up d t))
holds (amount_row value more result) =
    eqb (amount_at (applied (card max) One (values value 0) (Approve (purchase more))) 0).0 result
holds (count_row value result) = eqb (count_at (applied (card max) One (values 0 value) (Approve (purchase 1))) 0) result
holds (kind_row requested adr online decline default terminal k) =
    eqb (kind_code (decision requested adr (record { online = online; decline = decline; default = default }) terminal)) (kind_code k)
holds (byte_row k n) = eqb (verification (card max) clear 0 fresh_scripts k NotRequested (issuer_before clear)).byte1 n

unfoldable pub table : List Row
table =
    limit_row 0 5000 5000 0
    ∷ limit_row 0 5001 5000 17
    ∷ rate_row false 12345 1234 6 15233
    ∷ rate_row true 12345 1234 6 15234
    ∷ over_row false 999999999999 9999 12
    ∷ over_row true 999999999999 9999 12
    ∷ rate_row false 1 4 8 0
    ∷ rate_row true 1 4 8 1
    ∷ count_row 255 255
    ∷ amount_row 999999999999 1 999999999999
    ∷ limit_row 999999999999 1 999999999999 17
    ∷ kind_row 1 64 64 64 0 0x22 Aac
    ∷ kind_row 1 64 0 0 64 0x23 Aac
    ∷ kind_row 1 64 0 0 64 0x22 Tc
    ∷ byte_row Tc 0x90
    ∷ []

unfoldable pub all : List Row → Bool
all [] = true
all (row ∷ rows) = holds row && all rows

-- a) to l), in document 01's order; c), d) and e) by both rules
pub edges : T (all table)
unfolding all table holds computed
edges = tt
