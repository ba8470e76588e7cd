-- What a change enters into a meter: a new base or none, then an addition or none (document 01, "First: the answer" and "Second: the answer").
use Rattle.std.specs.Prelude.{ℕ, ◌+◌, Bool, true, false, cond, ◌&&◌, List, [], ◌∷◌, ◌++◌, ltb}
use Rattle.money.specs.declared.AccumulatorAmount.{AccumulatorAmount}
use Rattle.money.specs.declared.Converted.{Converted}
use Rattle.money.specs.declared.Converted.TheVariants.{Amount, Over, NoEntry}
use Rattle.money.specs.Money.{max}
use Rattle.rules.specs.declared.Place.{Place}
use Rattle.rules.specs.declared.Values.{Values}
use Rattle.rules.specs.Rules.{Rules, two, four}
use Rattle.purchase.specs.declared.Purchase.{Purchase}
use Rattle.purchase.specs.Meter.{Meter, accumulator, counter, cyclic, MeterRule, rule_of, counter_cap, amount_at, count_at, cyclic_at, worth_to, takes_up}
use Rattle.meters.specs.declared.Change.{Change}
use Rattle.meters.specs.declared.Change.TheVariants.{Approve, Decline, SetToLimits, Clear}

-- an entry puts a value or adds to it, the sum stopping at the cap
pub data Entry : Type 0 where
  put : ℕ → Entry
  add : ℕ → Entry

abbrev pub move : ℕ → ℕ → Entry → ℕ
move cap value (put n) = n
move cap value (add n) = cond (ltb cap (value + n)) cap (value + n)

abbrev pub moved : ℕ → ℕ → List Entry → ℕ
moved cap value [] = value
moved cap value (entry ∷ entries) = moved cap (move cap value entry) entries

-- what each answer of conversion counts in a sum: an amount itself, over as MAX (request Four); with no entry in the table the amount
-- doesn't count there
abbrev pub addition : Converted → List Entry
addition (Amount amount) = add amount.0 ∷ []
addition Over = add max ∷ []
addition NoEntry = []

-- an offline approval or an offline decline
abbrev pub offline : Bool → Purchase → Change
offline true purchase = Approve purchase
offline false purchase = Decline

-- the issuer's order 01 or 10
abbrev pub order : (toLimits : Bool) → Change
order true = SetToLimits
order false = Clear

-- a purchase counts; an offline decline counts
abbrev pub counts : MeterRule → Bool
counts rule = rule.active && rule.allow

abbrev pub counts_decline : MeterRule → Bool
counts_decline rule = rule.active && rule.allow && rule.declines

-- a new base or none: by CSU order 01 what is active takes its upper limit, by order 10 zero
abbrev pub based : MeterRule → Change → List Entry
based rule (Approve purchase) = []
based rule Decline = []
based rule SetToLimits = cond rule.active (put rule.upper ∷ []) []
based rule Clear = cond rule.active (put 0 ∷ []) []

-- an addition or none: at an offline approval, or by CSU order 11, what a purchase is worth to a meter that takes it up; at an offline decline 1
abbrev pub added : Rules → Meter → MeterRule → Change → List Entry
added rules meter rule (Approve purchase) = cond (takes_up rules purchase meter && counts rule) (addition (worth_to rules purchase meter)) []
added rules meter rule Decline = cond (counts_decline rule) (add 1 ∷ []) []
added rules meter rule SetToLimits = []
added rules meter rule Clear = []

abbrev pub entered : Rules → Place → Change → Meter → List Entry
entered rules place change meter = based (rule_of rules place meter) change ++ added rules meter (rule_of rules place meter) change

abbrev pub amount_moved : AccumulatorAmount → List Entry → AccumulatorAmount
amount_moved amount entries = record { 0 = moved max amount.0 entries }

-- the values after a change
unfoldable pub applied : Rules → Place → Values → Change → Values
applied rules place values change =
    record {
      accumulators = four (λ i. amount_moved (amount_at values i) (entered rules place change (accumulator i)));
      counters = four (λ i. moved counter_cap (count_at values i) (entered rules place change (counter i)));
      cyclic = two (λ i. amount_moved (cyclic_at values i) (entered rules place change (cyclic i)));
    }
