-- What an auditor reads off the conversation with the set-up in hand, and no card: the ledger of one accumulator, counter or cyclic
-- accumulator. Each offset and each rule is spelled from document 01 ("The paper", "First: the answer", "Second: the answer", "Numbers")
-- and requests Five, dates by the almanac, Twelve and Thirteen; nothing here knows of a card's state, of its step or of the rules that it decoded.
use Rattle.std.specs.Prelude.{ℕ, zero, suc, ◌+◌, ◌-◌, ◌*◌, ◌/◌, ◌%◌, ◌^◌, Bool, true, false, cond, not, ◌&&◌, List, [], ◌∷◌, ◌++◌, ltb, eqb, length, None, Option, Some}
use Rattle.calendar.specs.declared.Date.{Date}
use Rattle.calendar.specs.declared.Period.{Period}
use Rattle.calendar.specs.declared.Period.TheVariants.{Day, Week, Month}
use Rattle.calendar.specs.Almanac.{civil_of, ordinal, is_new}
use Rattle.cpace.specs.declared.Cvm.{Cvm}
use Rattle.cpace.specs.declared.Cvm.TheVariants.{OnlinePin, Signature, NoCvm}
use Rattle.selection.specs.Selection.{profile_of}
use Rattle.command.specs.declared.First.{First}
use Rattle.element.specs.declared.Write.{Write}
use Rattle.element.specs.declared.Write.TheVariants.{Value, AccumulatorLimits, CounterLimits}
use Rattle.card.specs.Message.{Message, StartCommand, FirstCommand, SecondCommand, ScriptCommand}
use Rattle.state.specs.declared.Answer.{Answer}
use Rattle.state.specs.declared.Answer.TheVariants.{Refused, Started, Given, Done}
use Rattle.state.specs.declared.Kind.TheVariants.{Aac, Tc, Arqc}
use Rattle.purchase.specs.declared.Timing.{Timing}
use Rattle.purchase.specs.declared.Timing.TheVariants.{Undated, InOrder, DateError}
use Rattle.purchase.specs.declared.Purchase.{Purchase}
use Rattle.meters.specs.Meters.{Entry, put, add}
use Rattle.demands.specs.Setup.{Setup, byte_at, number_at, tail_byte, tail_number, family_byte}
use Rattle.purchase.specs.Meter.{Meter, accumulator, counter, cyclic}
use Rattle.demands.specs.Ledger.{owed}
use Rattle.demands.specs.Conversation.{Exchange, is_accepted, could_not_go_online}
use Rattle.demands.specs.Scripts.{Remembered, remembered, wrote_by}

-- ---- the bytes

-- the switch of value k (1, 2, 4 or 8) is on; bit k of a mask is on
abbrev pub is_on : (switches k : ℕ) → Bool
is_on switches k = eqb (switches / k % 2) 1

-- profile i + 1 stands at 52 + 107 i, its number first: the place of the profile of a number among n of them from i on
abbrev pub place_from : Setup → (wanted i n : ℕ) → ℕ
place_from setup wanted i zero = length setup.bytes
place_from setup wanted i (suc n) = cond (eqb (byte_at setup (52 + 107 * i)) wanted) (52 + 107 * i) (place_from setup wanted (suc i) n)

-- among the p profiles of the set-up
unfoldable pub place_of : Setup → ℕ → ℕ
place_of setup wanted = place_from setup wanted 0 (byte_at setup 3)

-- a profile's four accumulators, of 17 bytes each, stand at 24, its four counters, of 3 bytes each, at 92; in the tail of version 04 its
-- two cyclic accumulators, of 9 bytes each, at 28 and 18 for each profile before it
abbrev pub rule_at : ℕ → Meter → ℕ
rule_at profile (accumulator i) = profile + (24 + 17 * i)
rule_at profile (counter i) = profile + (92 + 3 * i)
rule_at profile (cyclic i) = 28 + 18 * ((profile - 52) / 107) + 9 * i

abbrev pub switches_of : Setup → (profile : ℕ) → Meter → ℕ
switches_of setup profile (accumulator i) = byte_at setup (rule_at profile (accumulator i))
switches_of setup profile (counter i) = byte_at setup (rule_at profile (counter i))
switches_of setup profile (cyclic i) = tail_byte setup (rule_at profile (cyclic i))

abbrev pub is_active : Setup → (profile : ℕ) → Meter → Bool
is_active setup profile meter = is_on (switches_of setup profile meter) 1

abbrev pub is_allowed : Setup → (profile : ℕ) → Meter → Bool
is_allowed setup profile meter = is_on (switches_of setup profile meter) 2

abbrev pub is_included : Setup → (profile : ℕ) → Meter → Bool
is_included setup profile meter = is_on (switches_of setup profile meter) 4

-- "include offline declines" is a counter's
abbrev pub counts_declines : Setup → (profile : ℕ) → Meter → Bool
counts_declines setup profile (accumulator i) = false
counts_declines setup profile (counter i) = is_on (switches_of setup profile (counter i)) 8
counts_declines setup profile (cyclic i) = false

-- limits that scripts wrote, the newest first: the last to accumulator i + 1, to counter i + 1, in every profile, active or not; else those given
pub record Limits : Type 0 where
  pub lower : ℕ
  pub upper : ℕ

abbrev pub accumulator_limits : (i : ℕ) → List Write → (given : Limits) → Limits
accumulator_limits i [] given = given
accumulator_limits i (Value slot amount ∷ older) given = accumulator_limits i older given
accumulator_limits i (AccumulatorLimits slot lower upper ∷ older) given =
    cond (eqb slot i) (record { lower = lower.0; upper = upper.0 }) (accumulator_limits i older given)
accumulator_limits i (CounterLimits slot lower upper ∷ older) given = accumulator_limits i older given

abbrev pub counter_limits : (i : ℕ) → List Write → (given : Limits) → Limits
counter_limits i [] given = given
counter_limits i (Value slot amount ∷ older) given = counter_limits i older given
counter_limits i (AccumulatorLimits slot lower upper ∷ older) given = counter_limits i older given
counter_limits i (CounterLimits slot lower upper ∷ older) given =
    cond (eqb slot i) (record { lower = lower; upper = upper }) (counter_limits i older given)

-- those of a profile that stand in its bytes, lower before upper; a cyclic accumulator has one limit, which no script writes
abbrev pub limits_of : Setup → (profile : ℕ) → Meter → Limits
limits_of setup profile (accumulator i) =
    let at = rule_at profile (accumulator i) in
    accumulator_limits i setup.written (record { lower = number_at setup (at + 1) 8; upper = number_at setup (at + 9) 8 })
limits_of setup profile (counter i) =
    let at = rule_at profile (counter i) in
    counter_limits i setup.written (record { lower = byte_at setup (at + 1); upper = byte_at setup (at + 2) })
limits_of setup profile (cyclic i) =
    let limit = tail_number setup (rule_at profile (cyclic i) + 1) 8 in
    record { lower = limit; upper = limit }

abbrev pub upper_of : Setup → (profile : ℕ) → Meter → ℕ
upper_of setup profile meter = (limits_of setup profile meter).upper

-- 0 to 999,999,999,999 (called MAX)
abbrev pub max : ℕ
max = 999_999_999_999

-- what the card starts from, and where a sum stops
abbrev pub start_of : Setup → Meter → ℕ
start_of setup (accumulator i) = number_at setup (10 + 10 * i) 8
start_of setup (counter i) = byte_at setup (48 + i)
start_of setup (cyclic i) = tail_number setup (6 + 12 * i) 8

abbrev pub cap_of : Meter → ℕ
cap_of (accumulator i) = max
cap_of (counter i) = 255
cap_of (cyclic i) = max

-- what an amount comes to in another currency: so much, over (larger than MAX), or nothing where there is no entry
pub data Conversion : Type 0 where
  comes_to : ℕ → Conversion
  over : Conversion
  none : Conversion

-- n / k: syllabus 0 drops its fraction, 1 rounds it up to a whole unit
abbrev pub whole : (syllabus n k : ℕ) → ℕ
whole syllabus n k = cond (eqb syllabus 1 && ltb 0 (n % k)) (n / k + 1) (n / k)

abbrev pub up_to_max : ℕ → Conversion
up_to_max n = cond (ltb max n) over (comes_to n)

-- conversion i + 1 stands behind the profiles: from, to, d, s + 9; amount x d x 10^s, a whole number of units
abbrev pub by_entry : Setup → Purchase → (to i n : ℕ) → Conversion
by_entry setup purchase to i zero = none
by_entry setup purchase to i (suc n) =
    let at = 52 + 107 * byte_at setup 3 + 7 * i in
    cond (eqb (number_at setup at 2) purchase.currency && eqb (number_at setup (at + 2) 2) to)
    (up_to_max (whole setup.syllabus (purchase.amount.0 * number_at setup (at + 4) 2 * 10 ^ byte_at setup (at + 6)) (10 ^ 9)))
    (by_entry setup purchase to (suc i) n)

-- same currency: the amount itself; otherwise by one of the c entries
unfoldable pub converted : Setup → Purchase → (to : ℕ) → Conversion
converted setup purchase to = cond (eqb purchase.currency to) (comes_to purchase.amount.0) (by_entry setup purchase to 0 (byte_at setup 4))

-- what a purchase is worth: to an accumulator the amount in its currency, to a counter 1
abbrev pub worth_to : Setup → Purchase → Meter → Conversion
worth_to setup purchase (accumulator i) = converted setup purchase (number_at setup (8 + 10 * i) 2)
worth_to setup purchase (counter i) = comes_to 1
worth_to setup purchase (cyclic i) = converted setup purchase (tail_number setup (4 + 12 * i) 2)

-- what that adds: over reads as MAX, and with no entry the amount doesn't count
abbrev pub adds : Conversion → List Entry
adds (comes_to n) = add n ∷ []
adds over = add max ∷ []
adds none = []

-- ---- the conversation

-- the profile that the last accepted Start named, or that selection gave it
abbrev pub named_by : Message → Answer → ℕ → ℕ
named_by (StartCommand start) answer before = cond (is_accepted answer) (profile_of start.chosen) before
named_by (FirstCommand first) answer before = before
named_by (SecondCommand second) answer before = before
named_by (ScriptCommand result template) answer before = before

unfoldable pub named : List Exchange → ℕ
named [] = 0
named (exchange ∷ older) = named_by exchange.command exchange.answer (named older)

-- a date earlier than the last one is a date error
abbrev pub is_late : (last date : Date) → Bool
is_late last date = ltb (ordinal (civil_of date)) (ordinal (civil_of last))

abbrev pub timed : (last : Date) → Option Date → Timing
timed last None = Undated
timed last (Some date) = cond (is_late last date) (DateError date) InOrder

-- the purchase that a First brings, after the last date
abbrev pub brought : (last : Date) → First → Purchase
brought last first =
    record {
      amount = first.amount;
      currency = first.currency;
      timing = timed last first.when;
      cvm = first.cvm;
      cashback = first.cashback;
    }

-- the purchase that the last accepted First brought
abbrev pub bought_by : Message → Answer → (last : Date) → Purchase → Purchase
bought_by (StartCommand start) answer last before = before
bought_by (FirstCommand first) answer last before = cond (is_accepted answer) (brought last first) before
bought_by (SecondCommand second) answer last before = before
bought_by (ScriptCommand result template) answer last before = before

-- writes in their order, behind which stand older ones, the newest first
abbrev pub newest : List Write → (older : List Write) → List Write
newest [] older = older
newest (write ∷ writes) older = newest writes (write ∷ older)

-- the set-up in force: its bytes stay, and a script writes limits
abbrev pub with_writes : Setup → List Write → Setup
with_writes setup writes =
    record {
      bytes = setup.bytes;
      tail = setup.tail;
      family = setup.family;
      syllabus = setup.syllabus;
      unnamed = setup.unnamed;
      written = newest writes setup.written;
    }

unfoldable pub in_force : Setup → List Exchange → Setup
in_force setup [] = setup
in_force setup (exchange ∷ older) =
    with_writes (in_force setup older) (wrote_by exchange.command exchange.answer (remembered setup older))

-- where the profile of the last accepted Start stands in it
abbrev pub place_by : Setup → List Exchange → ℕ
place_by setup log = place_of (in_force setup log) (named log)

abbrev pub is_tc : Answer → Bool
is_tc (Refused refusal) = false
is_tc (Started atc visits) = false
is_tc (Given Aac atc iad) = false
is_tc (Given Tc atc iad) = true
is_tc (Given Arqc atc iad) = false
is_tc Done = false

abbrev pub is_aac : Answer → Bool
is_aac (Refused refusal) = false
is_aac (Started atc visits) = false
is_aac (Given Aac atc iad) = true
is_aac (Given Tc atc iad) = false
is_aac (Given Arqc atc iad) = false
is_aac Done = false

-- the last date: that of an accepted First without a date error; and where there was one, that of its transaction, if a Second answers TC
-- with another code than Y3 or Z3 (Annex I's recovery)
abbrev pub latest : (last : Date) → Option Date → Date
latest last None = last
latest last (Some date) = cond (is_late last date) last date

abbrev pub recovered : Timing → (last : Date) → Date
recovered Undated last = last
recovered InOrder last = last
recovered (DateError date) last = date

abbrev pub last_by : Message → Answer → Purchase → (last : Date) → Date
last_by (StartCommand start) answer purchase last = last
last_by (FirstCommand first) answer purchase last = cond (is_accepted answer) (latest last first.when) last
last_by (SecondCommand second) answer purchase last =
    cond (is_tc answer && not (could_not_go_online second.code)) (recovered purchase.timing last) last
last_by (ScriptCommand result template) answer purchase last = last

-- both over the conversation; a fresh card's last date comes with the set-up, at 1 of the tail
pub record Dealing : Type 0 where
  pub purchase : Purchase
  pub last : Date

unfoldable pub dealing : Setup → List Exchange → Dealing
dealing setup [] =
    record {
      purchase = record { amount = record { 0 = 0 }; currency = 0; timing = Undated; cvm = NoCvm; cashback = false };
      last = record { year = tail_byte setup 1; month = tail_byte setup 2; day = tail_byte setup 3 };
    }
dealing setup (exchange ∷ older) =
    let before = dealing setup older in
    record {
      purchase = bought_by exchange.command exchange.answer before.last before.purchase;
      last = last_by exchange.command exchange.answer before.purchase before.last;
    }

abbrev pub bought : Setup → List Exchange → Purchase
bought setup log = (dealing setup log).purchase

abbrev pub last_date : Setup → List Exchange → Date
last_date setup log = (dealing setup log).last

-- an offline approval is a TC at First, or at Second after Y3 or Z3, and nothing else
abbrev pub approves : Message → Answer → Bool
approves (StartCommand start) answer = false
approves (FirstCommand first) answer = is_tc answer
approves (SecondCommand second) answer = could_not_go_online second.code && is_tc answer
approves (ScriptCommand result template) answer = false

-- a cyclic accumulator takes part only where the purchase's date is in order
abbrev pub is_timely : Timing → Bool
is_timely Undated = false
is_timely InOrder = true
is_timely (DateError date) = false

abbrev pub takes_part : Purchase → Meter → Bool
takes_part purchase (accumulator i) = true
takes_part purchase (counter i) = true
takes_part purchase (cyclic i) = is_timely purchase.timing

-- the bit of a CVM in a control (8, offline PIN, is never asked)
abbrev pub cvm_bit : Cvm → ℕ
cvm_bit OnlinePin = 4
cvm_bit Signature = 2
cvm_bit NoCvm = 1

-- a control closes its slot to a purchase whose CVM's bit is on in it
abbrev pub is_closed : (control : ℕ) → Purchase → Bool
is_closed control purchase = is_on control (cvm_bit purchase.cvm)

-- a meter takes a purchase up unless it is closed to it: a CPACE card's four accumulators have their controls at 1, its four counters at 5
abbrev pub takes_up : Setup → Purchase → Meter → Bool
takes_up setup purchase (accumulator i) = not (is_closed (family_byte setup (1 + i)) purchase)
takes_up setup purchase (counter i) = not (is_closed (family_byte setup (5 + i)) purchase)
takes_up setup purchase (cyclic i) = is_timely purchase.timing

-- each active accumulator with "allow accumulation" that takes the purchase up grows by the converted amount, each active counter with "allow
-- counting" by 1
abbrev pub counted : Setup → (profile : ℕ) → Purchase → Meter → List Entry
counted setup profile purchase meter =
    cond (takes_up setup purchase meter && (is_active setup profile meter && is_allowed setup profile meter)) (adds (worth_to setup purchase meter)) []

-- AAC at First, or at Second after Y3 or Z3: each active counter with both "allow counting" and "include offline declines" grows by 1
abbrev pub declined : Setup → (profile : ℕ) → Meter → List Entry
declined setup profile meter =
    cond (is_active setup profile meter && is_allowed setup profile meter && counts_declines setup profile meter) (add 1 ∷ []) []

-- CSU byte 2 b2-b1: 00 nothing, 01 the active take this profile's upper limits, 10 they become zero, 11 add as in an offline approval
abbrev pub ordered : Setup → (profile : ℕ) → Purchase → (csu : ℕ) → Meter → List Entry
ordered setup profile purchase csu meter =
    cond (eqb (csu / 65536 % 4) 1) (cond (is_active setup profile meter) (put (upper_of setup profile meter) ∷ []) [])
    (cond (eqb (csu / 65536 % 4) 2) (cond (is_active setup profile meter) (put 0 ∷ []) [])
    (cond (eqb (csu / 65536 % 4) 3) (counted setup profile purchase meter) []))

-- cyclic accumulator i + 1 stands at 4 + 12 i: currency (2), amount (8), kind (1 day, 2 week, 3 month), first day
abbrev pub period_of : Setup → (i : ℕ) → Period
period_of setup i = cond (eqb (tail_byte setup (14 + 12 * i)) 1) Day (cond (eqb (tail_byte setup (14 + 12 * i)) 2) Week Month)

-- a First's date begins its cycle if that began after the last date; the amount is then zero, active or not
abbrev pub begins_on : Setup → (i : ℕ) → (last : Date) → Option Date → Bool
begins_on setup i last None = false
begins_on setup i last (Some date) = is_new (period_of setup i) (tail_byte setup (15 + 12 * i)) (civil_of last) (civil_of date)

abbrev pub begun : Setup → (last : Date) → Option Date → Meter → List Entry
begun setup last when (accumulator i) = []
begun setup last when (counter i) = []
begun setup last when (cyclic i) = cond (begins_on setup i last when) (put 0 ∷ []) []

-- a script puts the values that it writes, of an accumulator that is active or not, the newest first
abbrev pub put_by : Write → Meter → List Entry
put_by (Value slot amount) (accumulator i) = cond (eqb slot i) (put amount.0 ∷ []) []
put_by (Value slot amount) (counter i) = []
put_by (Value slot amount) (cyclic i) = []
put_by (AccumulatorLimits slot lower upper) meter = []
put_by (CounterLimits slot lower upper) meter = []

abbrev pub all_put : List Write → Meter → List Entry
all_put [] meter = []
all_put (write ∷ writes) meter = all_put writes meter ++ put_by write meter

-- what a command and its answer enter, for the profile and the purchase of the transaction, the newest first: whatever First answers, a
-- cycle begins before it counts
abbrev pub entered : Setup → (profile : ℕ) → (last : Date) → Purchase → Remembered → Meter → Message → Answer → List Entry
entered setup profile last purchase scripts meter (StartCommand start) answer = []
entered setup profile last purchase scripts meter (FirstCommand first) answer =
    cond (is_tc answer) (counted setup profile purchase meter) (cond (is_aac answer) (declined setup profile meter) [])
    ++ cond (is_accepted answer) (begun setup last first.when meter) []
entered setup profile last purchase scripts meter (SecondCommand second) answer =
    cond (is_accepted answer)
    (cond (could_not_go_online second.code)
    (cond (is_tc answer) (counted setup profile purchase meter) (declined setup profile meter))
    (cond (eqb second.issuer 1) (ordered setup profile purchase second.csu meter) []))
    []
entered setup profile last purchase scripts meter (ScriptCommand result template) answer =
    all_put (wrote_by (ScriptCommand result template) answer scripts) meter

-- by the set-up in force when the command came
unfoldable pub ledger : Setup → Meter → List Exchange → List Entry
ledger setup meter [] = []
ledger setup meter (exchange ∷ older) =
    let command = exchange.command in
    let answer = exchange.answer in
    let last = last_date setup older in
    let purchase = bought_by command answer last (bought setup older) in
    entered (in_force setup older) (place_by setup older) last purchase (remembered setup older) meter command answer ++ ledger setup meter older

-- what it then must hold
abbrev pub audited : Setup → List Exchange → Meter → ℕ
audited setup log meter = owed (cap_of meter) (start_of setup meter) (ledger setup meter log)

-- and what it holds when a First's tests come: its cycle has begun
abbrev pub tested : Setup → List Exchange → First → Meter → ℕ
tested setup log first meter =
    owed (cap_of meter) (start_of setup meter) (begun (in_force setup log) (last_date setup log) first.when meter ++ ledger setup meter log)
