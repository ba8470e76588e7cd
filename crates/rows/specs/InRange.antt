-- The ranges of a set-up's fields (document 01, "Numbers" and "The paper"; document 02, Five, Thirteen and Eight). Key index, ATC, and a counter's value and
-- limits may be any.
use Rattle.std.specs.Prelude.{◌≡◌, List, [], ◌∷◌, ℕ, zero, suc, ◌+◌, ◌-◌, ◌*◌, ◌%◌, ◌≤◌, ◌<◌, length}
use Rattle.calendar.specs.Almanac.{date_after}
use Rattle.rows.specs.Rows.{Accumulator, Limits, Profile, Conversion, Setup, listed, Two, Cyclic, CyclicLimit, Cycles, Dates, undated, dated, paired}
use Rattle.rows.specs.Rows.{Controls, Families, cpa, cpace}
use Rattle.rows.specs.Tails.{LogEntry, Log, Logs, unlogged, logged}

-- of each in a list
abbrev pub Each : {A : Type 0} → (A → Type 0) → List A → Type 0
Each P [] = Unit
Each P (x ∷ xs) = P x × Each P xs

-- no two in a list are alike
abbrev pub NoTwo : {A : Type 0} → (A → A → Type 0) → List A → Type 0
NoTwo Alike [] = Unit
NoTwo Alike (x ∷ xs) = Each (λ y. Alike x y → ⊥) xs × NoTwo Alike xs

-- three decimal digits in two bytes, as 0978; 0000 is allowed
pub record ThreeDigits (code : ℕ) : Type 0 where
  pub hundreds : ℕ
  pub tens : ℕ
  pub ones : ℕ
  pub hundreds-digit : hundreds ≤ 9
  pub tens-digit : tens ≤ 9
  pub ones-digit : ones ≤ 9
  pub digits : code ≡ hundreds * 256 + tens * 16 + ones

-- whole minor units, 0 to MAX
abbrev pub Amount : ℕ → Type 0
Amount n = n ≤ 999999999999

pub record AccumulatorRange (a : Accumulator) : Type 0 where
  pub currency : ThreeDigits a.currency
  pub value : Amount a.value

-- an accumulator has switches 1, 2 and 4, a counter 1, 2, 4 and 8
pub record AccumulatorLimits (l : Limits) : Type 0 where
  pub switches : l.switches ≤ 7
  pub lower : Amount l.lower
  pub upper : Amount l.upper

abbrev pub CounterLimits : Limits → Type 0
CounterLimits l = l.switches ≤ 15

-- numbered 1 to 124; a mask has no bit from the unnamed one on
pub record ProfileRange (unnamed : ℕ) (p : Profile) : Type 0 where
  pub number-least : 1 ≤ p.number
  pub number-most : p.number ≤ 124
  pub online : p.online < unnamed
  pub decline : p.decline < unnamed
  pub default : p.default < unnamed
  pub maximum-on : p.maximum-on ≤ 1
  pub maximum-currency : ThreeDigits p.maximum-currency
  pub maximum : Amount p.maximum
  pub accumulators : Each AccumulatorLimits (listed p.accumulators)
  pub counters : Each CounterLimits (listed p.counters)
  pub accumulator-sent : p.accumulator-sent ≤ 4
  pub first-sent : p.first-sent ≤ 4
  pub second-sent : p.second-sent ≤ 4

-- d 1 to 9,999, s -9 to 3
pub record ConversionRange (c : Conversion) : Type 0 where
  pub from : ThreeDigits c.from
  pub to : ThreeDigits c.to
  pub other : c.from ≡ c.to → ⊥
  pub digits-least : 1 ≤ c.digits
  pub digits-most : c.digits ≤ 9999
  pub shift : c.shift ≤ 12

abbrev pub SameNumber : Profile → Profile → Type 0
SameNumber p q = p.number ≡ q.number

abbrev pub SamePair : Conversion → Conversion → Type 0
SamePair c d = (c.from ≡ d.from) × (c.to ≡ d.to)

-- one to 4 profiles, numbered all different; up to 5 conversions, no pair twice
pub record InRange (x : Setup) (unnamed : ℕ) : Type 0 where
  pub pin : x.pin ≤ 15
  pub required : x.required ≤ 1
  pub profiles-least : 1 ≤ length x.profiles
  pub profiles-most : length x.profiles ≤ 4
  pub conversions-most : length x.conversions ≤ 5
  pub online : x.online ≤ 1
  pub accumulators : Each AccumulatorRange (listed x.accumulators)
  pub profiles : Each (ProfileRange unnamed) x.profiles
  pub numbers : NoTwo SameNumber x.profiles
  pub conversions : Each ConversionRange x.conversions
  pub pairs : NoTwo SamePair x.conversions

-- ---- the tail of version 04

-- one of the 36,525 days from 1 January 2000 on, two decimal digits to a byte
pub record CalendarDay (year month day : ℕ) : Type 0 where
  pub after : ℕ
  pub few : after < 36525
  pub is : record { year = year; month = month; day = day } ≡ date_after after

pub record CyclicRange (c : Cyclic) : Type 0 where
  pub currency : ThreeDigits c.currency
  pub amount : Amount c.amount
  pub kind-least : 1 ≤ c.kind
  pub kind-most : c.kind ≤ 3
  pub first : c.first ≤ 6

pub record CyclicLimitRange (l : CyclicLimit) : Type 0 where
  pub switches : l.switches ≤ 7
  pub limit : Amount l.limit

abbrev pub CyclicLimitsRange : Two CyclicLimit → Type 0
CyclicLimitsRange r = Each CyclicLimitRange (paired r)

pub record CyclesRange (d : Cycles) : Type 0 where
  pub last : CalendarDay d.year d.month d.day
  pub accumulators : Each CyclicRange (paired d.accumulators)
  pub rules : Each CyclicLimitsRange d.rules

abbrev pub DatesRange : Dates → Type 0
DatesRange undated = Unit
DatesRange (dated d) = CyclesRange d

-- ---- the tail of version 05

-- 8 offline PIN, 4 online PIN, 2 signature, 1 no CVM
abbrev pub ControlRange : ℕ → Type 0
ControlRange control = control ≤ 15

abbrev pub CashbackRange : ℕ → Type 0
CashbackRange check = check ≤ 1

pub record ControlsRange (f : Controls) : Type 0 where
  pub accumulators : Each ControlRange (listed f.accumulators)
  pub counters : Each ControlRange (listed f.counters)
  pub cashbacks : Each CashbackRange f.cashbacks

abbrev pub FamiliesRange : Families → Type 0
FamiliesRange cpa = Unit
FamiliesRange (cpace f) = ControlsRange f

-- ---- the tail of version 07

abbrev pub LogsProfile : ℕ → Type 0
LogsProfile flag = flag ≤ 1

abbrev pub SourceUpTo : (highest : ℕ) → LogEntry → Type 0
SourceUpTo highest e = e.source ≤ highest

-- a ring of up to 20; switches 80, 40, 20, 10, 08 and 04; First's table has source 0 alone, Second's 0 and 1
pub record LogRange (l : Log) : Type 0 where
  pub size : l.size ≤ 20
  pub switches : l.switches % 4 ≡ 0
  pub profiles : Each LogsProfile l.profiles
  pub firsts : Each (SourceUpTo 0) l.firsts
  pub seconds : Each (SourceUpTo 1) l.seconds

abbrev pub LogsRange : Logs → Type 0
LogsRange unlogged = Unit
LogsRange (logged l) = LogRange l

-- ---- and no entry of its tables reaches past its data

-- the bytes of First's data
abbrev pub first_long : Dates → Families → ℕ
first_long undated cpa = 12
first_long (dated d) cpa = 15
first_long undated (cpace f) = 21
first_long (dated d) (cpace f) = 24

-- source 0 is First's data, source 1 Second's
abbrev pub data_long : (first source : ℕ) → ℕ
data_long first zero = first
data_long first (suc source) = 8

-- the first byte has position 1; position 0 is "not logged"
abbrev pub EntryWithin : (first : ℕ) → LogEntry → Type 0
EntryWithin first e = 0 < e.position → e.position - 1 + e.long ≤ data_long first e.source

abbrev pub LogsWithin : (first : ℕ) → Logs → Type 0
LogsWithin first unlogged = Unit
LogsWithin first (logged l) = Each (EntryWithin first) l.firsts × Each (EntryWithin first) l.seconds
