-- Where the fields of a set-up stand, in numbers: the offsets of docs/PAPERS.md, "Set-up, kind 1" and the tails of versions 04, 05 and 07.
use Rattle.std.specs.Prelude.{◌≡◌, List, ℕ, ◌+◌, ◌*◌, ◌<◌, length, get_or}
use Rattle.wire.specs.Wire.{byte, number}
use Rattle.rows.specs.Rows.{Four, Limits, Profile, Conversion, Setup, listed, Two, Cyclic, CyclicLimit, Cycles, paired}
use Rattle.rows.specs.Rows.{Controls}
use Rattle.rows.specs.Tails.{LogEntry, Log}

-- number i + 1 of the four
abbrev pub nth : {A : Type 0} → Four A → ℕ → A
nth x i = get_or (listed x) i x.one

-- an accumulator's switches, lower, upper; a counter's
pub record AccumulatorOffsets (s : List ℕ) (at : ℕ) (l : Limits) : Type 0 where
  pub switches : byte s at ≡ l.switches
  pub lower : number s (at + 1) 8 ≡ l.lower
  pub upper : number s (at + 9) 8 ≡ l.upper

pub record CounterOffsets (s : List ℕ) (at : ℕ) (l : Limits) : Type 0 where
  pub switches : byte s at ≡ l.switches
  pub lower : byte s (at + 1) ≡ l.lower
  pub upper : byte s (at + 2) ≡ l.upper

-- a profile, from its own start
pub record ProfileOffsets (s : List ℕ) (at : ℕ) (p : Profile) : Type 0 where
  pub number_is : byte s at ≡ p.number
  pub online : number s (at + 1) 4 ≡ p.online
  pub decline : number s (at + 5) 4 ≡ p.decline
  pub default : number s (at + 9) 4 ≡ p.default
  pub maximum-on : byte s (at + 13) ≡ p.maximum-on
  pub maximum-currency : number s (at + 14) 2 ≡ p.maximum-currency
  pub maximum : number s (at + 16) 8 ≡ p.maximum
  pub accumulators : (j : ℕ) → j < 4 → AccumulatorOffsets s (at + (24 + 17 * j)) (nth p.accumulators j)
  pub counters : (j : ℕ) → j < 4 → CounterOffsets s (at + (92 + 3 * j)) (nth p.counters j)
  pub accumulator-sent : byte s (at + 104) ≡ p.accumulator-sent
  pub first-sent : byte s (at + 105) ≡ p.first-sent
  pub second-sent : byte s (at + 106) ≡ p.second-sent

pub record ConversionOffsets (s : List ℕ) (at : ℕ) (c : Conversion) : Type 0 where
  pub from : number s at 2 ≡ c.from
  pub to : number s (at + 2) 2 ≡ c.to
  pub digits : number s (at + 4) 2 ≡ c.digits
  pub shift : byte s (at + 6) ≡ c.shift

pub record Offsets (s : List ℕ) (x : Setup) : Type 0 where
  pub key : byte s 0 ≡ x.key
  pub pin : byte s 1 ≡ x.pin
  pub required : byte s 2 ≡ x.required
  pub p : byte s 3 ≡ length x.profiles
  pub c : byte s 4 ≡ length x.conversions
  pub atc : number s 5 2 ≡ x.atc
  pub online : byte s 7 ≡ x.online
  pub currencies : (i : ℕ) → i < 4 → number s (8 + 10 * i) 2 ≡ (nth x.accumulators i).currency
  pub values : (i : ℕ) → i < 4 → number s (8 + 10 * i + 2) 8 ≡ (nth x.accumulators i).value
  pub counters : (i : ℕ) → i < 4 → byte s (48 + i) ≡ nth x.counters i
  pub profiles : (i : ℕ) → i < length x.profiles → (d : Profile) → ProfileOffsets s (52 + 107 * i) (get_or x.profiles i d)
  pub conversions : (i : ℕ) → i < length x.conversions → (d : Conversion)
      → ConversionOffsets s (52 + 107 * length x.profiles + 7 * i) (get_or x.conversions i d)

-- ---- the tail of version 04, from its own start

-- number i + 1 of the two
abbrev pub of_two : {A : Type 0} → Two A → ℕ → A
of_two x i = get_or (paired x) i x.one

pub record CyclicOffsets (t : List ℕ) (at : ℕ) (c : Cyclic) : Type 0 where
  pub currency : number t at 2 ≡ c.currency
  pub amount : number t (at + 2) 8 ≡ c.amount
  pub kind : byte t (at + 10) ≡ c.kind
  pub first : byte t (at + 11) ≡ c.first

pub record CyclicLimitOffsets (t : List ℕ) (at : ℕ) (l : CyclicLimit) : Type 0 where
  pub switches : byte t at ≡ l.switches
  pub limit : number t (at + 1) 8 ≡ l.limit

pub record CyclesOffsets (t : List ℕ) (d : Cycles) : Type 0 where
  pub dated : byte t 0 ≡ 1
  pub year : byte t 1 ≡ d.year
  pub month : byte t 2 ≡ d.month
  pub day : byte t 3 ≡ d.day
  pub accumulators : (i : ℕ) → i < 2 → CyclicOffsets t (4 + 12 * i) (of_two d.accumulators i)
  pub rules : (j : ℕ) → j < length d.rules → (r : Two CyclicLimit) (i : ℕ) → i < 2
      → CyclicLimitOffsets t (28 + 18 * j + 9 * i) (of_two (get_or d.rules j r) i)

-- ---- the tail of version 05, from its own start

pub record ControlsOffsets (t : List ℕ) (f : Controls) : Type 0 where
  pub family : byte t 0 ≡ 1
  pub accumulators : (i : ℕ) → i < 4 → byte t (1 + i) ≡ nth f.accumulators i
  pub counters : (i : ℕ) → i < 4 → byte t (5 + i) ≡ nth f.counters i
  pub cashbacks : (j : ℕ) → j < length f.cashbacks → (d : ℕ) → byte t (9 + j) ≡ get_or f.cashbacks j d

-- ---- the tail of version 07, from its own start

pub record LogEntryOffsets (t : List ℕ) (at : ℕ) (e : LogEntry) : Type 0 where
  pub source : byte t at ≡ e.source
  pub position : byte t (at + 1) ≡ e.position
  pub long : byte t (at + 2) ≡ e.long

pub record TableOffsets (t : List ℕ) (at : ℕ) (es : List LogEntry) : Type 0 where
  pub count : byte t at ≡ length es
  pub entries : (i : ℕ) → i < length es → (d : LogEntry) → LogEntryOffsets t (at + 1 + 3 * i) (get_or es i d)

pub record LogOffsets (t : List ℕ) (l : Log) : Type 0 where
  pub on : byte t 0 ≡ 1
  pub size : byte t 1 ≡ l.size
  pub switches : byte t 2 ≡ l.switches
  pub profiles : (j : ℕ) → j < length l.profiles → byte t (3 + j) ≡ byte l.profiles j
  pub firsts : TableOffsets t (3 + length l.profiles) l.firsts
  pub seconds : TableOffsets t (3 + length l.profiles + 1 + 3 * length l.firsts) l.seconds
