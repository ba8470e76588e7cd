-- A set-up's body spelled from its fields (document 01, "The paper"; docs/PAPERS.md, "Set-up, kind 1" and the tails of versions 04 and 05). Rows of fields in the
-- paper's order, each field with its width in bytes. There is no offset here: a field stands where the widths before it end.
use Rattle.std.specs.Prelude.{ℕ, zero, suc, ◌+◌, ◌/◌, ◌%◌, ◌^◌, ◌<◌, List, [], ◌∷◌, ◌++◌, length, get_or}

-- ---- fields and their bytes

-- so many bytes, and the number that they write
pub record Field : Type 0 where
  pub width : ℕ
  pub value : ℕ

infix 70 ◌of◌
abbrev pub ◌of◌ : ℕ → ℕ → Field
width of value = record { width = width; value = value }

-- big-endian: the last byte is the lowest
unfoldable pub written : (width value : ℕ) → List ℕ
written zero value = []
written (suc n) value = written n (value / 256) ++ value % 256 ∷ []

unfoldable pub spelled : List Field → List ℕ
spelled [] = []
spelled (f ∷ fs) = written f.width f.value ++ spelled fs

-- each value fits its width
unfoldable pub Fits : List Field → Type 0
Fits [] = Unit
Fits (f ∷ fs) = (f.value < 256 ^ f.width) × Fits fs

abbrev pub widths : List Field → ℕ
widths [] = 0
widths (f ∷ fs) = f.width + widths fs

-- the field at a place of the row, and where it stands: the sum of the widths before it
abbrev pub field_at : List Field → ℕ → Field
field_at fs i = get_or fs i (0 of 0)

abbrev pub offset : List Field → ℕ → ℕ
offset fs zero = 0
offset [] (suc i) = 0
offset (f ∷ fs) (suc i) = f.width + offset fs i

-- ---- what a set-up says

-- numbered 1 to 4
pub record Four (A : Type 0) : Type 0 where
  pub one : A
  pub two : A
  pub three : A
  pub four : A

pub record Accumulator : Type 0 where
  pub currency : ℕ
  pub value : ℕ

-- of an accumulator or of a counter
pub record Limits : Type 0 where
  pub switches : ℕ
  pub lower : ℕ
  pub upper : ℕ

pub record Profile : Type 0 where
  pub number : ℕ
  pub online : ℕ
  pub decline : ℕ
  pub default : ℕ
  pub maximum-on : ℕ
  pub maximum-currency : ℕ
  pub maximum : ℕ
  pub accumulators : Four Limits
  pub counters : Four Limits
  pub accumulator-sent : ℕ
  pub first-sent : ℕ
  pub second-sent : ℕ

-- shift is s + 9
pub record Conversion : Type 0 where
  pub from : ℕ
  pub to : ℕ
  pub digits : ℕ
  pub shift : ℕ

pub record Setup : Type 0 where
  pub key : ℕ
  pub pin : ℕ
  pub required : ℕ
  pub atc : ℕ
  pub online : ℕ
  pub accumulators : Four Accumulator
  pub counters : Four ℕ
  pub profiles : List Profile
  pub conversions : List Conversion

-- ---- what the tail of version 04 says (document 02, request Five)

-- numbered 1 and 2
pub record Two (A : Type 0) : Type 0 where
  pub one : A
  pub two : A

-- kind: 1 day, 2 week, 3 month; first: the day on which a week begins, 0 Friday to 6 Thursday
pub record Cyclic : Type 0 where
  pub currency : ℕ
  pub amount : ℕ
  pub kind : ℕ
  pub first : ℕ

-- of a cyclic accumulator in a profile
pub record CyclicLimit : Type 0 where
  pub switches : ℕ
  pub limit : ℕ

-- the last date, two decimal digits to a byte; the cyclic accumulators; and for each profile, in the set-up's order, their rules
pub record Cycles : Type 0 where
  pub year : ℕ
  pub month : ℕ
  pub day : ℕ
  pub accumulators : Two Cyclic
  pub rules : List (Two CyclicLimit)

-- dates are off, or on
pub data Dates : Type 0 where
  undated : Dates
  dated : Cycles → Dates

-- ---- what the tail of version 05 says (document 02, request Thirteen)

-- the controls of the accumulators and of the counters; and for each profile, in the set-up's order, whether it checks cashback
pub record Controls : Type 0 where
  pub accumulators : Four ℕ
  pub counters : Four ℕ
  pub cashbacks : List ℕ

-- a CPA card, or a CPACE one
pub data Families : Type 0 where
  cpa : Families
  cpace : Controls → Families

-- ---- its rows

abbrev pub listed : {A : Type 0} → Four A → List A
listed x = x.one ∷ x.two ∷ x.three ∷ x.four ∷ []

-- a row for each, one after the other
abbrev pub each : {A : Type 0} → (A → List Field) → List A → List Field
each row [] = []
each row (x ∷ xs) = row x ++ each row xs

-- currency (2) and value (8)
abbrev pub accumulator_row : Accumulator → List Field
accumulator_row a = 2 of a.currency ∷ 8 of a.value ∷ []

abbrev pub counter_row : ℕ → List Field
counter_row value = 1 of value ∷ []

-- key index; PIN tries; issuer authentication required; p; c; ATC (2); go online next
abbrev pub first_row : Setup → List Field
first_row x =
    1 of x.key ∷ 1 of x.pin ∷ 1 of x.required ∷ 1 of length x.profiles ∷ 1 of length x.conversions ∷ 2 of x.atc ∷ 1 of x.online ∷ []

-- and four accumulators; four counter values
unfoldable pub head_row : Setup → List Field
head_row x = first_row x ++ (each accumulator_row (listed x.accumulators) ++ each counter_row (listed x.counters))

-- number; masks Online, Decline, Default (4 each); MTA on, its currency (2), MTA (8)
abbrev pub profile_head : Profile → List Field
profile_head p =
    1 of p.number ∷ 4 of p.online ∷ 4 of p.decline ∷ 4 of p.default ∷ 1 of p.maximum-on ∷ 2 of p.maximum-currency ∷ 8 of p.maximum ∷ []

-- switches (1), lower, upper: 8 bytes each of an accumulator, 1 of a counter
abbrev pub limits_row : ℕ → Limits → List Field
limits_row width l = 1 of l.switches ∷ width of l.lower ∷ width of l.upper ∷ []

-- the accumulator sent; the two counters sent
abbrev pub sent_row : Profile → List Field
sent_row p = 1 of p.accumulator-sent ∷ 1 of p.first-sent ∷ 1 of p.second-sent ∷ []

-- its head, four accumulators, four counters, what is sent
unfoldable pub profile_row : Profile → List Field
profile_row p =
    profile_head p ++ (each (limits_row 8) (listed p.accumulators) ++ (each (limits_row 1) (listed p.counters) ++ sent_row p))

-- from, to (2 each), d (2), s + 9 (1)
unfoldable pub conversion_row : Conversion → List Field
conversion_row c = 2 of c.from ∷ 2 of c.to ∷ 2 of c.digits ∷ 1 of c.shift ∷ []

-- the head, p profiles, c conversions
unfoldable pub setup_row : Setup → List Field
setup_row x = head_row x ++ (each profile_row x.profiles ++ each conversion_row x.conversions)

abbrev pub body : Setup → List ℕ
body x = spelled (setup_row x)

-- ---- the rows of the tail of version 04, where dates are on

abbrev pub paired : {A : Type 0} → Two A → List A
paired x = x.one ∷ x.two ∷ []

-- dated, which is 1; the last date (3)
abbrev pub dated_row : Cycles → List Field
dated_row d = 1 of 1 ∷ 1 of d.year ∷ 1 of d.month ∷ 1 of d.day ∷ []

-- currency (2), amount (8), kind (1), first day (1)
abbrev pub cyclic_row : Cyclic → List Field
cyclic_row c = 2 of c.currency ∷ 8 of c.amount ∷ 1 of c.kind ∷ 1 of c.first ∷ []

-- switches (1), limit (8)
abbrev pub cyclic_limit_row : CyclicLimit → List Field
cyclic_limit_row l = 1 of l.switches ∷ 8 of l.limit ∷ []

-- of both accumulators, in a profile
unfoldable pub cyclic_limits_row : Two CyclicLimit → List Field
cyclic_limits_row r = each cyclic_limit_row (paired r)

unfoldable pub cycles_row : Cycles → List Field
cycles_row d = dated_row d ++ (each cyclic_row (paired d.accumulators) ++ each cyclic_limits_row d.rules)

-- no byte where dates are off
abbrev pub cycles_bytes : Dates → List ℕ
cycles_bytes undated = []
cycles_bytes (dated d) = spelled (cycles_row d)

-- ---- the row of the tail of version 05 of a CPACE card

abbrev pub byte_row : ℕ → List Field
byte_row value = 1 of value ∷ []

-- family, which is 1; the controls of four accumulators and of four counters; p cashback checks
unfoldable pub controls_row : Controls → List Field
controls_row f =
    byte_row 1 ++ (each byte_row (listed f.accumulators) ++ (each byte_row (listed f.counters) ++ each byte_row f.cashbacks))

-- no byte of a CPA card
abbrev pub controls_bytes : Families → List ℕ
controls_bytes cpa = []
controls_bytes (cpace f) = spelled (controls_row f)
