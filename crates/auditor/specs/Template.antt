-- An auditor's reader of an issuer script's template: its commands (EMV Book 3 Annex B), and what each of them writes (request Twelve; CPA 18.8, Tables
-- 18-6 and J-1). It takes bytes apart from the front, and counts no places.
use Rattle.std.specs.Prelude.{ℕ, zero, suc, ◌+◌, ◌-◌, ◌*◌, ◌/◌, ◌%◌, ◌≤◌, ◌<◌, List, [], ◌∷◌, ◌++◌, Bool, true, false, ◌&&◌, cond, length, take, drop, get_or, ltb, leb, eqb, Option, None, Some}
use Rattle.wire.specs.Wire.{byte}
use Rattle.money.specs.declared.AccumulatorAmount.{AccumulatorAmount}
use Rattle.element.specs.declared.Write.{Write}
use Rattle.element.specs.declared.Write.TheVariants.{Value, AccumulatorLimits, CounterLimits}

-- A VALUE, which stands behind its length, and what is behind the value
pub record Parted : Type 0 where
  pub value : List ℕ
  pub behind : List ℕ

-- of n bytes; none where there are fewer
abbrev pub parted : (n : ℕ) → List ℕ → Option Parted
parted n s = cond (leb n (length s)) (Some (record { value = take n s; behind = drop n s })) None

-- of as many as the next byte says, as the next two say
abbrev pub by_one : List ℕ → Option Parted
by_one [] = None
by_one (n ∷ s) = parted n s

abbrev pub by_two : List ℕ → Option Parted
by_two [] = None
by_two (m ∷ []) = None
by_two (m ∷ n ∷ s) = parted (m * 256 + n) s

-- the length is 00 to 7F; or 81, and one byte says it
unfoldable pub short_in : List ℕ → Option Parted
short_in [] = None
short_in (n ∷ s) = cond (ltb n 0x80) (parted n s) (cond (eqb n 0x81) (by_one s) None)

-- or, in a template, 82, and two bytes say it
unfoldable pub value_in : List ℕ → Option Parted
value_in [] = None
value_in (n ∷ s) = cond (eqb n 0x82) (by_two s) (short_in (n ∷ s))

-- THE COMMANDS of a template. A tag has a second byte where the low five bits of the first are all ones
abbrev pub behind_tag : (first : ℕ) → List ℕ → List ℕ
behind_tag b s = cond (eqb (b % 32) 31) (drop 1 s) s

-- of an object whose tag begins with b, and of what is behind it: bit 6 says constructed, which holds a list; a primitive 86 is a command
abbrev pub from_object : (list : List ℕ → List (List ℕ)) → (first : ℕ) → Option Parted → List (List ℕ)
from_object list b None = []
from_object list b (Some p) = cond (eqb (b / 32 % 2) 1) (list p.value) (cond (eqb b 0x86) (p.value ∷ []) []) ++ list p.behind

-- of a list of objects, of at most n bytes; a filler 00 is passed over
unfoldable pub commands_by : (n : ℕ) → List ℕ → List (List ℕ)
commands_by zero s = []
commands_by (suc n) [] = []
commands_by (suc n) (b ∷ s) =
    let passed = commands_by n s in
    let read = from_object (commands_by n) b (value_in (behind_tag b s)) in
    cond (eqb b 0x00) passed read

unfoldable pub commands_in : List ℕ → List (List ℕ)
commands_in s = commands_by (length s) s

-- AN AMOUNT: 12 decimal digits, two to a byte
unfoldable pub digits_in : List ℕ → List ℕ
digits_in [] = []
digits_in (b ∷ s) = b / 16 ∷ b % 16 ∷ digits_in s

unfoldable pub are_digits : List ℕ → Bool
are_digits [] = true
are_digits (d ∷ ds) = leb d 9 && are_digits ds

-- the number that they write, behind the digits of one that is read already
unfoldable pub decimal : (read : ℕ) → List ℕ → ℕ
decimal n [] = n
decimal n (d ∷ ds) = decimal (n * 10 + d) ds

unfoldable pub is_amount : List ℕ → Bool
is_amount v = eqb (length v) 6 && are_digits (digits_in v)

unfoldable pub amount_in : List ℕ → AccumulatorAmount
amount_in v = record { 0 = decimal 0 (digits_in v) }

-- AN ELEMENT: what it writes, by the second byte of its tag and by its value. One of four tags from the first on; slots count from 0
abbrev pub is_slot : (first tag : ℕ) → Bool
is_slot first tag = leb first tag && ltb tag (first + 4)

-- under BF30: DF01 to DF04, the value of an accumulator; DF11 to DF14, its limits, lower and upper, 6 bytes each
unfoldable pub of_accumulator : (tag : ℕ) → List ℕ → Option Write
of_accumulator tag v =
    cond (is_slot 0x01 tag && is_amount v) (Some (Value (tag - 0x01) (amount_in v)))
    (cond (is_slot 0x11 tag && is_amount (take 6 v) && is_amount (drop 6 v)) (Some (AccumulatorLimits (tag - 0x11) (amount_in (take 6 v)) (amount_in (drop 6 v))))
    None)

-- under BF35: DF11 to DF14, the limits of a counter, lower and upper, a byte each
unfoldable pub of_counter : (tag : ℕ) → List ℕ → Option Write
of_counter tag v = cond (is_slot 0x11 tag && eqb (length v) 2) (Some (CounterLimits (tag - 0x11) (byte v 0) (byte v 1))) None

-- A LIST of elements: what they write, in order; none where one fails
abbrev pub and_then : Option Write → Option (List Write) → Option (List Write)
and_then None ws = None
and_then (Some w) None = None
and_then (Some w) (Some ws) = Some (w ∷ ws)

abbrev pub from_value : (write : List ℕ → Option Write) → (list : List ℕ → Option (List Write)) → Option Parted → Option (List Write)
from_value write list None = None
from_value write list (Some p) = and_then (write p.value) (list p.behind)

-- behind DF, the first byte of the tag
abbrev pub from_tag : (write : ℕ → List ℕ → Option Write) → (list : List ℕ → Option (List Write)) → List ℕ → Option (List Write)
from_tag write list [] = None
from_tag write list (tag ∷ s) = from_value (write tag) list (short_in s)

-- a list of at most n bytes; a filler 00 is passed over
unfoldable pub list_by : (write : ℕ → List ℕ → Option Write) → (n : ℕ) → List ℕ → Option (List Write)
list_by write zero s = Some []
list_by write (suc n) [] = Some []
list_by write (suc n) (b ∷ s) =
    let passed = list_by write n s in
    let read = from_tag write (list_by write n) s in
    cond (eqb b 0x00) passed (cond (eqb b 0xDF) read None)

-- A COMMAND. Whether bytes begin so
unfoldable pub begins : (first : List ℕ) → List ℕ → Bool
begins [] s = true
begins (b ∷ bs) [] = false
begins (b ∷ bs) (c ∷ s) = eqb c b && begins bs s

-- its last bytes: 8E 04 and four more, which are not looked at
abbrev pub is_mac : List ℕ → Bool
is_mac s = begins (0x8E ∷ 0x04 ∷ []) s && eqb (length s) 6

abbrev pub from_list : (write : ℕ → List ℕ → Option Write) → Option Parted → Option (List Write)
from_list write None = None
from_list write (Some p) = cond (is_mac p.behind) (list_by write (length p.value) p.value) None

-- behind P1 P2: Lc, and Lc bytes: 81, a length and the list; the MAC
unfoldable pub data_in : (write : ℕ → List ℕ → Option Write) → List ℕ → Option (List Write)
data_in write [] = None
data_in write (lc ∷ s) = cond (eqb lc (length s) && begins (0x81 ∷ []) s) (from_list write (short_in (drop 1 s))) None

-- 0C DA, BF30 or BF35: what the command writes, none where it fails
unfoldable pub writes_in : List ℕ → Option (List Write)
writes_in c =
    cond (begins (0x0C ∷ 0xDA ∷ 0xBF ∷ 0x30 ∷ []) c) (data_in of_accumulator (drop 4 c))
    (cond (begins (0x0C ∷ 0xDA ∷ 0xBF ∷ 0x35 ∷ []) c) (data_in of_counter (drop 4 c))
    None)

-- WHAT THE LAWS SAY: bytes, and commands of bytes
abbrev pub Bytes : List ℕ → Type 0
Bytes s = (i : ℕ) → get_or s i 0 < 256

unfoldable pub EachBytes : List (List ℕ) → Type 0
EachBytes [] = Unit
EachBytes (c ∷ cs) = Bytes c × EachBytes cs

-- four slots, amounts to MAX, limits of a counter in a byte
abbrev pub IsInRange : Write → Type 0
IsInRange (Value slot amount) = (slot < 4) × (amount.0 ≤ 999_999_999_999)
IsInRange (AccumulatorLimits slot lower upper) = (slot < 4) × (lower.0 ≤ 999_999_999_999) × (upper.0 ≤ 999_999_999_999)
IsInRange (CounterLimits slot lower upper) = (slot < 4) × (lower < 256) × (upper < 256)

unfoldable pub InRange : List Write → Type 0
InRange [] = Unit
InRange (w ∷ ws) = IsInRange w × InRange ws
