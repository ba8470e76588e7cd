-- A PUT DATA command written from what it is to write, apart from any reader: P1 P2, fillers and elements, a MAC, and for each length one of its two forms.
use Rattle.std.specs.Prelude.{◌≡◌, List, [], ◌∷◌, ◌++◌, ℕ, ◌+◌, ◌≤◌, ◌<◌, length, get_or}
use Rattle.money.specs.Money.{max}
use Rattle.iad.specs.Iad.{pairs_of}
use Rattle.element.specs.declared.Write.{Write}
use Rattle.element.specs.declared.Write.TheVariants.{Value, AccumulatorLimits, CounterLimits}

-- A LENGTH in one byte, or in 81 and one byte
pub data Form : Type 0 where
  short : Form
  long : Form

abbrev pub length_bytes : Form → ℕ → List ℕ
length_bytes short n = n ∷ []
length_bytes long n = 0x81 ∷ n ∷ []

-- the lengths of a form are below this
abbrev pub limit : Form → ℕ
limit short = 0x80
limit long = 0x100

-- AN ELEMENT: the second byte of its tag, DF01 to DF04 or DF11 to DF14, and its value; slots count from 0
abbrev pub tag_byte : Write → ℕ
tag_byte (Value slot amount) = 0x01 + slot
tag_byte (AccumulatorLimits slot lower upper) = 0x11 + slot
tag_byte (CounterLimits slot lower upper) = 0x11 + slot

-- amounts in 12 digits, two to a byte
abbrev pub value_bytes : Write → List ℕ
value_bytes (Value slot amount) = pairs_of amount.0 6
value_bytes (AccumulatorLimits slot lower upper) = pairs_of lower.0 6 ++ pairs_of upper.0 6
value_bytes (CounterLimits slot lower upper) = lower ∷ upper ∷ []

-- P1 P2: BF30 for accumulators, BF35 for counters
pub data Object : Type 0 where
  accumulators : Object
  counters : Object

abbrev pub second_byte : Object → ℕ
second_byte accumulators = 0x30
second_byte counters = 0x35

-- which elements may stand under it: of four slots, amounts to MAX, counters' limits in a byte
abbrev pub IsOf : Object → Write → Type 0
IsOf accumulators (Value slot amount) = (slot < 4) × (amount.0 ≤ max)
IsOf accumulators (AccumulatorLimits slot lower upper) = (slot < 4) × (lower.0 ≤ max) × (upper.0 ≤ max)
IsOf accumulators (CounterLimits slot lower upper) = ⊥
IsOf counters (Value slot amount) = ⊥
IsOf counters (AccumulatorLimits slot lower upper) = ⊥
IsOf counters (CounterLimits slot lower upper) = (slot < 4) × (lower < 256) × (upper < 256)

-- A LIST of fillers and elements
pub data Item : Type 0 where
  filler : Item
  element : Form → Write → Item

abbrev pub item_bytes : Item → List ℕ
item_bytes filler = 0x00 ∷ []
item_bytes (element form w) = 0xDF ∷ tag_byte w ∷ (length_bytes form (length (value_bytes w)) ++ value_bytes w)

unfoldable pub list_bytes : List Item → List ℕ
list_bytes [] = []
list_bytes (i ∷ is) = item_bytes i ++ list_bytes is

-- what it writes, in order
unfoldable pub list_writes : List Item → List Write
list_writes [] = []
list_writes (filler ∷ is) = list_writes is
list_writes (element form w ∷ is) = w ∷ list_writes is

unfoldable pub AreOf : Object → List Item → Type 0
AreOf object [] = Unit
AreOf object (filler ∷ is) = AreOf object is
AreOf object (element form w ∷ is) = IsOf object w × AreOf object is

-- A COMMAND: 0C DA, P1 P2, Lc, and Lc bytes: 81, a length, the list, 8E 04 and the MAC
pub record Command : Type 0 where
  pub object : Object
  pub form : Form
  pub list : List Item
  pub mac : List ℕ

abbrev pub data_bytes : Command → List ℕ
data_bytes c = 0x81 ∷ (length_bytes c.form (length (list_bytes c.list)) ++ (list_bytes c.list ++ 0x8E ∷ 0x04 ∷ c.mac))

unfoldable pub written : Command → List ℕ
written c = 0x0C ∷ 0xDA ∷ 0xBF ∷ second_byte c.object ∷ length (data_bytes c) ∷ data_bytes c

abbrev pub Bytes : List ℕ → Type 0
Bytes s = (i : ℕ) → get_or s i 0 < 256

-- what can be written: lengths that fit their bytes, elements of the object, any four bytes as the MAC
pub record Proper (c : Command) : Type 0 where
  pub elements : AreOf c.object c.list
  pub fits : length (list_bytes c.list) < limit c.form
  pub lc : length (data_bytes c) < 256
  pub four : length c.mac ≡ 4
  pub bytes : Bytes c.mac
