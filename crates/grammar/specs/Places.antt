-- Where the set-up's reader finds what a line says, by the names of `layout`; and the numbers that names stand for.
use Rattle.std.specs.Prelude.{Bool, true, cond, ◌&&◌, List, [], ◌∷◌, ◌++◌, ℕ, ◌+◌, eqb, length}
use Prim.Native.String.{String}
use Rattle.layout.specs.Layout.{key_index, pin_tries, required, atc, online_next, counters, value, accumulator_from}
use Rattle.layout.specs.Layout.{online, decline, default, maximum_on, maximum_currency, maximum, accumulator_sent, first_sent, second_sent}
use Rattle.layout.specs.Layout.{accumulator_limit, counter_limit, lower, upper, accumulator_rule_from, counter_rule_from, to, digits, shift}
use Rattle.layout.specs.Layout.{last_date, cycle_from, cycle_amount, cycle_kind, first_day, cyclic_rule_from, cyclic_limit, control_from, cashback_from}
use Rattle.words.specs.Words.{word, same, name_of, flags}
use Rattle.forms.specs.Form.{say, count, bytes, named, date, code, Form, done, rest, may, part, bits, either}
use Rattle.forms.specs.Table.{Field, Group}
use Rattle.forms.specs.Tail.{Item, fields, each, counted, entries, Tail}
use Rattle.forms.specs.Row.{Row}
use Rattle.forms.specs.Spot.{Spot, spot, first_of}

abbrev says : String → String → ℕ → ℕ → Spot
says key label place wide = spot (word key) (word label) place wide

-- ---- the head

unfoldable pub first_spots : List Spot
first_spots = says "key" "key" key_index 1 ∷ says "pin" "pin" pin_tries 1 ∷ says "authentication" "authentication" required 1 ∷ []

abbrev accumulator : String → ℕ → List Spot
accumulator key i = says key "in" (accumulator_from i) 2 ∷ says key "from" (accumulator_from i + value) 8 ∷ []

unfoldable pub second_spots : List Spot
second_spots =
    says "atc" "atc" atc 2
    ∷ says "go-online" "go-online" online_next 1
    ∷ accumulator "a1" 0 ++ (accumulator "a2" 1 ++ (accumulator "a3" 2 ++ (accumulator "a4" 3
    ++ (says "c1" "from" counters 1 ∷ says "c2" "from" (counters + 1) 1 ∷ says "c3" "from" (counters + 2) 1 ∷ says "c4" "from" (counters + 3) 1 ∷ []))))

-- ---- a profile and a conversion, from their own start

abbrev rule : String → ℕ → ℕ → List Spot
rule key from limit = says key key from 1 ∷ says key "lower" (from + lower) limit ∷ says key "upper" (from + upper limit) limit ∷ []

unfoldable pub profile_spots : List Spot
profile_spots =
    says "online" "online" online 4
    ∷ says "decline" "decline" decline 4
    ∷ says "default" "default" default 4
    ∷ says "mta" "mta" maximum_on 1 ∷ says "mta" "in" maximum_currency 2 ∷ says "mta" "above" maximum 8
    ∷ rule "a1" (accumulator_rule_from 0) accumulator_limit ++ (rule "a2" (accumulator_rule_from 1) accumulator_limit
    ++ (rule "a3" (accumulator_rule_from 2) accumulator_limit ++ (rule "a4" (accumulator_rule_from 3) accumulator_limit
    ++ (rule "c1" (counter_rule_from 0) counter_limit ++ (rule "c2" (counter_rule_from 1) counter_limit
    ++ (rule "c3" (counter_rule_from 2) counter_limit ++ (rule "c4" (counter_rule_from 3) counter_limit
    ++ (says "send" "accumulator" accumulator_sent 1 ∷ says "send" "counters" first_sent 1 ∷ says "send" "counters" second_sent 1 ∷ []))))))))

unfoldable pub conversion_spots : List Spot
conversion_spots =
    says "conversion" "conversion" 0 2 ∷ says "conversion" "to" to 2 ∷ says "conversion" "by" digits 2 ∷ says "conversion" "by" shift 1 ∷ []

-- ---- the tails of versions 04 and 05, from their switch

abbrev fields_in : List Item → List Field
fields_in [] = []
fields_in (fields fs ∷ is) = fs
fields_in (each g ∷ is) = fields_in is
fields_in (counted g ∷ is) = fields_in is
fields_in (entries key ∷ is) = fields_in is

abbrev groups_in : List Item → List Group
groups_in [] = []
groups_in (fields fs ∷ is) = groups_in is
groups_in (each g ∷ is) = g ∷ groups_in is
groups_in (counted g ∷ is) = g ∷ groups_in is
groups_in (entries key ∷ is) = groups_in is

-- the fields of a version's tail, and its groups
abbrev pub fields_of : ℕ → List Tail → List Field
fields_of v [] = []
fields_of v (t ∷ ts) = cond (eqb t.version v) (fields_in t.items) (fields_of v ts)

abbrev pub groups_of : ℕ → List Tail → List Group
groups_of v [] = []
groups_of v (t ∷ ts) = cond (eqb t.version v) (groups_in t.items) (groups_of v ts)

-- the first of them
abbrev pub first_head : List Group → Field
first_head [] = record { key = []; form = done }
first_head (g ∷ gs) = g.head

abbrev pub first_fields : List Group → List Field
first_fields [] = []
first_fields (g ∷ gs) = g.fields

abbrev cycle : String → ℕ → List Spot
cycle key i =
    says key "in" (cycle_from i) 2
    ∷ says key "from" (cycle_from i + cycle_amount) 8
    ∷ says key "each" (cycle_from i + cycle_kind) 1
    ∷ says key "week" (cycle_from i + first_day) 1
    ∷ []

unfoldable pub dated_spots : List Spot
dated_spots = says "last" "last" last_date 3 ∷ cycle "y1" 0 ++ cycle "y2" 1

abbrev cyclic : String → ℕ → ℕ → List Spot
cyclic key j i = says key key (cyclic_rule_from j i) 1 ∷ says key "limit" (cyclic_rule_from j i + cyclic_limit) 8 ∷ []

-- the rules of the first profile; those of another are as far behind as its number says
unfoldable pub cyclic_spots : List Spot
cyclic_spots = cyclic "y1" 0 0 ++ cyclic "y2" 0 1

unfoldable pub control_spots : List Spot
control_spots =
    says "a1" "closed" (control_from 0) 1 ∷ says "a2" "closed" (control_from 1) 1 ∷ says "a3" "closed" (control_from 2) 1 ∷ says "a4" "closed" (control_from 3) 1
    ∷ says "c1" "closed" (control_from 4) 1 ∷ says "c2" "closed" (control_from 5) 1 ∷ says "c3" "closed" (control_from 6) 1 ∷ says "c4" "closed" (control_from 7) 1
    ∷ []

unfoldable pub cashback_spots : List Spot
cashback_spots = says "cashback" "cashback" (cashback_from 0) 1 ∷ []

-- ---- what names stand for (docs/PAPERS.md; the bits of a mask in the order of the tests)

pub record Name : Type 0 where
  pub number : ℕ
  pub name : List ℕ

abbrev is : ℕ → String → Name
is number name = record { number = number; name = word name }

-- the names of a line: of its flags, or of a byte
unfoldable pub names_in : Form → List (List ℕ)
names_in done = []
names_in rest = []
names_in (may f) = names_in f
names_in (part (say w) f) = names_in f
names_in (part (count n) f) = names_in f
names_in (part (bytes n) f) = names_in f
names_in (part (named vs) f) = vs
names_in (part date f) = names_in f
names_in (part code f) = names_in f
names_in (bits n vs f) = vs
names_in (either f g) = names_in g

unfoldable pub names_of : List ℕ → List Field → List (List ℕ)
names_of key [] = []
names_of key (f ∷ fs) = cond (same key f.key) (names_in f.form) (names_of key fs)

unfoldable pub names_by : List ℕ → List Row → List (List ℕ)
names_by key [] = []
names_by key (r ∷ rs) = cond (same key r.field.key) (names_in r.field.form) (names_by key rs)

-- each flag alone, and no other
unfoldable pub are_flags : List Name → List (List ℕ) → Bool
are_flags [] names = true
are_flags (n ∷ ns) names = eqb (length (flags names n.number)) 1 && same (first_of (flags names n.number)) n.name && are_flags ns names

unfoldable pub are_names : List Name → List (List ℕ) → Bool
are_names [] names = true
are_names (n ∷ ns) names = same (name_of names n.number []) n.name && are_names ns names

unfoldable pub decisions : List Name
decisions =
    is 0x1 "not-completed" ∷ is 0x2 "go-online" ∷ is 0x4 "auth-failed" ∷ is 0x8 "unable" ∷ is 0x10 "no-data" ∷ is 0x20 "mta"
    ∷ is 0x40 "a1-lower" ∷ is 0x80 "a2-lower" ∷ is 0x100 "a3-lower" ∷ is 0x200 "a4-lower"
    ∷ is 0x400 "a1-upper" ∷ is 0x800 "a2-upper" ∷ is 0x1000 "a3-upper" ∷ is 0x2000 "a4-upper"
    ∷ is 0x4000 "c1-lower" ∷ is 0x8000 "c2-lower" ∷ is 0x10000 "c3-lower" ∷ is 0x20000 "c4-lower"
    ∷ is 0x40000 "c1-upper" ∷ is 0x80000 "c2-upper" ∷ is 0x100000 "c3-upper" ∷ is 0x200000 "c4-upper"
    ∷ is 0x400000 "y1" ∷ is 0x800000 "y2" ∷ is 0x1000000 "date-error" ∷ is 0x2000000 "cashback"
    ∷ []

unfoldable pub switches : List Name
switches = is 1 "active" ∷ is 2 "allow" ∷ is 4 "include" ∷ []

unfoldable pub counter_switches : List Name
counter_switches = is 1 "active" ∷ is 2 "allow" ∷ is 4 "include" ∷ is 8 "declines" ∷ []

unfoldable pub controls : List Name
controls = is 1 "no-cvm" ∷ is 2 "signature" ∷ is 4 "online-pin" ∷ is 8 "offline-pin" ∷ []

unfoldable pub logged : List Name
logged =
    is 0x80 "declined" ∷ is 0x40 "approved" ∷ is 0x20 "offline-only" ∷ is 0x10 "atc" ∷ is 0x8 "cid" ∷ is 0x4 "cvr" ∷ is 0x2 "bit-2" ∷ is 0x1 "bit-1" ∷ []

-- s + 9, by the power of ten that it stands for
unfoldable pub shifts : List Name
shifts =
    is 0 "e-9" ∷ is 1 "e-8" ∷ is 2 "e-7" ∷ is 3 "e-6" ∷ is 4 "e-5" ∷ is 5 "e-4" ∷ is 6 "e-3" ∷ is 7 "e-2" ∷ is 8 "e-1"
    ∷ is 9 "e0" ∷ is 10 "e1" ∷ is 11 "e2" ∷ is 12 "e3"
    ∷ []

unfoldable pub kinds : List Name
kinds = is 1 "day" ∷ is 2 "week" ∷ is 3 "month" ∷ []

-- the type of First and of Second
unfoldable pub types : List Name
types = is 0 "AAC" ∷ is 1 "TC" ∷ is 2 "ARQC" ∷ []
