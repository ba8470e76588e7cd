-- Set-ups and commands of a few sittings, for the rows of Samples and the premises of Witness. Assumes nothing.
use mathlib.Core.Bool.{Bool, false}
use mathlib.Core.List.{List, [], ◌∷◌, ◌++◌}
use Prim.Native.Nat.{ℕ, ◌+◌, ◌*◌, ◌^◌}
use lib.ListN.{length, drop, replicate}
use Rattle.cpace.specs.declared.Cvm.{Cvm}
use Rattle.cpace.specs.declared.Cvm.TheVariants.{NoCvm}
use Rattle.card.specs.Message.{Message, StartCommand, FirstCommand, SecondCommand, ScriptCommand}
use Rattle.demands.specs.Setup.{Setup}
use Rattle.std.specs.Prelude.{None, Option, Some}
use Rattle.calendar.specs.declared.Date.{Date}

abbrev pub zeros : ℕ → List ℕ
zeros n = replicate n 0

-- ---- set-ups

-- of version 01
abbrev pub setup_of : List ℕ → Setup
setup_of body = record { bytes = body; tail = []; family = []; syllabus = 0; unnamed = 2 ^ 22; written = [] }

-- p profiles, c conversions, ATC 0; accumulators in 0978 from a number below 65536, in 0840 from 0, in 0978 from 7
abbrev pub head : (p c high low : ℕ) → List ℕ
head p c high low =
    1 ∷ 3 ∷ 0 ∷ p ∷ c ∷ zeros 3
    ++ 0x09 ∷ 0x78 ∷ zeros 6
    ++ high ∷ low ∷ 0x08 ∷ 0x40 ∷ zeros 8
    ++ 0x09 ∷ 0x78 ∷ zeros 7
    ++ 7 ∷ zeros 14

-- switches, lower and upper, each below 65536
abbrev pub rule : (switches high low high' low' : ℕ) → List ℕ
rule switches high low high' low' = switches ∷ zeros 6 ++ high ∷ low ∷ zeros 6 ++ high' ∷ low' ∷ []

-- masks 0, MTA off; accumulator 1 by its switches, 100 and 5000; 2 counts, 100 and 5000; 3 is active and doesn't, 8 and 9; counter 1 counts
abbrev pub profile : (n switches : ℕ) → List ℕ
profile n switches =
    n ∷ zeros 23 ++ rule switches 0 100 0x13 0x88 ++ rule 3 0 100 0x13 0x88 ++ rule 5 0 8 0 9 ++ zeros 17 ++ 3 ∷ 255 ∷ 255 ∷ zeros 12

-- profile 2 leaves accumulator 1 out; 0978 to 0840 by 2
unfoldable pub counting : Setup
counting = setup_of (head 2 1 0 0 ++ profile 1 3 ++ profile 2 0 ++ 0x09 ∷ 0x78 ∷ 0x08 ∷ 0x40 ∷ 0 ∷ 2 ∷ 9 ∷ [])

-- Online accumulator 1's lower limit, 1000; Decline MTA, 0 in 0978 and off, and accumulator 1's upper limit, 5000; no conversion
unfoldable pub limiting : (switches high low : ℕ) → Setup
limiting switches high low =
    let masks = zeros 3 ++ 0x40 ∷ 0 ∷ 0 ∷ 0x04 ∷ 0x20 ∷ zeros 5 in
    setup_of (head 1 0 high low ++ 1 ∷ masks ++ 0x09 ∷ 0x78 ∷ zeros 8 ++ rule switches 0x03 0xE8 0x13 0x88 ++ zeros 66)

-- Default accumulator 1's lower limit, 1000, and no other mask; from 2000
unfoldable pub defaulting : Setup
defaulting = setup_of (head 1 0 0x07 0xD0 ++ 1 ∷ zeros 11 ++ 0x40 ∷ zeros 11 ++ rule 1 0x03 0xE8 0x13 0x88 ++ zeros 66)

-- Decline accumulator 1's upper limit, MAX, which the purchase is tested with; from MAX
abbrev pub most : List ℕ
most = 0 ∷ 0 ∷ 0 ∷ 0xE8 ∷ 0xD4 ∷ 0xA5 ∷ 0x0F ∷ 0xFF ∷ []

unfoldable pub full : Setup
full =
    let masks = zeros 6 ++ 0x04 ∷ zeros 16 in
    setup_of (1 ∷ 3 ∷ 0 ∷ 1 ∷ 0 ∷ zeros 3 ++ 0x09 ∷ 0x78 ∷ most ++ zeros 34 ++ 1 ∷ masks ++ 5 ∷ zeros 8 ++ most ++ zeros 66)

-- one profile, nothing active; accumulator 1 and counters 2 and 3 sent, 9, 6 and 7
unfoldable pub sending : (n : ℕ) → Setup
sending n =
    let values = 0x09 ∷ 0x78 ∷ zeros 7 ++ 9 ∷ zeros 30 ++ 5 ∷ 6 ∷ 7 ∷ 8 ∷ [] in
    setup_of (1 ∷ 3 ∷ 0 ∷ 1 ∷ zeros 4 ++ values ++ n ∷ zeros 103 ++ 1 ∷ 2 ∷ 3 ∷ [])

-- ---- set-ups with dates, of version 04

-- Online bits 23 and 24, Decline and Default bit 22; accumulator 1 counts
abbrev pub dated_profile : (n : ℕ) → List ℕ
dated_profile n =
    n ∷ 0x01 ∷ 0x80 ∷ 0 ∷ 0 ∷ 0 ∷ 0x40 ∷ 0 ∷ 0 ∷ 0 ∷ 0x40 ∷ 0 ∷ 0 ∷ zeros 11 ++ rule 3 0xFF 0xFF 0xFF 0xFF ++ zeros 66

-- a cyclic accumulator in 0978: amount, kind, first day; its rule: switches, limit; amount and limit below 65536
abbrev pub cycle : (high low kind first : ℕ) → List ℕ
cycle high low kind first = 0x09 ∷ 0x78 ∷ zeros 6 ++ high ∷ low ∷ kind ∷ first ∷ []

abbrev pub cyclic_rule : (switches high low : ℕ) → List ℕ
cyclic_rule switches high low = switches ∷ zeros 6 ++ high ∷ low ∷ []

-- last date in 2000
abbrev pub dated_of : (month day : ℕ) (cycles rules : List ℕ) → Setup
dated_of month day cycles rules =
    record {
      bytes = head 2 0 0 0 ++ dated_profile 1 ++ dated_profile 2;
      tail = 1 ∷ 0x00 ∷ month ∷ day ∷ cycles ++ rules;
      family = [];
      syllabus = 0;
      unnamed = 2 ^ 25;
      written = [];
    }

-- last date 15 July; cyclic accumulator 1 by its kind from a number, against 1000 in profile 1, not active in profile 2; cyclic
-- accumulator 2 by months from 0, against 5000 in profile 1, by its switches against 200 in profile 2
unfoldable pub spending : (kind switches high low : ℕ) → Setup
spending kind switches high low =
    dated_of 0x07 0x15 (cycle high low kind 0 ++ cycle 0 0 3 0)
    (cyclic_rule 7 0x03 0xE8 ++ cyclic_rule 7 0x13 0x88 ++ cyclic_rule 0 0 0 ++ cyclic_rule switches 0 200)

-- last date Saturday 1 January; weeks from Monday and from Sunday, both from 9
unfoldable pub weekly : Setup
weekly =
    dated_of 0x01 0x01 (cycle 0 9 2 3 ++ cycle 0 9 2 2)
    (cyclic_rule 7 0xFF 0xFF ++ cyclic_rule 7 0xFF 0xFF ++ cyclic_rule 7 0xFF 0xFF ++ cyclic_rule 7 0xFF 0xFF)

-- ---- set-ups of a CPACE card, of version 05

-- accumulator 1 from a number, 5000 and 10000, and counter 1, 255, with declines: both count and are tested with the purchase; Online MTA, 9000,
-- accumulator 1's lower limit and cashback; Decline its upper limit; Default that and cashback; a control of each, and the cashback switch
unfoldable pub dual : (high low control control' cashback : ℕ) → Setup
dual high low control control' cashback =
    let masks : List ℕ = 0x02 ∷ 0 ∷ 0 ∷ 0x60 ∷ 0 ∷ 0 ∷ 0x04 ∷ 0 ∷ 0x02 ∷ 0 ∷ 0x04 ∷ 0 ∷ [] in
    let maximum : List ℕ = 1 ∷ 0x09 ∷ 0x78 ∷ zeros 6 ++ 0x23 ∷ 0x28 ∷ [] in
    record {
      bytes = head 1 0 high low ++ 1 ∷ masks ++ maximum ++ rule 7 0x13 0x88 0x27 0x10 ++ zeros 51 ++ 15 ∷ 255 ∷ 255 ∷ zeros 9 ++ 1 ∷ 1 ∷ 0 ∷ [];
      tail = [];
      family = 1 ∷ control ∷ zeros 3 ++ control' ∷ zeros 3 ++ cashback ∷ [];
      syllabus = 0;
      unnamed = 2 ^ 26;
      written = [];
    }

-- ---- sittings

abbrev pub start_on : (interface n : ℕ) → Message
start_on interface n = StartCommand (record { interface = interface; chosen = Some (record { profile = n; visits = 0 }) })

abbrev pub start : ℕ → Message
start n = start_on 0 n

-- requested 0 AAC, 1 TC, 2 ARQC
abbrev pub first_by : Cvm → (cashback : Bool) → Option Date → (amount currency requested : ℕ) → Message
first_by cvm cashback when amount currency requested =
    FirstCommand (record {
      amount = record { 0 = amount };
      currency = currency;
      requested = requested;
      terminal = 0x22;
      when = when;
      cvm = cvm;
      cashback = cashback;
    })

abbrev pub first_on : Option Date → (amount currency requested : ℕ) → Message
first_on when amount currency requested = first_by NoCvm false when amount currency requested

abbrev pub first : (amount currency requested : ℕ) → Message
first amount currency requested = first_on None amount currency requested

-- TC requested, the issuer's data verified, CSU byte 2
abbrev pub second : ℕ → Message
second update = SecondCommand (record { csu = update * 65536; code = 0x3030; requested = 1; issuer = 1 })

-- approvals, in one of them nothing of an ARQC that the issuer approves, and one after a Start that another Start drops
unfoldable pub approvals : List Message
approvals =
    start 1 ∷ first 100 0x0978 1 ∷ start 1 ∷ first 30 0x0978 2 ∷ second 0x80 ∷ start 1 ∷ first 10 0x0978 1
    ∷ start 2
    ∷ start 1
    ∷ first 1 0x0978 1
    ∷ []

-- and then the upper limits from an issuer that declines; and then zero
unfoldable pub limits : List Message
limits = approvals ++ start 1 ∷ first 1 0x0978 2 ∷ second 0x01 ∷ []

unfoldable pub resets : List Message
resets = limits ++ start 1 ∷ first 1 0x0978 2 ∷ second 0x82 ∷ []

-- TC requested after Y3; issuer data failed; absent
abbrev pub unable : Message
unable = SecondCommand (record { csu = 0; code = 0x5933; requested = 1; issuer = 0 })

abbrev pub after : ℕ → Message
after issuer = SecondCommand (record { csu = 0; code = 0x3030; requested = 1; issuer = issuer })

-- one transaction that First answers, and one that it sends online
unfoldable pub answered : ℕ → List Message
answered requested = start 1 ∷ first 1 0x0978 requested ∷ []

unfoldable pub online : Message → List Message
online command = start 1 ∷ first 1 0x0978 2 ∷ command ∷ []

-- ---- with dates

abbrev pub on_day : (year month day : ℕ) → Option Date
on_day year month day = Some (record { year = year; month = month; day = day })

-- a transaction of July 2000 under a profile
unfoldable pub buy : (n day amount requested : ℕ) → List Message
buy n day amount requested = start n ∷ first_on (on_day 0x00 0x07 day) amount 0x0978 requested ∷ []

-- one on the 14th, a day too early, which goes online, and a Second
unfoldable pub late : Message → List Message
late command = start 1 ∷ first_on (on_day 0x00 0x07 0x14) 5 0x0978 1 ∷ command ∷ []

-- one of January 2000; on Sunday the 2nd and Monday the 3rd; and a week later
abbrev pub in_january : ℕ → List Message
in_january day = start 1 ∷ first_on (on_day 0x00 0x01 day) 1 0x0978 1 ∷ []

unfoldable pub week : List Message
week = in_january 0x02 ++ in_january 0x03

unfoldable pub weeks : List Message
weeks = in_january 0x02 ++ in_january 0x03 ++ in_january 0x09 ++ in_january 0x10

-- 30 in July 2000 and 1 in July 2001
unfoldable pub years : List Message
years = start 1 ∷ first_on (on_day 0x00 0x07 0x15) 30 0x0978 1 ∷ start 1 ∷ first_on (on_day 0x01 0x07 0x15) 1 0x0978 1 ∷ []

-- ---- to a CPACE card

-- a purchase of 4000 by its CVM, with cashback or without; and one that goes online, and a Second
unfoldable pub pay : Cvm → (cashback : Bool) → (requested : ℕ) → List Message
pay cvm cashback requested = start 1 ∷ first_by cvm cashback None 4000 0x0978 requested ∷ []

unfoldable pub pay_online : Cvm → (cashback : Bool) → Message → List Message
pay_online cvm cashback command = pay cvm cashback 2 ++ command ∷ []

-- ---- scripts

-- an amount below 10000, in 12 digits
abbrev pub digits : (high low : ℕ) → List ℕ
digits high low = zeros 4 ++ high ∷ low ∷ []

-- an element; a PUT DATA command over a few of them, with a MAC of zeros
abbrev pub element : (tag : ℕ) → List ℕ → List ℕ
element tag value = 0xDF ∷ tag ∷ length value ∷ value

abbrev pub put_data : (object : ℕ) → List ℕ → List ℕ
put_data object list = 0x0C ∷ 0xDA ∷ 0xBF ∷ object ∷ (length list + 8) ∷ 0x81 ∷ length list ∷ list ++ 0x8E ∷ 0x04 ∷ zeros 4

-- of accumulator i the value, and the limits, lower and upper; of counter i the limits; and one with a digit above 9
abbrev pub value : (i high low : ℕ) → List ℕ
value i high low = put_data 0x30 (element i (digits high low))

abbrev pub limit : (i high low high' low' : ℕ) → List ℕ
limit i high low high' low' = put_data 0x30 (element (0x10 + i) (digits high low ++ digits high' low'))

abbrev pub counter_limit : (i lower upper : ℕ) → List ℕ
counter_limit i lower upper = put_data 0x35 (element (0x10 + i) (lower ∷ upper ∷ []))

abbrev pub wrong : List ℕ
wrong = value 1 0 0x0A

-- n without elements, which are done
abbrev pub empties : ℕ → List (List ℕ)
empties n = replicate n (put_data 0x30 [])

-- a template of a few commands, verified or not
abbrev pub objects : List (List ℕ) → List ℕ
objects [] = []
objects (command ∷ commands) = 0x86 ∷ length command ∷ command ++ objects commands

abbrev pub template_of : List (List ℕ) → List ℕ
template_of commands = 0x72 ∷ length (objects commands) ∷ objects commands

abbrev pub script : List (List ℕ) → Message
script commands = ScriptCommand 1 (template_of commands)

abbrev pub unverified : List (List ℕ) → Message
unverified commands = ScriptCommand 0 (template_of commands)

-- issuer authentication required
unfoldable pub requiring : Setup
unfolding counting
requiring = setup_of (1 ∷ 3 ∷ 1 ∷ drop 3 counting.bytes)

-- a transaction that goes online, in which a script comes, and a Second
unfoldable pub between : Message → Message → List Message
between now command = start 1 ∷ first 1 0x0978 2 ∷ now ∷ command ∷ []
