-- A paper by its bytes (document 01, "The paper"; docs/PAPERS.md): its set-up, its commands, and how it ends. It uses nothing of the readers.
use Rattle.std.specs.Prelude.{◌≡◌, Bool, true, false, cond, List, [], ◌∷◌, ℕ, zero, suc, ◌+◌, ◌-◌, ◌*◌, ◌^◌, eqb, ltb, length, take, drop, None, Option, Some}
use Rattle.wire.specs.Wire.{byte, number}
use Rattle.calendar.specs.declared.Date.{Date}
use Rattle.slot.specs.declared.Slots.{Slots}
use Rattle.selection.specs.Selection.{selection_of}
use Rattle.command.specs.declared.Start.{Start}
use Rattle.command.specs.declared.First.{First}
use Rattle.card.specs.Message.{Message, SecondCommand, ScriptCommand}
use Rattle.demands.specs.Setup.{Setup}
use Rattle.demands.specs.Conversation.{Sitting, told, sat}
use Rattle.rows.specs.Tails.{base_length}
use Rattle.spelling.specs.Spelling.{unsaid, on, Presented, unshown, shown, Choice, by_name, by_file, Dates, undated, dated, CardFamily, cpa, cpace}
use Rattle.spelling.specs.Spelling.{Scripting, unscripted, scripted, Manner, slots_in, selects, start_sent, first_sent}
use Rattle.spelling.specs.Faults.{first_length, Opens}
use Rattle.rows.specs.Whole.{IsSetup}

-- ---- the set-up: behind the version a record's length (2), which counts kind and body, its kind (1), its body
abbrev pub version_in : List ℕ → ℕ
version_in paper = byte paper 0

abbrev pub body_in : List ℕ → List ℕ
body_in paper = take (number paper 1 2 - 1) (drop 4 paper)

-- what stands behind it
abbrev pub rest_in : List ℕ → List ℕ
rest_in paper = drop (3 + number paper 1 2) paper

-- a body is a base, as long as its p and c say, and the tails of its version, one behind the other; an older paper has no byte of a newer one,
-- and what has no byte reads as 0
abbrev pub base_in : (body : List ℕ) → List ℕ
base_in body = take (base_length body) body

abbrev pub tails_in : (body : List ℕ) → List ℕ
tails_in body = drop (base_length body) body

-- VERSION 02, the selection: 0 off; 1 on, the number of entries, and the entries, each its length and as many bytes
unfoldable pub entries_long : (n : ℕ) → List ℕ → ℕ
entries_long zero s = 0
entries_long (suc n) s = suc (byte s 0) + entries_long n (drop (suc (byte s 0)) s)

abbrev pub file_long : (tails : List ℕ) → ℕ
file_long tails = entries_long (byte tails 1) (drop 2 tails)

abbrev pub file_in : (tails : List ℕ) → List ℕ
file_in tails = take (file_long tails) (drop 2 tails)

abbrev pub choice_in : (tails : List ℕ) → Choice
choice_in tails = cond (eqb (byte tails 0) 0) by_name (by_file (file_in tails) (byte tails 1))

-- VERSION 03, the syllabus, behind it
abbrev pub behind_selection : (tails : List ℕ) → List ℕ
behind_selection tails = drop (cond (eqb (byte tails 0) 0) 1 (2 + file_long tails)) tails

abbrev pub syllabus_in : (tails : List ℕ) → ℕ
syllabus_in tails = byte (behind_selection tails) 0

-- VERSION 04, dates, behind that: 0 off; 1 on, 28 + 18p bytes
abbrev pub dating_in : (tails : List ℕ) → List ℕ
dating_in tails = drop 1 (behind_selection tails)

abbrev pub dates_in : (tails : List ℕ) → Dates
dates_in tails = cond (eqb (byte (dating_in tails) 0) 0) undated dated

abbrev pub cycles_in : (p : ℕ) (tails : List ℕ) → List ℕ
cycles_in p tails = cond (eqb (byte (dating_in tails) 0) 0) [] (take (28 + 18 * p) (dating_in tails))

-- VERSION 05, the card family, behind that: 0 CPA; 1 CPACE, 9 + p bytes
abbrev pub behind_dating : (p : ℕ) (tails : List ℕ) → List ℕ
behind_dating p tails = drop (cond (eqb (byte (dating_in tails) 0) 0) 1 (28 + 18 * p)) (dating_in tails)

abbrev pub card_in : (p : ℕ) (tails : List ℕ) → CardFamily
card_in p tails = cond (eqb (byte (behind_dating p tails) 0) 0) cpa cpace

abbrev pub family_in : (p : ℕ) (tails : List ℕ) → List ℕ
family_in p tails = cond (eqb (byte (behind_dating p tails) 0) 0) [] (take (9 + p) (behind_dating p tails))

-- VERSION 06, scripts, behind that: 0 off; 1 on
abbrev pub behind_family : (p : ℕ) (tails : List ℕ) → List ℕ
behind_family p tails = drop (cond (eqb (byte (behind_dating p tails) 0) 0) 1 (9 + p)) (behind_dating p tails)

abbrev pub scripts_in : (p : ℕ) (tails : List ℕ) → Scripting
scripts_in p tails = cond (eqb (byte (behind_family p tails) 0) 0) unscripted scripted

-- mask bits 0 to 21 are named, in version 04 0 to 24, from version 05 on 0 to 25
abbrev pub unnamed_in : (version : ℕ) → ℕ
unnamed_in version = cond (ltb version 4) (2 ^ 22) (cond (ltb version 5) (2 ^ 25) (2 ^ 26))

-- p, the profiles
abbrev pub profiles_in : (body : List ℕ) → ℕ
profiles_in body = byte body 3

abbrev pub setup_in : (version : ℕ) (body : List ℕ) → Setup
setup_in version body =
    record {
      bytes = base_in body;
      tail = cycles_in (profiles_in body) (tails_in body);
      family = family_in (profiles_in body) (tails_in body);
      syllabus = syllabus_in (tails_in body);
      unnamed = unnamed_in version;
      written = [];
    }

abbrev pub manner_in : (body : List ℕ) → Manner
manner_in body =
    record {
      choice = choice_in (tails_in body);
      dates = dates_in (tails_in body);
      family = card_in (profiles_in body) (tails_in body);
      scripts = scripts_in (profiles_in body) (tails_in body);
    }

-- THE SET-UP OF A PAPER; how its Starts choose a profile, whether its Firsts have dates, whose card it is, and whether scripts are on
unfoldable pub setup_of : (paper : List ℕ) → Setup
setup_of paper = setup_in (version_in paper) (body_in paper)

unfoldable pub manner_of : (paper : List ℕ) → Manner
manner_of paper = manner_in (body_in paper)

abbrev pub choice_of : (paper : List ℕ) → Choice
choice_of paper = (manner_of paper).choice

abbrev pub dates_of : (paper : List ℕ) → Dates
dates_of paper = (manner_of paper).dates

abbrev pub card_of : (paper : List ℕ) → CardFamily
card_of paper = (manner_of paper).family

abbrev pub scripts_of : (paper : List ℕ) → Scripting
scripts_of paper = (manner_of paper).scripts

-- it is accepted: the paper opens, and its set-up is spelled from fields in their ranges and the tails of its version
pub record Accepted (paper : List ℕ) : Type 0 where
  pub version : ℕ
  pub body : List ℕ
  pub rest : List ℕ
  pub opens : Opens paper version body rest
  pub set_up_lem : IsSetup version body

-- ---- the records: at the front of some bytes stands nothing; no whole record; or one of a kind and a body, and more behind it
pub data Front : Type 0 where
  nothing : Front
  broken : Front
  one : (kind : ℕ) (body behind : List ℕ) → Front

-- a length of 0 has no kind; kind and body may be cut short
abbrev pub front_by : (size kind : ℕ) (more : List ℕ) → Front
front_by zero kind more = broken
front_by (suc n) kind more = cond (ltb (length more) n) broken (one kind (take n more) (drop n more))

unfoldable pub front_of : List ℕ → Front
front_of [] = nothing
front_of (high ∷ []) = broken
front_of (high ∷ low ∷ []) = broken
front_of (high ∷ low ∷ kind ∷ more) = front_by (high * 256 + low) kind more

-- a record means a command, or it is none
pub data Meaning : Type 0 where
  none : Meaning
  means : Message → Meaning

-- Start: profile (1), or where profiles are selected the terminal's data; to a CPACE card interface (1) before it, which the file reads too, and
-- besides what its entries may test
abbrev pub start_meant : Choice → CardFamily → Slots → (body : List ℕ) → Meaning
start_meant by_name cpa slots body = cond (eqb (length body) 1) (means (start_sent unsaid (Some (record { profile = byte body 0; visits = 0 })))) none
start_meant by_name cpace slots body = cond (eqb (length body) 2) (means (start_sent (on (byte body 0)) (Some (record { profile = byte body 1; visits = 0 })))) none
start_meant (by_file file entries) cpa slots body = means (start_sent unsaid (selects (by_file file entries) slots body))
start_meant (by_file file entries) cpace slots body =
    cond (eqb (length body) 0) none (means (start_sent (on (byte body 0)) (selects (by_file file entries) slots body)))

-- First: type (1), amount (8), currency (2), terminal type (1), in a dated paper the date, YY, MM and DD (1 each), and to a CPACE card CVM results
-- (3) and cashback (6)
abbrev pub when_meant : Dates → (body : List ℕ) → Option Date
when_meant undated body = None
when_meant dated body = Some (record { year = byte body 12; month = byte body 13; day = byte body 14 })

abbrev pub shown_at : (at : ℕ) (body : List ℕ) → Presented
shown_at at body = shown (byte body at) (byte body (at + 1)) (byte body (at + 2)) (number body (at + 3) 6)

abbrev pub presented_meant : Dates → CardFamily → (body : List ℕ) → Presented
presented_meant _ cpa body = unshown
presented_meant undated cpace body = shown_at 12 body
presented_meant dated cpace body = shown_at 15 body

abbrev pub first_meant : Dates → CardFamily → (body : List ℕ) → Meaning
first_meant dates family body =
    cond (eqb (length body) (first_length dates family))
    (means (first_sent (when_meant dates body) (byte body 0) (number body 1 8) (number body 9 2) (byte body 11) (presented_meant dates family body)))
    none

-- Second: type (1), response code (2), issuer data (1), CSU (4)
abbrev pub second_meant : (body : List ℕ) → Meaning
second_meant body =
    cond (eqb (length body) 8)
    (means (SecondCommand (record { requested = byte body 0; code = number body 1 2; issuer = byte body 3; csu = number body 4 4 })))
    none

-- a script, where scripts are on: secure messaging result (1), and the template to the end
abbrev pub script_meant : Scripting → (body : List ℕ) → Meaning
script_meant unscripted body = none
script_meant scripted [] = none
script_meant scripted (result ∷ template) = means (ScriptCommand result template)

-- kind 2 is a Start, 3 a First, 4 a Second, 5 a script
unfoldable pub meant : Manner → Slots → (kind : ℕ) (body : List ℕ) → Meaning
meant manner slots kind body =
    cond (eqb kind 2) (start_meant manner.choice manner.family slots body)
    (cond (eqb kind 3) (first_meant manner.dates manner.family body)
    (cond (eqb kind 4) (second_meant body) (cond (eqb kind 5) (script_meant manner.scripts body) none)))

-- ---- all of them, one behind the other, each at the card that heard those before it: the commands, up to the end or to a fault, which is a
-- record that is none
pub record Walked : Type 0 where
  pub commands : List Message
  pub fault : Bool

abbrev pub stopped : (fault : Bool) → Walked
stopped fault = record { commands = []; fault = fault }

abbrev pub met : Message → Walked → Walked
met command more = record { commands = command ∷ more.commands; fault = more.fault }

abbrev pub going_on : Meaning → (Message → Walked) → Walked
going_on none more = stopped true
going_on (means command) more = met command (more command)

abbrev pub slots_at : Manner → Sitting → Slots
slots_at manner sitting = slots_in manner.family sitting.state.values

abbrev pub walk_by : Manner → Sitting → Front → (Sitting → List ℕ → Walked) → Walked
walk_by manner sitting nothing more = stopped false
walk_by manner sitting broken more = stopped true
walk_by manner sitting (one kind body behind) more =
    going_on (meant manner (slots_at manner sitting) kind body) (λ command. more (told sitting command) behind)

unfoldable pub walk : (n : ℕ) → Manner → Sitting → List ℕ → Walked
walk zero manner sitting s = stopped false
walk (suc n) manner sitting s = walk_by manner sitting (front_of s) (walk n manner)

-- no paper has more records than bytes
unfoldable pub walked : (paper : List ℕ) → Walked
walked paper = walk (length paper) (manner_of paper) (sat (setup_of paper) []) (rest_in paper)

-- THE COMMANDS OF A PAPER, and whether it ends by a fault
abbrev pub commands_of : (paper : List ℕ) → List Message
commands_of paper = (walked paper).commands

abbrev pub faulty : (paper : List ℕ) → Bool
faulty paper = (walked paper).fault

-- how a Start came to its profile: it names it, with no entry visited, or the file gives it for the terminal's data, behind the interface to a
-- CPACE card, and for what its entries may test
abbrev pub Chosen : Choice → CardFamily → Slots → Start → Type 0
Chosen by_name family slots start = (profile : ℕ) × (start.chosen ≡ Some (record { profile = profile; visits = 0 }))
Chosen (by_file file entries) cpa slots start = (terminal : List ℕ) × (start.chosen ≡ selection_of file entries terminal slots)
Chosen (by_file file entries) cpace slots start = (terminal : List ℕ) × (start.chosen ≡ selection_of file entries (start.interface ∷ terminal) slots)

-- and whether a First has its date
abbrev pub Timed : Dates → First → Type 0
Timed undated first = first.when ≡ None
Timed dated first = (date : Date) × (first.when ≡ Some date)
