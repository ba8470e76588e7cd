-- The paper spelled (document 01, "The paper"; docs/PAPERS.md): from what a terminal sends to bytes. It uses nothing of the readers.
use Rattle.std.specs.Prelude.{Bool, true, false, cond, ◌&&◌, List, [], ◌∷◌, ◌++◌, ℕ, zero, suc, ◌+◌, ◌-◌, ◌/◌, ◌%◌, ◌^◌, ◌<◌, eqb, length, take, drop, get_or, None, Option, Some}
use Rattle.calendar.specs.declared.Date.{Date}
use Rattle.cpace.specs.declared.Cvm.{Cvm}
use Rattle.cpace.specs.declared.Cvm.TheVariants.{OnlinePin, Signature, NoCvm}
use Rattle.rules.specs.declared.Values.{Values}
use Rattle.slot.specs.declared.Slots.{Slots}
use Rattle.selection.specs.Selection.{selection_of}
use Rattle.shape.specs.declared.Family.{Family}
use Rattle.shape.specs.declared.Family.TheVariants.{Cpa, Cpace}
use Rattle.shape.specs.declared.Shape.{Shape}
use Rattle.card.specs.Message.{Message, StartCommand, FirstCommand, SecondCommand, ScriptCommand}
use Rattle.selection.specs.declared.Selected.{Selected}
use Rattle.shape.specs.declared.SelectionFile.{SelectionFile}
use Rattle.shape.specs.declared.Span.{Span}

-- each is a byte
abbrev pub Bytes : List ℕ → Type 0
Bytes [] = Unit
Bytes (b ∷ s) = (b < 256) × Bytes s

-- a number in n bytes, big-endian
unfoldable pub big : (n k : ℕ) → List ℕ
big zero k = []
big (suc n) k = big n (k / 256) ++ k % 256 ∷ []

-- a record: a 2-byte length of what follows (kind and body), a kind byte, a body
unfoldable pub record_of : (kind : ℕ) (body : List ℕ) → List ℕ
record_of kind body = big 2 (1 + length body) ++ kind ∷ body

-- what only a CPACE card is sent: the interface of a Start, a First's three CVM results and its cashback
pub data Interface : Type 0 where
  unsaid : Interface
  on : (interface : ℕ) → Interface

pub data Presented : Type 0 where
  unshown : Presented
  shown : (r1 r2 r3 cashback : ℕ) → Presented

-- what a terminal sends: a Start that names a profile, or one that brings the terminal's data; a First, or one with its date; a Second; an issuer's
-- script, with the secure messaging result and its template
pub data Sent : Type 0 where
  names : Interface → (profile : ℕ) → Sent
  brings : Interface → (terminal : List ℕ) → Sent
  first : (type amount currency terminal : ℕ) → Presented → Sent
  first_on : (date : Date) (type amount currency terminal : ℕ) → Presented → Sent
  second : (type code issuer csu : ℕ) → Sent
  script : (result : ℕ) (template : List ℕ) → Sent

-- Start is kind 2, First 3, Second 4, a script 5
unfoldable pub kind_of : Sent → ℕ
kind_of (names interface profile) = 2
kind_of (brings interface terminal) = 2
kind_of (first type amount currency terminal presented) = 3
kind_of (first_on date type amount currency terminal presented) = 3
kind_of (second type code issuer csu) = 4
kind_of (script result template) = 5

-- interface (1)
abbrev pub interface_bytes : Interface → List ℕ
interface_bytes unsaid = []
interface_bytes (on interface) = big 1 interface

abbrev pub start_bytes : Interface → (behind : List ℕ) → List ℕ
start_bytes interface behind = interface_bytes interface ++ behind

-- CVM results (3), cashback (6)
abbrev pub presented_bytes : Presented → List ℕ
presented_bytes unshown = []
presented_bytes (shown r1 r2 r3 cashback) = big 1 r1 ++ big 1 r2 ++ big 1 r3 ++ big 6 cashback

-- type (1), amount (8), currency (2), terminal type (1)
abbrev pub first_bytes : (type amount currency terminal : ℕ) (behind : List ℕ) → List ℕ
first_bytes type amount currency terminal behind = big 1 type ++ big 8 amount ++ big 2 currency ++ big 1 terminal ++ behind

-- a date: YYMMDD, year, month and day (1 each)
abbrev pub date_bytes : Date → List ℕ
date_bytes date = big 1 date.year ++ big 1 date.month ++ big 1 date.day

-- Start: the interface, and behind it profile (1), or the terminal's data; First: its fields, behind them the date (3), and behind that what is
-- presented; Second: type (1), response code (2), issuer data (1), CSU (4); a script: the secure messaging result (1), and the template to its end
unfoldable pub body_of : Sent → List ℕ
body_of (names interface profile) = start_bytes interface (big 1 profile)
body_of (brings interface terminal) = start_bytes interface terminal
body_of (first type amount currency terminal presented) = first_bytes type amount currency terminal (presented_bytes presented)
body_of (first_on date type amount currency terminal presented) =
    first_bytes type amount currency terminal (date_bytes date ++ presented_bytes presented)
body_of (second type code issuer csu) = big 1 type ++ big 2 code ++ big 1 issuer ++ big 4 csu
body_of (script result template) = big 1 result ++ template

abbrev pub spell : Sent → List ℕ
spell x = record_of (kind_of x) (body_of x)

unfoldable pub spell_all : List Sent → List ℕ
spell_all [] = []
spell_all (x ∷ xs) = spell x ++ spell_all xs

-- version, set-up, and what is behind it
abbrev pub paper_of : (version : ℕ) (body rest : List ℕ) → List ℕ
paper_of version body rest = version ∷ record_of 1 body ++ rest

-- how a Start chooses its profile in a paper: it names it, or a file of so many entries does
pub data Choice : Type 0 where
  by_name : Choice
  by_file : (file : List ℕ) (entries : ℕ) → Choice

-- the file is the bytes from a place to a place
abbrev pub choice_in : Option SelectionFile → List ℕ → Choice
choice_in None s = by_name
choice_in (Some part) s = by_file (take (part.end - part.start) (drop part.start s)) part.entries

-- and whether a First has its date
pub data Dates : Type 0 where
  undated : Dates
  dated : Dates

abbrev pub dates_in : Option Span → Dates
dates_in None = undated
dates_in (Some part) = dated

-- and whose card it is
pub data CardFamily : Type 0 where
  cpa : CardFamily
  cpace : CardFamily

abbrev pub family_in : Family → CardFamily
family_in Cpa = cpa
family_in (Cpace start end) = cpace

-- and whether scripts are on
pub data Scripting : Type 0 where
  unscripted : Scripting
  scripted : Scripting

abbrev pub scripts_in : Bool → Scripting
scripts_in false = unscripted
scripts_in true = scripted

-- what a paper's shape makes of its records
pub record Manner : Type 0 where
  pub choice : Choice
  pub dates : Dates
  pub family : CardFamily
  pub scripts : Scripting

abbrev pub manner_in : Shape → List ℕ → Manner
manner_in shape s =
    record {
      choice = choice_in shape.selecting s;
      dates = dates_in shape.dating;
      family = family_in shape.family;
      scripts = scripts_in shape.scripting;
    }

-- each field fits its width, the terminal's data and a template their record; a Start and a First are of their paper's sort, and a script is sent
-- only where scripts are on
abbrev pub FitFirst : (type amount currency terminal : ℕ) → Type 0
FitFirst type amount currency terminal = (type < 256) × (amount < 256 ^ 8) × (currency < 256 ^ 2) × (terminal < 256)

abbrev pub FitDate : Date → Type 0
FitDate date = (date.year < 256) × (date.month < 256) × (date.day < 256)

abbrev pub FitInterface : CardFamily → Interface → Type 0
FitInterface cpa unsaid = Unit
FitInterface cpa (on interface) = ⊥
FitInterface cpace unsaid = ⊥
FitInterface cpace (on interface) = interface < 256

abbrev pub FitPresented : CardFamily → Presented → Type 0
FitPresented cpa unshown = Unit
FitPresented cpa (shown r1 r2 r3 cashback) = ⊥
FitPresented cpace unshown = ⊥
FitPresented cpace (shown r1 r2 r3 cashback) = (r1 < 256) × (r2 < 256) × (r3 < 256) × (cashback < 256 ^ 6)

abbrev pub FitsBy : Choice → Dates → CardFamily → Scripting → Sent → Type 0
FitsBy by_name _ family _ (names interface profile) = FitInterface family interface × (profile < 256)
FitsBy by_name _ family _ (brings interface terminal) = ⊥
FitsBy (by_file file entries) _ family _ (names interface profile) = ⊥
FitsBy (by_file file entries) _ family _ (brings interface terminal) =
    FitInterface family interface × (length (start_bytes interface terminal) < 65535) × Bytes terminal
FitsBy choice undated family _ (first type amount currency terminal presented) =
    FitFirst type amount currency terminal × FitPresented family presented
FitsBy choice undated family _ (first_on date type amount currency terminal presented) = ⊥
FitsBy choice dated family _ (first type amount currency terminal presented) = ⊥
FitsBy choice dated family _ (first_on date type amount currency terminal presented) =
    FitFirst type amount currency terminal × FitDate date × FitPresented family presented
FitsBy choice _ family _ (second type code issuer csu) =
    (type < 256) × (code < 256 ^ 2) × (issuer < 256) × (csu < 256 ^ 4)
FitsBy choice _ family unscripted (script result template) = ⊥
FitsBy choice _ family scripted (script result template) = (result < 256) × (1 + length template < 65535) × Bytes template

unfoldable pub Fits : Manner → Sent → Type 0
Fits manner x = FitsBy manner.choice manner.dates manner.family manner.scripts x

abbrev pub AllFit : Manner → List Sent → Type 0
AllFit manner [] = Unit
AllFit manner (x ∷ xs) = Fits manner x × AllFit manner xs

-- what a file's entries may test: of a CPACE card its accumulators and counters as they are, of a CPA card nothing
abbrev pub is_tested : CardFamily → Bool
is_tested cpa = false
is_tested cpace = true

unfoldable pub slots_in : CardFamily → Values → Slots
slots_in family values =
    let amount : ℕ → ℕ = λ i. (get_or values.accumulators i (record { 0 = 0 })).0 in
    record { testable = is_tested family; amounts = amount 0 ∷ amount 1 ∷ amount 2 ∷ amount 3 ∷ []; counts = values.counters }

-- the profile that a Start's bytes select: those of the interface too
abbrev pub selects : Choice → Slots → List ℕ → Option Selected
selects by_name slots bytes = None
selects (by_file file entries) slots bytes = selection_of file entries bytes slots

-- a CPA card asks no interface, and takes each transaction for one without a CVM and without cashback
abbrev pub interface_of : Interface → ℕ
interface_of unsaid = 0
interface_of (on interface) = interface

-- the third CVM result is 0 and the low six bits of the first are 02: online PIN; or they are 1E: signature
abbrev pub cvm_of : Presented → Cvm
cvm_of unshown = NoCvm
cvm_of (shown r1 r2 r3 cashback) =
    cond (eqb r3 0 && eqb (r1 % 64) 0x02) OnlinePin (cond (eqb r3 0 && eqb (r1 % 64) 0x1E) Signature NoCvm)

-- there is none exactly if all its six bytes are 0
abbrev pub cashback_of : Presented → Bool
cashback_of unshown = false
cashback_of (shown r1 r2 r3 zero) = false
cashback_of (shown r1 r2 r3 (suc cashback)) = true

-- the message that it stands for, by what the file's entries may test; a profile that is named is found without a visit
abbrev pub start_sent : Interface → Option Selected → Message
start_sent interface chosen = StartCommand (record { interface = interface_of interface; chosen = chosen })

abbrev pub first_sent : Option Date → (type amount currency terminal : ℕ) → Presented → Message
first_sent when type amount currency terminal presented =
    FirstCommand (record {
      requested = type;
      amount = record { 0 = amount };
      currency = currency;
      terminal = terminal;
      when = when;
      cvm = cvm_of presented;
      cashback = cashback_of presented;
    })

unfoldable pub stands_for : Manner → Slots → Sent → Message
stands_for manner slots (names interface profile) = start_sent interface (Some (record { profile = profile; visits = 0 }))
stands_for manner slots (brings interface terminal) = start_sent interface (selects manner.choice slots (start_bytes interface terminal))
stands_for manner slots (first type amount currency terminal presented) = first_sent None type amount currency terminal presented
stands_for manner slots (first_on date type amount currency terminal presented) = first_sent (Some date) type amount currency terminal presented
stands_for manner slots (second type code issuer csu) = SecondCommand (record { requested = type; code = code; issuer = issuer; csu = csu })
stands_for manner slots (script result template) = ScriptCommand result template
