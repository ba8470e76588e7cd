-- What follows the base of a set-up's body, spelled (docs/PAPERS.md, "Tail of version 02" to "Tail of version 07"; document 02, Three, Nine, Five,
-- Thirteen, Twelve and Eight).
use Rattle.std.specs.Prelude.{ℕ, suc, ◌+◌, ◌-◌, ◌*◌, ◌^◌, ◌≤◌, ◌<◌, ◌≡◌, Bool, true, false, List, [], ◌∷◌, ◌++◌, length, take, drop, None, Ok, Option, Some}
use Rattle.wire.specs.Wire.{byte}
use Rattle.shape.specs.declared.Family.{Family}
use Rattle.shape.specs.declared.Family.TheVariants.{Cpa, Cpace}
use Rattle.shape.specs.declared.Shape.{Shape}
use Rattle.shape.specs.Shape.{base_part, tail_part, family_part, shape_of}
use Rattle.rows.specs.Rows.{Fits, Dates, undated, dated, cycles_row, cycles_bytes, Families, cpa, cpace, controls_row, controls_bytes}
use Rattle.shape.specs.Shape.{file}
use Rattle.shape.specs.Shape.{span}
use Rattle.shape.specs.declared.SelectionFile.{SelectionFile}
use Rattle.shape.specs.declared.Span.{Span}

-- selection off, or on with the bytes of each entry
pub data Choosing : Type 0 where
  off : Choosing
  on : List (List ℕ) → Choosing

-- each entry its length and then its bytes
abbrev pub file_bytes : List (List ℕ) → List ℕ
file_bytes [] = []
file_bytes (e ∷ es) = length e ∷ e ++ file_bytes es

-- 0 off; 1 on, the number of entries, the entries
abbrev pub choosing_bytes : Choosing → List ℕ
choosing_bytes off = 0 ∷ []
choosing_bytes (on es) = 1 ∷ length es ∷ file_bytes es

-- 0 off; on, the row of its fields, which begins with 1
abbrev pub dates_bytes : Dates → List ℕ
dates_bytes undated = 0 ∷ []
dates_bytes (dated d) = cycles_bytes (dated d)

-- 0 CPA; CPACE, the row of its fields, which begins with 1
abbrev pub families_bytes : Families → List ℕ
families_bytes cpa = 0 ∷ []
families_bytes (cpace f) = controls_bytes (cpace f)

-- 0 off, 1 on
abbrev pub scripts_byte : (scripting : Bool) → ℕ
scripts_byte false = 0
scripts_byte true = 1

-- an entry of a log table: which data, from which byte on, how many
pub record LogEntry : Type 0 where
  pub source : ℕ
  pub position : ℕ
  pub long : ℕ

-- the ring's size, the switches, whether each profile logs, the entries of First's table and of Second's
pub record Log : Type 0 where
  pub size : ℕ
  pub switches : ℕ
  pub profiles : List ℕ
  pub firsts : List LogEntry
  pub seconds : List LogEntry

pub data Logs : Type 0 where
  unlogged : Logs
  logged : Log → Logs

abbrev pub entries_bytes : List LogEntry → List ℕ
entries_bytes [] = []
entries_bytes (e ∷ es) = e.source ∷ e.position ∷ e.long ∷ entries_bytes es

-- the number of entries, the entries
abbrev pub table_bytes : List LogEntry → List ℕ
table_bytes es = length es ∷ entries_bytes es

abbrev pub log_bytes : Log → List ℕ
log_bytes l = 1 ∷ l.size ∷ l.switches ∷ l.profiles ++ (table_bytes l.firsts ++ table_bytes l.seconds)

-- 0 off; on, its fields, which begin with 1
abbrev pub logs_bytes : Logs → List ℕ
logs_bytes unlogged = 0 ∷ []
logs_bytes (logged l) = log_bytes l

-- version 01 has no tail; version 02 has the selection's; version 03 that and the syllabus; version 04 these and the dates'; version 05 these and the
-- family's; version 06 these and whether scripts are on; version 07 these and the log's
pub data Tail : Type 0 where
  first : Tail
  second : Choosing → Tail
  third : Choosing → (syllabus : ℕ) → Tail
  fourth : Choosing → (syllabus : ℕ) → Dates → Tail
  fifth : Choosing → (syllabus : ℕ) → Dates → Families → Tail
  sixth : Choosing → (syllabus : ℕ) → Dates → Families → (scripting : Bool) → Tail
  seventh : Choosing → (syllabus : ℕ) → Dates → Families → (scripting : Bool) → Logs → Tail

abbrev pub version_of : Tail → ℕ
version_of first = 1
version_of (second choosing) = 2
version_of (third choosing syllabus) = 3
version_of (fourth choosing syllabus dates) = 4
version_of (fifth choosing syllabus dates families) = 5
version_of (sixth choosing syllabus dates families scripting) = 6
version_of (seventh choosing syllabus dates families scripting logs) = 7

abbrev pub tail_bytes : Tail → List ℕ
tail_bytes first = []
tail_bytes (second choosing) = choosing_bytes choosing
tail_bytes (third choosing syllabus) = choosing_bytes choosing ++ syllabus ∷ []
tail_bytes (fourth choosing syllabus dates) = choosing_bytes choosing ++ syllabus ∷ dates_bytes dates
tail_bytes (fifth choosing syllabus dates families) = choosing_bytes choosing ++ (syllabus ∷ dates_bytes dates ++ families_bytes families)
tail_bytes (sixth choosing syllabus dates families scripting) =
    choosing_bytes choosing ++ (syllabus ∷ dates_bytes dates ++ (families_bytes families ++ scripts_byte scripting ∷ []))
tail_bytes (seventh choosing syllabus dates families scripting logs) =
    choosing_bytes choosing ++ (syllabus ∷ dates_bytes dates ++ (families_bytes families ++ scripts_byte scripting ∷ logs_bytes logs))

-- older papers select nothing, follow syllabus 0, have no dates, are of CPA cards, have no scripts and no log
abbrev pub choosing_of : Tail → Choosing
choosing_of first = off
choosing_of (second choosing) = choosing
choosing_of (third choosing syllabus) = choosing
choosing_of (fourth choosing syllabus dates) = choosing
choosing_of (fifth choosing syllabus dates families) = choosing
choosing_of (sixth choosing syllabus dates families scripting) = choosing
choosing_of (seventh choosing syllabus dates families scripting logs) = choosing

abbrev pub syllabus_of : Tail → ℕ
syllabus_of first = 0
syllabus_of (second choosing) = 0
syllabus_of (third choosing syllabus) = syllabus
syllabus_of (fourth choosing syllabus dates) = syllabus
syllabus_of (fifth choosing syllabus dates families) = syllabus
syllabus_of (sixth choosing syllabus dates families scripting) = syllabus
syllabus_of (seventh choosing syllabus dates families scripting logs) = syllabus

abbrev pub dates_of : Tail → Dates
dates_of first = undated
dates_of (second choosing) = undated
dates_of (third choosing syllabus) = undated
dates_of (fourth choosing syllabus dates) = dates
dates_of (fifth choosing syllabus dates families) = dates
dates_of (sixth choosing syllabus dates families scripting) = dates
dates_of (seventh choosing syllabus dates families scripting logs) = dates

abbrev pub families_of : Tail → Families
families_of first = cpa
families_of (second choosing) = cpa
families_of (third choosing syllabus) = cpa
families_of (fourth choosing syllabus dates) = cpa
families_of (fifth choosing syllabus dates families) = families
families_of (sixth choosing syllabus dates families scripting) = families
families_of (seventh choosing syllabus dates families scripting logs) = families

abbrev pub scripting_of : Tail → Bool
scripting_of first = false
scripting_of (second choosing) = false
scripting_of (third choosing syllabus) = false
scripting_of (fourth choosing syllabus dates) = false
scripting_of (fifth choosing syllabus dates families) = false
scripting_of (sixth choosing syllabus dates families scripting) = scripting
scripting_of (seventh choosing syllabus dates families scripting logs) = scripting

abbrev pub logs_of : Tail → Logs
logs_of first = unlogged
logs_of (second choosing) = unlogged
logs_of (third choosing syllabus) = unlogged
logs_of (fourth choosing syllabus dates) = unlogged
logs_of (fifth choosing syllabus dates families) = unlogged
logs_of (sixth choosing syllabus dates families scripting) = unlogged
logs_of (seventh choosing syllabus dates families scripting logs) = logs

-- the first mask bit without a name: 22, from version 04 on 25, and from version 05 on 26, whatever the tail says
abbrev pub unnamed_of : Tail → ℕ
unnamed_of first = 2 ^ 22
unnamed_of (second choosing) = 2 ^ 22
unnamed_of (third choosing syllabus) = 2 ^ 22
unnamed_of (fourth choosing syllabus dates) = 2 ^ 25
unnamed_of (fifth choosing syllabus dates families) = 2 ^ 26
unnamed_of (sixth choosing syllabus dates families scripting) = 2 ^ 26
unnamed_of (seventh choosing syllabus dates families scripting logs) = 2 ^ 26

-- ---- what fits: numbers of entries and lengths below 256, syllabus 0 or 1, a row of rules, a cashback check and a log's byte for each of the p
-- profiles

abbrev pub FineEntries : List (List ℕ) → Type 0
FineEntries [] = Unit
FineEntries (e ∷ es) = (length e < 256) × FineEntries es

abbrev pub FineChoosing : Choosing → Type 0
FineChoosing off = Unit
FineChoosing (on es) = (length es < 256) × FineEntries es

abbrev pub FineDates : (p : ℕ) → Dates → Type 0
FineDates p undated = Unit
FineDates p (dated d) = Fits (cycles_row d) × (length d.rules ≡ p)

abbrev pub FineFamilies : (p : ℕ) → Families → Type 0
FineFamilies p cpa = Unit
FineFamilies p (cpace f) = Fits (controls_row f) × (length f.cashbacks ≡ p)

abbrev pub FineLogs : (p : ℕ) → Logs → Type 0
FineLogs p unlogged = Unit
FineLogs p (logged l) = (length l.profiles ≡ p) × (length l.firsts < 256) × (length l.seconds < 256)

abbrev pub Fine : (p : ℕ) → Tail → Type 0
Fine p first = Unit
Fine p (second choosing) = FineChoosing choosing
Fine p (third choosing syllabus) = FineChoosing choosing × (syllabus ≤ 1)
Fine p (fourth choosing syllabus dates) = FineChoosing choosing × (syllabus ≤ 1) × FineDates p dates
Fine p (fifth choosing syllabus dates families) = FineChoosing choosing × (syllabus ≤ 1) × FineDates p dates × FineFamilies p families
Fine p (sixth choosing syllabus dates families scripting) = FineChoosing choosing × (syllabus ≤ 1) × FineDates p dates × FineFamilies p families
Fine p (seventh choosing syllabus dates families scripting logs) =
    FineChoosing choosing × (syllabus ≤ 1) × FineDates p dates × FineFamilies p families × FineLogs p logs

-- p and c stand at 3 and 4 of the base, which has 52 + 107p + 7c bytes
abbrev pub base_length : List ℕ → ℕ
base_length s = 52 + 107 * byte s 3 + 7 * byte s 4

abbrev pub Base : List ℕ → Type 0
Base base = length base ≡ base_length base

-- ---- what is read of a body that is a base and its tail

-- where the file stands, and the number of its entries
abbrev pub selecting : Choosing → ℕ → Option SelectionFile
selecting off at = None
selecting (on es) at = Some (file (at + 2) (at + 2 + length (file_bytes es)) (length es))

abbrev pub file_in : Option SelectionFile → List ℕ → List ℕ
file_in None body = []
file_in (Some part) body = take (part.end - part.start) (drop part.start body)

abbrev pub file_of : Choosing → List ℕ
file_of off = []
file_of (on es) = file_bytes es

-- where the dates' tail stands: behind the selection's and the syllabus
abbrev pub dating : Dates → ℕ → Option Span
dating undated at = None
dating (dated d) at = Some (span at (at + length (cycles_bytes (dated d))))

abbrev pub dates_at : (base : List ℕ) → Choosing → ℕ
dates_at base choosing = length base + length (choosing_bytes choosing) + 1

-- where the family's tail stands: behind the dates'
abbrev pub family_from : Families → ℕ → Family
family_from cpa at = Cpa
family_from (cpace f) at = Cpace at (at + length (controls_bytes (cpace f)))

abbrev pub families_at : (base : List ℕ) → Choosing → Dates → ℕ
families_at base choosing dates = dates_at base choosing + length (dates_bytes dates)

-- where the log's tail stands: behind the byte of scripts
abbrev pub logging_from : Logs → ℕ → Option Span
logging_from unlogged at = None
logging_from (logged l) at = Some (span at (at + length (log_bytes l)))

abbrev pub logs_at : (base : List ℕ) → Choosing → Dates → Families → ℕ
logs_at base choosing dates families = families_at base choosing dates + length (families_bytes families) + 1

-- no byte where the log is off
abbrev pub log_said : Logs → List ℕ
log_said unlogged = []
log_said (logged l) = log_bytes l

-- the shape: the base's length, where the file stands, the syllabus, where the dates' and the family's tail stand, whether scripts are on,
-- where the log's tail stands, the first unnamed mask bit
abbrev pub shape_said : (base : List ℕ) → Tail → Shape
shape_said base tail =
    record {
      base = length base;
      selecting = selecting (choosing_of tail) (length base);
      syllabus = syllabus_of tail;
      dating = dating (dates_of tail) (dates_at base (choosing_of tail));
      family = family_from (families_of tail) (families_at base (choosing_of tail) (dates_of tail));
      scripting = scripting_of tail;
      logging = logging_from (logs_of tail) (logs_at base (choosing_of tail) (dates_of tail) (families_of tail));
      unnamed = unnamed_of tail;
    }

pub record TailSays (base : List ℕ) (tail : Tail) (body : List ℕ) : Type 0 where
  pub read : shape_of (version_of tail) body ≡ Ok (shape_said base tail)
  pub base-is : base_part (shape_said base tail) body ≡ base
  pub file : file_in (selecting (choosing_of tail) (length base)) body ≡ file_of (choosing_of tail)
  pub cycles : tail_part (shape_said base tail).dating body ≡ cycles_bytes (dates_of tail)
  pub family : family_part (shape_said base tail).family body ≡ controls_bytes (families_of tail)
  pub log : tail_part (shape_said base tail).logging body ≡ log_said (logs_of tail)

-- a body is a base and the tail of its version
pub record IsSpelled (version : ℕ) (body : List ℕ) : Type 0 where
  pub base : List ℕ
  pub tail : Tail
  pub version-is : version_of tail ≡ version
  pub sized : Base base
  pub fine : Fine (byte base 3) tail
  pub joined : base ++ tail_bytes tail ≡ body

-- ---- why a tail is refused

-- not so many entries exactly: bytes left over, an entry missing or cut short
pub data BadFile : List ℕ → ℕ → Type 0 where
  left_over : {file : List ℕ} → 0 < length file → BadFile file 0
  cut_short_lem : {file : List ℕ} {n : ℕ} → length file ≤ byte file 0 → BadFile file (suc n)
  below : {file : List ℕ} {n : ℕ} → byte file 0 < length file → BadFile (drop (byte file 0 + 1) file) n → BadFile file (suc n)

-- no switch; a switch above 1; bytes behind "off"; no number of entries; not so many entries
pub data BadChoosing (tail : List ℕ) : Type 0 where
  missing : length tail ≡ 0 → BadChoosing tail
  above : 1 < byte tail 0 → BadChoosing tail
  behind-off : byte tail 0 ≡ 0 → 1 < length tail → BadChoosing tail
  no_number : byte tail 0 ≡ 1 → length tail ≡ 1 → BadChoosing tail
  entries : byte tail 0 ≡ 1 → 1 < length tail → BadFile (drop 2 tail) (byte tail 1) → BadChoosing tail

abbrev pub but_last : List ℕ → List ℕ
but_last s = take (length s - 1) s

-- from version 04 on, read from the front: an entry is missing or cut short
pub data CutFile : List ℕ → ℕ → Type 0 where
  cut-here : {file : List ℕ} {n : ℕ} → length file ≤ byte file 0 → CutFile file (suc n)
  cut_below : {file : List ℕ} {n : ℕ} → byte file 0 < length file → CutFile (drop (byte file 0 + 1) file) n → CutFile file (suc n)

-- no switch; a switch above 1; no number of entries; not so many entries
pub data NoChoosing (tail : List ℕ) : Type 0 where
  no_choice : length tail ≡ 0 → NoChoosing tail
  choice-above : 1 < byte tail 0 → NoChoosing tail
  no_count : byte tail 0 ≡ 1 → length tail ≡ 1 → NoChoosing tail
  cut-file : byte tail 0 ≡ 1 → 1 < length tail → CutFile (drop 2 tail) (byte tail 1) → NoChoosing tail

-- how many bytes a log that is on has, by the numbers of its entries
abbrev pub table_long : List ℕ → (at : ℕ) → ℕ
table_long rest at = 1 + 3 * byte rest at

abbrev pub log_long : (p : ℕ) → List ℕ → ℕ
log_long p rest = 3 + p + table_long rest (3 + p) + table_long rest (3 + p + table_long rest (3 + p))

-- behind the byte of scripts: no switch; a switch above 1; bytes behind "off"; another length than it says
pub data BadLog (p : ℕ) (rest : List ℕ) : Type 0 where
  no_log : length rest ≡ 0 → BadLog p rest
  log-above : 1 < byte rest 0 → BadLog p rest
  behind-unlogged : byte rest 0 ≡ 0 → 1 < length rest → BadLog p rest
  log_length : byte rest 0 ≡ 1 → (length rest ≡ log_long p rest → ⊥) → BadLog p rest

-- behind the family: in version 05 any byte; from version 06 on no byte; one above 1; in version 06 more than one; in version 07 what stands behind it
pub data BadScripts (version p : ℕ) (rest : List ℕ) : Type 0 where
  behind-family : version ≡ 5 → 0 < length rest → BadScripts version p rest
  no_scripts : 6 ≤ version → length rest ≡ 0 → BadScripts version p rest
  scripts-above : 6 ≤ version → 1 < byte rest 0 → BadScripts version p rest
  behind-scripts : version ≡ 6 → 1 < length rest → BadScripts version p rest
  bad_log : version ≡ 7 → BadLog p (drop 1 rest) → BadScripts version p rest

-- behind the dates: in version 04 any byte; from version 05 on no family; one above 1; what stands behind "CPA"; less than 9 + p bytes, or what stands
-- behind them
pub data BadEnd (version p : ℕ) (rest : List ℕ) : Type 0 where
  behind-dates : version ≡ 4 → 0 < length rest → BadEnd version p rest
  no_family : 5 ≤ version → length rest ≡ 0 → BadEnd version p rest
  family-above : 5 ≤ version → 1 < byte rest 0 → BadEnd version p rest
  behind-cpa : 5 ≤ version → byte rest 0 ≡ 0 → BadScripts version p (drop 1 rest) → BadEnd version p rest
  cpace-short : 5 ≤ version → byte rest 0 ≡ 1 → length rest < 9 + p → BadEnd version p rest
  behind-cpace : 5 ≤ version → byte rest 0 ≡ 1 → BadScripts version p (drop (9 + p) rest) → BadEnd version p rest

-- behind a selection: no syllabus; one above 1; then no switch; one above 1; what stands behind "off"; less than 28 + 18p bytes, or what stands behind them
pub data BadDates (version p : ℕ) (tail : List ℕ) : Type 0 where
  nothing-behind : length tail ≡ 0 → BadDates version p tail
  follows-above : 1 < byte tail 0 → BadDates version p tail
  no_dated : length tail ≡ 1 → BadDates version p tail
  dated-above : 1 < byte tail 1 → BadDates version p tail
  behind-undated : byte tail 1 ≡ 0 → BadEnd version p (drop 2 tail) → BadDates version p tail
  dated-short : byte tail 1 ≡ 1 → length tail < 1 + (28 + 18 * p) → BadDates version p tail
  behind-dated : byte tail 1 ≡ 1 → BadEnd version p (drop (1 + (28 + 18 * p)) tail) → BadDates version p tail

-- version 01: another length than the base's; version 02: what is behind the base; version 03: nothing behind the base, a syllabus above 1, or
-- what stands between; from version 04 on: no selection behind the base, or what stands behind one
pub data BadTail (version : ℕ) (body : List ℕ) : Type 0 where
  other_length : version ≡ 1 → (length body ≡ base_length body → ⊥) → BadTail version body
  choosing : version ≡ 2 → BadChoosing (drop (base_length body) body) → BadTail version body
  no_syllabus : version ≡ 3 → length body ≤ base_length body → BadTail version body
  syllabus-above : version ≡ 3 → 1 < byte body (length body - 1) → BadTail version body
  between : version ≡ 3 → BadChoosing (but_last (drop (base_length body) body)) → BadTail version body
  no_choosing : 4 ≤ version → NoChoosing (drop (base_length body) body) → BadTail version body
  behind-choosing : 4 ≤ version → (choosing : Choosing) (tail : List ℕ) → drop (base_length body) body ≡ choosing_bytes choosing ++ tail
      → BadDates version (byte body 3) tail
      → BadTail version body
