-- A set-up's whole body, of any version: the base spelled from fields in their ranges, and the version's tail.
use Rattle.std.specs.Prelude.{◌≡◌, List, ◌++◌, ℕ, length, Ok, Result}
use Rattle.wire.specs.Wire.{byte}
use Rattle.rules.specs.Rules.{rules_of}
use Rattle.rules.specs.Word.{word_count}
use Rattle.setup.specs.declared.ReadSetup.{ReadSetup}
use Rattle.setup.specs.Setup.{read_setup, words_after, setup_number}
use Rattle.log_tail.specs.LogTail.{judged}
use Rattle.bodies.specs.Bodies.{first_length}
use Rattle.shape.specs.declared.Shape.{Shape}
use Rattle.shape.specs.Shape.{base_part, tail_part, family_part, shape_of}
use Rattle.rows.specs.Rows.{Setup, Fits, setup_row, body}
use Rattle.rows.specs.InRange.{InRange, DatesRange, FamiliesRange, LogsRange, first_long, LogsWithin}
use Rattle.rows.specs.Said.{rules_said, fresh_said}
use Rattle.rows.specs.Tails.{Tail, version_of, tail_bytes, syllabus_of, dates_of, families_of, logs_of, unnamed_of, Fine, shape_said}
use Rattle.log_tail.specs.declared.Fault.{Fault}

abbrev pub whole_body : Setup → Tail → List ℕ
whole_body x tail = body x ++ tail_bytes tail

-- every field is in its range
pub record IsInRange (version : ℕ) (s : List ℕ) : Type 0 where
  pub setup : Setup
  pub tail : Tail
  pub version-is : version_of tail ≡ version
  pub fits : Fits (setup_row setup)
  pub in_range_lem : InRange setup (unnamed_of tail)
  pub fine : Fine (length setup.profiles) tail
  pub dates_in_range : DatesRange (dates_of tail)
  pub families_in_range : FamiliesRange (families_of tail)
  pub logs_in_range : LogsRange (logs_of tail)
  pub spelled : whole_body setup tail ≡ s

-- no entry of its log reaches past its data
abbrev pub Within : Tail → Type 0
Within tail = LogsWithin (first_long (dates_of tail) (families_of tail)) (logs_of tail)

-- A SET-UP
pub record IsSetup (version : ℕ) (s : List ℕ) : Type 0 where
  pub fields : IsInRange version s
  pub within : Within fields.tail

-- all of it but that: refusal 14
pub record IsPast (version : ℕ) (s : List ℕ) : Type 0 where
  pub fields : IsInRange version s
  pub past : Within fields.tail → ⊥

-- what is read of a body of this shape: its base, and its tails of versions 04 and 05
abbrev pub read_whole : Shape → (s : List ℕ) → ReadSetup
read_whole shape s = read_setup (base_part shape s) (tail_part shape.dating s) (family_part shape.family s) shape.unnamed

abbrev pub words_whole : (words : List ℕ) → Shape → (s : List ℕ) → List ℕ
words_whole words shape s =
    words_after words (base_part shape s) (tail_part shape.dating s) (family_part shape.family s) shape.syllabus shape.unnamed

-- and of its log: where it is off it has no byte
abbrev pub log_whole : Shape → (s : List ℕ) → Result Unit Fault
log_whole shape s = judged (tail_part shape.logging s) (byte s 3) (first_length shape.dating shape.family)

-- its base and its tails are taken, where its shape is this, and its log is found to be so
pub record IsTaken (found : Result Unit Fault) (version : ℕ) (s : List ℕ) : Type 0 where
  pub shape : Shape
  pub shape_is : shape_of version s ≡ Ok shape
  pub base : setup_number (read_whole shape s).answer ≡ 0
  pub log : log_whole shape s ≡ found

-- what the conversation asks of it: the rules in the words that it was loaded into, the fresh card, and where selection's file stands
pub record WholeSays (x : Setup) (tail : Tail) (version : ℕ) (s : List ℕ) : Type 0 where
  pub shape_is : shape_of version s ≡ Ok (shape_said (body x) tail)
  pub answered : read_whole (shape_said (body x) tail) s ≡ record { fresh = fresh_said x (dates_of tail); answer = Ok tt }
  pub loaded : (words : List ℕ) → length words ≡ word_count
      → rules_of (words_whole words (shape_said (body x) tail) s) ≡ rules_said x (dates_of tail) (families_of tail) (syllabus_of tail)
  pub log : log_whole (shape_said (body x) tail) s ≡ Ok tt
