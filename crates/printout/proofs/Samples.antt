-- What the statements say at chosen inputs, worked out. Assumes nothing.
use mathlib.Core.Bool.{not, ◌&&◌}
use mathlib.Core.List.{List, [], ◌∷◌, ◌++◌}
use Prim.Native.Nat.{ℕ}
use lib.Dec.{T, eqb}
use lib.ListN.{length, replicate, get_or}
use Rattle.wire.specs.Wire.{byte, number}
use Rattle.rules.specs.Word.{word_count}
use Rattle.transcript.specs.Transcript.{joined, transcript_of}
use Rattle.paper_text.specs.PaperText.{log_behind, text_of}
use Rattle.pages.specs.Stack.{pages_in, stack_of}
use Rattle.import.specs.Import.{import_record, old_record, take_over}
use Rattle.imports.specs.Imports.{digits_of, record_line, lines_in, imports_from, imports_of}
use Rattle.spelling.specs.Spelling.{big, record_of, unsaid, names, kind_of, body_of, spell, paper_of}
use Rattle.spelling.specs.Printed.{printed, body}
use Rattle.spelling.proofs.Computed.{answered}
use Rattle.printout.specs.Text.{lines_read}
use Rattle.printout.specs.Stack.{stack_with}

-- `text-lines`: an empty paper has the one line "0 9"
abbrev unread : List (List ℕ)
unread = lines_read (text_of [] [])

-- and the printed set-up, a Start and a byte more have three
abbrev heard : List (List ℕ)
heard = lines_read (text_of (replicate word_count 0) (paper_of 1 body (spell (names unsaid 1) ++ 0 ∷ [])))

-- `stack-lines`, `cut-lines`: two empty papers, and one behind which a byte stands
abbrev two : List (List ℕ)
two = lines_read (stack_of [] (stack_with ([] ∷ [] ∷ [])))

abbrev cut : List (List ℕ)
cut = lines_read (stack_of [] (stack_with ([] ∷ []) ++ 0 ∷ []))

-- `records-told`: two records of zeros and a byte
abbrev records : List (List ℕ)
records = lines_read (imports_of (replicate 41 0))

-- the first byte of a line
abbrev first_of : List (List ℕ) → (place : ℕ) → ℕ
first_of lines place = byte (get_or lines place []) 0

pub record Samples : Type 0 where
  pub one_line : T (eqb (length unread) 1)
  pub each_line : T (eqb (length heard) 3)
  pub pages : T (eqb (length two) 4)
  pub empty-line : T (eqb (length (get_or two 1 [])) 1)
  pub cut_short_lem : T (eqb (length cut) 3 && eqb (first_of cut 2) 0x63)
  pub each_record : T (eqb (length records) 3)
  pub from_1 : T (eqb (first_of records 0) 0x31)
  pub rising_by_1 : T (eqb (first_of records 1) 0x32)

pub samples : Samples
unfolding printed record_of kind_of body_of answered text_of log_behind transcript_of joined lines_read stack_with stack_of pages_in number big imports_from lines_in record_line
    import_record digits_of take_over old_record
samples =
    record {
      one_line = tt;
      each_line = tt;
      pages = tt;
      empty-line = tt;
      cut_short_lem = tt;
      each_record = tt;
      from_1 = tt;
      rising_by_1 = tt;
    }
