-- The shape of a paper: what its version adds to a set-up's body, read front to back (docs/PAPERS.md, "How a version adds"; document 02, Three,
-- Nine, Five, Thirteen, Twelve and Eight). The base of document 01, 52 + 107p + 7c bytes, then a tail for each addition, in the order of the versions, to
-- the body's end.
use Rattle.std.specs.Prelude.{ℕ, zero, suc, ◌+◌, ◌-◌, ◌*◌, ◌^◌, ◌≤◌, Bool, false, cond, List, [], eqb, ltb, leb, length, take, drop, Err, None, Ok, Option, Result, Some}
use Rattle.wire.specs.Wire.{byte}
pub use Rattle.layout.specs.Layout.{base_length, cycles_length, family_length}
use Rattle.refusal.specs.declared.Refusal.TheVariants.{BadSetup}
use Rattle.refusal.specs.Refusal.{refusal_number}
use Rattle.shape.specs.declared.Family.{Family}
use Rattle.shape.specs.declared.Family.TheVariants.{Cpa, Cpace}
use Rattle.shape.specs.declared.Shape.{Shape}
use Rattle.refusal.specs.declared.Refusal.{Refusal}
use Rattle.shape.specs.declared.SelectionFile.{SelectionFile}
use Rattle.shape.specs.declared.Span.{Span}
use Rattle.shape.specs.declared.Tails.{Tails}

-- a part of a body: the place of its first byte and the place behind its last
abbrev pub span : (start end : ℕ) → Span
span start end = record { start = start; end = end }

-- the part that is a selection file of so many entries
abbrev pub file : (start end entries : ℕ) → SelectionFile
file start end entries = record { start = start; end = end; entries = entries }

-- tails that say this shape, read up to a place
abbrev pub ended_at : Shape → (at : ℕ) → Option Tails
ended_at shape at = Some (record { shape = shape; at = at })

-- THE BASE, which is whole; with no tail nothing is selected, the syllabus is 0, nothing is dated, the family is CPA, scripts and the log are off,
-- and mask bits 0 to 21 are named
abbrev pub based : (base : ℕ) → Shape
based base =
    record {
      base = base;
      selecting = None;
      syllabus = 0;
      dating = None;
      family = Cpa;
      scripting = false;
      logging = None;
      unnamed = 2 ^ 22;
    }

unfoldable pub base_tail : List ℕ → Option Tails
base_tail body = cond (ltb (length body) (base_length body)) None (ended_at (based (base_length body)) (base_length body))

-- VERSION 02, the selection: 0 off; 1 on, the number of entries, and then the entries
-- where so many entries from a place on end: each is its length byte and as many bytes as that says
unfoldable pub entries_end : List ℕ → (at entries : ℕ) → ℕ
entries_end body at zero = at
entries_end body at (suc n) = entries_end body at n + 1 + byte body (entries_end body at n)

abbrev pub file_end : List ℕ → (at : ℕ) → ℕ
file_end body at = entries_end body (at + 2) (byte body (at + 1))

abbrev pub selects : Shape → (start end entries : ℕ) → Shape
selects shape start end entries = record shape { selecting = Some (file start end entries) }

unfoldable pub selection_tail : List ℕ → Shape → (at : ℕ) → Option Tails
selection_tail body shape at =
    cond (leb (length body) at) None
    (cond (eqb (byte body at) 0) (ended_at shape (at + 1))
    (cond (ltb 1 (byte body at)) None
    (cond (ltb (length body) (file_end body at)) None (ended_at (selects shape (at + 2) (file_end body at) (byte body (at + 1))) (file_end body at)))))

-- VERSION 03, the syllabus: 0 or 1
abbrev pub follows : Shape → (syllabus : ℕ) → Shape
follows shape syllabus = record shape { syllabus = syllabus }

unfoldable pub syllabus_tail : List ℕ → Shape → (at : ℕ) → Option Tails
syllabus_tail body shape at =
    cond (leb (length body) at) None (cond (ltb 1 (byte body at)) None (ended_at (follows shape (byte body at)) (at + 1)))

-- VERSION 04, dates: 0 off; 1 on, and then the last date, the cyclic accumulators and their rules, 28 + 18p bytes in all; on or off, mask
-- bits 0 to 24 are named
abbrev pub dates : Shape → Option Span → Shape
dates shape dating = record shape { dating = dating; unnamed = 2 ^ 25 }

abbrev pub dates_end : List ℕ → (at : ℕ) → ℕ
dates_end body at = at + cycles_length body

unfoldable pub dating_tail : List ℕ → Shape → (at : ℕ) → Option Tails
dating_tail body shape at =
    cond (leb (length body) at) None
    (cond (eqb (byte body at) 0) (ended_at (dates shape None) (at + 1))
    (cond (ltb 1 (byte body at)) None
    (cond (ltb (length body) (dates_end body at)) None (ended_at (dates shape (Some (span at (dates_end body at)))) (dates_end body at)))))

-- VERSION 05, the card family: 0 CPA; 1 CPACE, and then the controls and the cashback checks, 9 + p bytes in all; whichever it is, mask bits 0 to
-- 25 are named
abbrev pub families : Shape → Family → Shape
families shape family = record shape { family = family; unnamed = 2 ^ 26 }

abbrev pub family_end : List ℕ → (at : ℕ) → ℕ
family_end body at = at + family_length body

unfoldable pub family_tail : List ℕ → Shape → (at : ℕ) → Option Tails
family_tail body shape at =
    cond (leb (length body) at) None
    (cond (eqb (byte body at) 0) (ended_at (families shape Cpa) (at + 1))
    (cond (ltb 1 (byte body at)) None
    (cond (ltb (length body) (family_end body at)) None (ended_at (families shape (Cpace at (family_end body at))) (family_end body at)))))

-- VERSION 06, scripts: 0 off, 1 on
abbrev pub scripts : Shape → (scripting : Bool) → Shape
scripts shape scripting = record shape { scripting = scripting }

unfoldable pub scripting_tail : List ℕ → Shape → (at : ℕ) → Option Tails
scripting_tail body shape at =
    cond (leb (length body) at) None (cond (ltb 1 (byte body at)) None (ended_at (scripts shape (eqb (byte body at) 1)) (at + 1)))

-- VERSION 07, the log: 0 off; 1 on, the ring's size, the switches, a byte for each profile, and two tables, each the number of its entries and 3
-- bytes for each
abbrev pub logs : Shape → Option Span → Shape
logs shape logging = record shape { logging = logging }

abbrev pub table_end : List ℕ → (at : ℕ) → ℕ
table_end body at = at + 1 + 3 * byte body at

abbrev pub log_end : List ℕ → (at : ℕ) → ℕ
log_end body at = table_end body (table_end body (at + 3 + byte body 3))

unfoldable pub logging_tail : List ℕ → Shape → (at : ℕ) → Option Tails
logging_tail body shape at =
    cond (leb (length body) at) None
    (cond (eqb (byte body at) 0) (ended_at shape (at + 1))
    (cond (ltb 1 (byte body at)) None
    (cond (ltb (length body) (log_end body at)) None (ended_at (logs shape (Some (span at (log_end body at)))) (log_end body at)))))

-- one tail behind another; above the paper's version it is off and has no bytes
abbrev pub behind : Option Tails → (Shape → ℕ → Option Tails) → Option Tails
behind None tail = None
behind (Some tails) tail = tail tails.shape tails.at

abbrev pub since : (first version : ℕ) → Option Tails → (Shape → ℕ → Option Tails) → Option Tails
since first version before tail = cond (ltb version first) before (behind before tail)

unfoldable pub tails_of : (version : ℕ) (body : List ℕ) → Option Tails
tails_of version body =
    since 7 version
    (since 6 version
    (since 5 version
    (since 4 version (since 3 version (since 2 version (base_tail body) (selection_tail body)) (syllabus_tail body)) (dating_tail body))
    (family_tail body))
    (scripting_tail body))
    (logging_tail body)

-- THE SHAPE: the last tail ends where the body does, or refusal 1
abbrev pub whole : List ℕ → Option Tails → Result Shape Refusal
whole body None = Err BadSetup
whole body (Some tails) = cond (eqb tails.at (length body)) (Ok tails.shape) (Err BadSetup)

unfoldable pub shape_of : (version : ℕ) (body : List ℕ) → Result Shape Refusal
shape_of version body = whole body (tails_of version body)

abbrev pub base_part : Shape → (body : List ℕ) → List ℕ
base_part shape body = take shape.base body

-- the tail of version 04 where dates are on, that of version 07 where the log is on; no byte where they are off
abbrev pub tail_part : Option Span → (body : List ℕ) → List ℕ
tail_part None body = []
tail_part (Some part) body = take (part.end - part.start) (drop part.start body)

-- the tail of version 05 of a CPACE card, no byte of a CPA one
abbrev pub family_part : Family → (body : List ℕ) → List ℕ
family_part Cpa body = []
family_part (Cpace start end) body = take (end - start) (drop start body)

-- the tail lies in so many bytes
abbrev pub Spans : Option Span → (bytes : ℕ) → Type 0
Spans None bytes = Unit
Spans (Some part) bytes = (part.start ≤ part.end) × (part.end ≤ bytes)

abbrev pub Holds : Family → (bytes : ℕ) → Type 0
Holds Cpa bytes = Unit
Holds (Cpace start end) bytes = (start ≤ end) × (end ≤ bytes)

-- the file lies in so many bytes
abbrev pub Lies : Option SelectionFile → (bytes : ℕ) → Type 0
Lies None bytes = Unit
Lies (Some part) bytes = (part.start ≤ part.end) × (part.end ≤ bytes)

-- the same, with the places those in the paper, where the body stands at a place of it
abbrev pub selecting_at : (place : ℕ) → Option SelectionFile → Option SelectionFile
selecting_at place None = None
selecting_at place (Some part) = Some (file (place + part.start) (place + part.end) part.entries)

abbrev pub span_at : (place : ℕ) → Option Span → Option Span
span_at place None = None
span_at place (Some part) = Some (span (place + part.start) (place + part.end))

abbrev pub family_at : (place : ℕ) → Family → Family
family_at place Cpa = Cpa
family_at place (Cpace start end) = Cpace (place + start) (place + end)

abbrev pub shape_at : (place : ℕ) → Shape → Shape
shape_at place shape =
    record shape {
      selecting = selecting_at place shape.selecting;
      dating = span_at place shape.dating;
      family = family_at place shape.family;
      logging = span_at place shape.logging;
    }

abbrev pub shape_number : Result Shape Refusal → ℕ
shape_number (Ok shape) = 0
shape_number (Err refusal) = refusal_number refusal
