-- The text of a log is lines, none where a paper has no line but its set-up's. Assumes nothing.
use mathlib.Core.Path.{◌≡◌, refl}
use mathlib.Core.Bool.{Bool, true, false, cond}
use mathlib.Core.List.{List, []}
use Prim.Native.Nat.{ℕ, ◌≤◌}
use native.Mathlib.Omega.{arith}
use borrow.Author.Tests.{ltb-false}
use lib.Dec.{ltb}
use lib.ListN.{length}
use Rattle.wire.specs.Wire.{byte}
use Rattle.text.specs.Text.{joined}
use Rattle.text.proofs.Each.{Each, none}
use Rattle.text.proofs.Fields.{Fed}
use Rattle.rules.specs.Rules.{rules_of, blank_words}
use Rattle.opening.specs.Opening.{begun_of, words_begun}
use Rattle.replies.specs.Replies.{behind}
use Rattle.ring.specs.Ring.{no_records, count_kept, count_in, slots_of}
use Rattle.paper_log.specs.declared.Log.{Log}
use Rattle.paper_log.specs.Log.{log_of}
use Rattle.log_text.specs.LogText.{longest, lines_up_to, log_lines, log_text}
use Rattle.log_text.proofs.Lines.{Small, log_fed, text-short}
use Rattle.log_book.specs.Logbook.{lines_in, ring_by, shaped_behind}
use Rattle.paper_text.specs.PaperText.{log_behind}

-- a text that is lines, each with its line feed
pub record Lined (text : List ℕ) : Type 0 where
  pub lines : List (List ℕ)
  pub is : text ≡ joined lines
  pub fed : Each Fed lines

no_lines : Lined []
unfolding joined
no_lines = record { lines = []; is = refl; fed = none }

pub lined : (paper text : List ℕ) → Lined (log_behind paper text)
unfolding log_behind shaped_behind
lined paper text = by (ltb (byte paper 0) 7) (ltb (length paper) (begun_of paper).at) where
  log : Log
  log = log_of (rules_of (words_begun blank_words paper)) (begun_of paper).shape paper

  ring : List ℕ
  ring = ring_by log.logging paper (begun_of paper).at (lines_in (behind 10 text)) no_records

  by : (a b : Bool) → Lined (cond a [] (cond b [] (log_text log paper ring)))
  by true b = no_lines
  by false true = no_lines
  by false false = record { lines = log_lines log paper ring; is = refl; fed = log_fed log paper ring }

-- no longer than the longest, where all numbers of the paper are bytes
pub log-long : (paper text : List ℕ) → Small paper → length (log_behind paper text) ≤ longest
unfolding log_behind shaped_behind
log-long paper text small = by (ltb (byte paper 0) 7) (ltb (length paper) (begun_of paper).at) where
  log : Log
  log = log_of (rules_of (words_begun blank_words paper)) (begun_of paper).shape paper

  ring : List ℕ
  ring = ring_by log.logging paper (begun_of paper).at (lines_in (behind 10 text)) no_records

  by : (a b : Bool) → length (cond a [] (cond b [] (log_text log paper ring))) ≤ longest
  by true b = omega arith
  by false true = omega arith
  by false false = text-short log paper ring small

-- without a record there is no line
none_kept : (slots : ℕ) → count_kept 0 slots ≡ 0
none_kept slots = by (ltb 0 slots) refl where
  by : (b : Bool) → ltb 0 slots ≡ b → cond b 0 slots ≡ 0
  by true e = refl
  by false e = let no_slot = ltb-false 0 slots e in omega arith

none-logged : (log : Log) (paper : List ℕ) → log_text log paper no_records ≡ []
unfolding log_lines lines_up_to count_in joined
none-logged log paper = rw (none_kept (slots_of log.logging.size))

pub no_further_line : (paper text : List ℕ) → behind 10 text ≡ [] → log_behind paper text ≡ []
unfolding log_behind shaped_behind lines_in ring_by
no_further_line paper text e = rw e (by (ltb (byte paper 0) 7) (ltb (length paper) (begun_of paper).at)) where
  log : Log
  log = log_of (rules_of (words_begun blank_words paper)) (begun_of paper).shape paper

  by : (a b : Bool) → cond a [] (cond b [] (log_text log paper no_records)) ≡ []
  by true b = refl
  by false true = refl
  by false false = none-logged log paper
