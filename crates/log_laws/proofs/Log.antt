-- The lines of a paper's log are those of its newest logged transactions. Assumes nothing.
use mathlib.Core.Path.{◌≡◌, refl, sym, ap, ◌∙◌}
use mathlib.Core.Bool.{Bool, true, false, cond}
use mathlib.Core.List.{List, [], ◌∷◌, ◌++◌}
use Prim.Native.Nat.{ℕ, zero, suc, ◌+◌, ◌-◌, ◌≤◌, ◌<◌, min}
use native.Mathlib.Omega.{arith}
use borrow.Author.Tests.{ltb-true, ltb-false, le-ltb}
use lib.Dec.{ltb}
use lib.ListN.{length, take, get_or, length-append, length-take}
use lib.Seq.{take_all, take-nil, get_or-take}
use Rattle.text.specs.Text.{joined}
use Rattle.refusal.specs.declared.Refusal.{Refusal}
use Rattle.refusal.specs.declared.Refusal.TheVariants.{Unreadable, PastData}
use Rattle.refusal.specs.Refusal.{refusal_number}
use Rattle.rules.specs.Word.{word_count}
use Rattle.rules.specs.Rules.{Rules, rules_of, blank_words}
use Rattle.shape.specs.declared.Shape.{Shape}
use Rattle.records.specs.declared.Event.TheVariants.{SetUp, Refused}
use Rattle.shape.specs.Shape.{shape_of}
use Rattle.paper.specs.Paper.{open_paper}
use Rattle.paper.specs.Walk.{part}
use Rattle.begun.specs.declared.Begun.{Begun}
use Rattle.begun.specs.Begun.{base_begun, past_begun}
use Rattle.opening.specs.Opening.{log_judged, logged_begun, shaped_begun, setup_begun, begun_of, words_begun}
use Rattle.conversation.specs.Events.{events_of}
use Rattle.lines.specs.Sitting.{lines_of, sitting_lines}
use Rattle.lines.proofs.Laws.{refusal_line_lem}
use Rattle.ring.specs.declared.Record.{Record}
use Rattle.ring.specs.Ring.{slots_of, no_records, found}
use Rattle.ring.proofs.Newest.{blank, none_held, Newest, read}
use Rattle.journal.specs.Logged.{logged_in, ring_through, turned}
use Rattle.journal.proofs.Newest.{through_newest}
use Rattle.log_fields.specs.declared.Form.{Form}
use Rattle.log_lines.specs.LogLines.{log_line}
use Rattle.paper_log.specs.declared.Log.{Log}
use Rattle.paper_log.specs.Log.{tail_at, log_of}
use Rattle.log_text.specs.LogText.{lines_up_to, log_lines}
use Rattle.replies.specs.Replies.{behind}
use Rattle.reply_laws.proofs.Marks.{behind-feed}
use Rattle.log_book.specs.Logbook.{lines_in, ring_by, shaped_behind}
use Rattle.spelling.specs.Spelling.{Bytes}
use Rattle.spelling.proofs.Shapes.{record_is}
use Rattle.spelling.proofs.Opening.{opens}
use Rattle.papers.specs.Papers.{Accepted}
use Rattle.papers.specs.Talk.{Heard, unread, not_set_up, past_data, heard}
use Rattle.papers.proofs.Setups.{begins}
use Rattle.papers.proofs.Events.{every_paper, accepted-exactly}
use Rattle.log_laws.specs.Spoken.{is_whole}
use Rattle.log_laws.specs.Owed.{log_in, seen_in, logged_of, lines_from, newest_lines, whole_lines}
use Rattle.log_laws.proofs.Answers.{records_of, events-are, paper-told}
use Rattle.log_laws.proofs.Rings.{ring_as_spoken}
use Rattle.std.specs.Prelude.{Err, Ok, Result, Some}
use Rattle.log_tail.specs.declared.Fault.{Fault}
use Rattle.log_tail.specs.declared.Fault.TheVariants.{PastData as TableFault}
use Rattle.log_tail.specs.declared.Fault.TheVariants.{Wrong}

-- ---- the lines of a ring that has the newest of some records

module _ (paper tail : List ℕ) (form : Form) where
  -- one record more at the end
  one_more_lem : (n number : ℕ) (records : List Record) → n < length records
      → lines_from paper tail form number (take (suc n) records)
      ≡ lines_from paper tail form number (take n records) ++ log_line (number + n) paper tail form (get_or records n blank) ∷ []
  unfolding lines_from
  one_more_lem n number [] h = absurd (omega arith)
  one_more_lem zero number (one ∷ older) h = ap (λ (k : ℕ). log_line k paper tail form one ∷ []) (omega arith)
  one_more_lem (suc n) number (one ∷ older) h =
      let sum : number + 1 + n ≡ number + suc n = omega arith in
      ap (λ (lines : List (List ℕ)). log_line number paper tail form one ∷ lines)
      (one_more_lem n (number + 1) older (omega arith)
      ∙ ap (λ (k : ℕ). lines_from paper tail form (number + 1) (take n older) ++ log_line k paper tail form (get_or older n blank) ∷ []) sum)

  module _ (ring : List ℕ) (size : ℕ) (records : List Record) (newest : Newest size records ring) where
    up_to_lem : (n : ℕ) → n ≤ min (slots_of size) (length records)
        → lines_up_to paper tail form ring size n ≡ lines_from paper tail form 1 (take n records)
    unfolding lines_up_to
    up_to_lem zero h = (unfold lines_from in refl)
    up_to_lem (suc n) h =
        let there : found ring size (n + 1) ≡ Some (get_or records n blank) =
        newest.is (n + 1) (omega arith) (omega arith) ∙ ap (λ (k : ℕ). Some (get_or records k blank)) (omega arith) in
        rw (up_to_lem n (omega arith), there)
        (ap (λ (k : ℕ). lines_from paper tail form 1 (take n records) ++ log_line k paper tail form (get_or records n blank) ∷ []) (omega arith)
        ∙ sym (one_more_lem n 1 records (omega arith)))

take-least : {A : Type 0} (n : ℕ) (s : List A) → take (min n (length s)) s ≡ take n s
take-least n s = by (ltb n (length s)) refl where
  by : (b : Bool) → ltb n (length s) ≡ b → take (min n (length s)) s ≡ take n s
  by true e = let h = ltb-true n (length s) e in let least : min n (length s) ≡ n = omega arith in ap (λ (k : ℕ). take k s) least
  by false e = let h = ltb-false n (length s) e in take_all (min n (length s)) s (omega arith) ∙ sym (take_all n s h)

pub ring_lines : (log : Log) (paper ring : List ℕ) (records : List Record) → Newest log.logging.size records ring
    → log_lines log paper ring ≡ newest_lines log paper records
unfolding log_lines newest_lines
ring_lines log paper ring records newest =
    let size = log.logging.size in
    let tail = tail_at paper log.start log.end in
    ap (lines_up_to paper tail log.form ring size) newest.count
    ∙ up_to_lem paper tail log.form ring size records newest (min (slots_of size) (length records)) (omega arith)
    ∙ ap (lines_from paper tail log.form 1) (take-least (slots_of size) records)

-- a ring that has none has no line
pub no_lines : (log : Log) (paper : List ℕ) → log_lines log paper no_records ≡ []
unfolding newest_lines lines_from
no_lines log paper =
    let slots = slots_of log.logging.size in
    ring_lines log paper no_records [] (read log.logging.size [] no_records (none_held slots))
    ∙ ap (lines_from paper (tail_at paper log.start log.end) log.form 1) (take-nil slots)

-- ---- the lines that are owed, one by one

from-count : (paper tail : List ℕ) (form : Form) (number : ℕ) (records : List Record) → length (lines_from paper tail form number records) ≡ length records
unfolding lines_from
from-count paper tail form number [] = refl
from-count paper tail form number (one ∷ older) = ap suc (from-count paper tail form (number + 1) older)

from_is : (paper tail : List ℕ) (form : Form) (number : ℕ) (records : List Record) (k : ℕ) → k < length records
    → get_or (lines_from paper tail form number records) k [] ≡ log_line (number + k) paper tail form (get_or records k blank)
unfolding lines_from
from_is paper tail form number [] k h = absurd (omega arith)
from_is paper tail form number (one ∷ older) zero h = ap (λ (n : ℕ). log_line n paper tail form one) (omega arith)
from_is paper tail form number (one ∷ older) (suc k) h =
    let sum : number + 1 + k ≡ number + suc k = omega arith in
    from_is paper tail form (number + 1) older k (omega arith) ∙ ap (λ (n : ℕ). log_line n paper tail form (get_or older k blank)) sum

module _ (log : Log) (paper : List ℕ) (logged : List Record) where
  abbrev slots : ℕ
  slots = slots_of log.logging.size

  -- AS MANY AS ARE LOGGED, OR AS THE RING HAS SLOTS
  pub newest-count : length (newest_lines log paper logged) ≡ min slots (length logged)
  unfolding newest_lines
  newest-count = from-count paper (tail_at paper log.start log.end) log.form 1 (take slots logged) ∙ length-take slots logged

  -- LINE k IS THAT OF THE k-TH NEWEST
  pub newest-line : (k : ℕ) → 1 ≤ k → k ≤ min slots (length logged)
      → get_or (newest_lines log paper logged) (k - 1) [] ≡ log_line k paper (tail_at paper log.start log.end) log.form (get_or logged (k - 1) blank)
  unfolding newest_lines
  newest-line k least most =
      let tail = tail_at paper log.start log.end in
      let number : 1 + (k - 1) ≡ k = omega arith in
      from_is paper tail log.form 1 (take slots logged) (k - 1) (omega (arith, length-take slots logged))
      ∙ ap (log_line (1 + (k - 1)) paper tail log.form) (get_or-take slots logged (k - 1) blank (omega arith))
      ∙ ap (λ (n : ℕ). log_line n paper tail log.form (get_or logged (k - 1) blank)) number

-- ---- where the records of a paper begin

begun-at : (paper : List ℕ) (version start end : ℕ) → open_paper paper ≡ Ok (record { version = version; start = start; end = end }) → (begun_of paper).at ≡ end
unfolding begun_of setup_begun
begun-at paper version start end e = rw e (by_shape (shape_of version (part paper start end))) where
  by-log : (judged : Result Unit Fault) (accepted : Bool) (begun : Begun) → begun.at ≡ end → (logged_begun judged accepted end begun).at ≡ end
  by-log (Ok done) accepted begun is = is
  by-log (Err Wrong) accepted begun is = refl
  by-log (Err TableFault) accepted begun is = (unfold past_begun in refl)

  by_shape : (read : Result Shape Refusal) → (shaped_begun (part paper start end) start end read).at ≡ end
  by_shape (Err refusal) = refl
  by_shape (Ok shape) = by-log (log_judged shape (part paper start end)) _ _ (unfold base_begun in refl)

begun-within : (paper : List ℕ) → Accepted paper → (begun_of paper).at ≤ length paper
begun-within paper a =
    let is = begun-at paper a.version 4 (4 + length a.body) (opens paper a.version a.body a.rest a.opens).0 in
    let long : length paper ≡ 4 + length a.body + length a.rest =
    rw (a.opens.is, record_is 1 a.body) (omega (arith, length-append a.body a.rest)) in
    omega arith

-- ---- of a paper

module _ (words paper : List ℕ) (lent : length words ≡ word_count) (bytes : Bytes paper) where
  abbrev text : List ℕ
  text = joined (sitting_lines words paper)

  -- the log as it is read for its lines, over words that are blank
  abbrev rules : Rules
  rules = rules_of (words_begun blank_words paper)

  abbrev shape : Shape
  shape = (begun_of paper).shape

  abbrev at : ℕ
  at = (begun_of paper).at

  abbrev log : Log
  log = log_of rules shape paper

  -- a refusal that ended the paper: with the set-up, and behind it
  refused-at-once : (refusal : Refusal) → events_of words paper ≡ Refused refusal ∷ [] → shaped_behind rules shape paper at text ≡ []
  unfolding shaped_behind sitting_lines lines_of joined lines_in ring_by
  refused-at-once refusal e =
      rw (e, behind-feed (refusal_line_lem 0 (refusal_number refusal)).fed [], no_lines log paper) (by (ltb (length paper) at)) where
        by : (past : Bool) → cond past [] (joined []) ≡ []
        by true = refl
        by false = refl

  module _ (begun : (begun_of paper).event ≡ SetUp) where
    accepted : Accepted paper
    accepted = (accepted-exactly paper bytes).0 begun

    records-behind : behind 10 text ≡ joined (lines_of 1 (records_of words paper))
    unfolding sitting_lines lines_of joined
    records-behind = rw (events-are words paper begun) (behind-feed (refusal_line_lem 0 0).fed (joined (lines_of 1 (records_of words paper))))

    ring_there : ring_by log.logging paper at (lines_in (behind 10 text)) no_records
        ≡ cond (is_whole (records_of words paper)) (ring_through log.logging no_records (seen_in words paper)) no_records
    unfolding seen_in
    ring_there =
        rw records-behind
        (ring_as_spoken log.logging paper shape (length paper) 1 (rules_of (words_begun words paper)) (begun_of paper).state at
        (paper-told words paper lent bytes begun) no_records)

    lines-there : (whole : Bool) → log_lines log paper (cond whole (ring_through log.logging no_records (seen_in words paper)) no_records)
        ≡ cond whole (newest_lines log paper (logged_in log.logging (turned [] (seen_in words paper)))) []
    lines-there true = ring_lines log paper _ _ (through_newest log.logging (seen_in words paper))
    lines-there false = no_lines log paper

    -- it is the log of the paper with the words that it was lent: its set-up says it, whatever they held
    log_is : log ≡ log_in words paper
    unfolding log_in
    log_is =
        ap (λ (r : Rules). log_of r shape paper)
        ((begins blank_words paper refl bytes accepted).rules ∙ sym (begins words paper lent bytes accepted).rules)

    whole_is : is_whole (events_of words paper) ≡ is_whole (records_of words paper)
    unfolding is_whole
    whole_is = ap is_whole (events-are words paper begun)

    -- THE RING HAS THE NEWEST of the transactions that are logged
    pub ring_newest : is_whole (events_of words paper) ≡ true
        → Newest log.logging.size (logged_of words paper) (ring_by log.logging paper at (lines_in (behind 10 text)) no_records)
    unfolding logged_of
    ring_newest whole = rw (ring_there, ← whole_is, whole, ← log_is) (through_newest log.logging (seen_in words paper))

    set_up_log : shaped_behind rules shape paper at text ≡ joined (whole_lines words paper)
    unfolding shaped_behind whole_lines logged_of
    set_up_log =
        rw (le-ltb (length paper) at (begun-within paper accepted))
        (ap (λ (ring : List ℕ). joined (log_lines log paper ring)) ring_there
        ∙ ap joined (lines-there (is_whole (records_of words paper)))
        ∙ rw (whole_is, log_is))

  ended-log : (refusal : Refusal) → events_of words paper ≡ Refused refusal ∷ [] → shaped_behind rules shape paper at text ≡ joined (whole_lines words paper)
  unfolding whole_lines is_whole joined
  ended-log refusal e = refused-at-once refusal e ∙ rw e

  -- THE LOG THAT IS PUT BEHIND A PAPER'S LINES
  pub shaped_log : shaped_behind rules shape paper at text ≡ joined (whole_lines words paper)
  shaped_log = by (every_paper words paper lent bytes) where
    by : Heard words paper → shaped_behind rules shape paper at text ≡ joined (whole_lines words paper)
    by (unread fault e) = ended-log Unreadable e
    by (not_set_up version body rest o none_is refusal one e) = ended-log refusal e
    by (past_data version body rest o past e) = ended-log PastData e
    by (heard a e) = set_up_log ((accepted-exactly paper bytes).1 a)
