-- A paper with a run behind it: the lines of a sitting. Assumes nothing.
use mathlib.Core.Path.{◌≡◌, refl, sym, ap, subst, ◌∙◌}
use mathlib.Core.Bool.{Bool, true, false, cond, ◌||◌}
use mathlib.Core.List.{List, [], ◌∷◌, ◌++◌}
use Prim.Native.Nat.{ℕ, zero, suc, ◌+◌, ◌-◌, ◌≤◌, ◌<◌}
use native.Mathlib.Nat.{add-zero}
use native.Mathlib.Omega.{arith}
use borrow.Author.Tests.{eqb-true, le-ltb, ne_eqb}
use lib.Dec.{ltb, eqb}
use lib.ListN.{length, length-append, get_or-append}
use Rattle.wire.specs.Wire.{byte}
use Rattle.refusal.specs.declared.Refusal.{Refusal}
use Rattle.refusal.specs.declared.Refusal.TheVariants.{Unreadable}
use Rattle.rules.specs.Rules.{Rules, rules_of}
use Rattle.setup.specs.Setup.{is_accepted, read_setup}
use Rattle.shape.specs.declared.Shape.{Shape}
use Rattle.shape.specs.Shape.{Lies, base_part, tail_part, family_part, selecting_at, shape_of, shape_at}
use Rattle.shape.proofs.Inside as Inside
use Rattle.paper.specs.declared.Next.{Next}
use Rattle.paper.specs.declared.Next.TheVariants.{Record, Fault, End}
use Rattle.paper.specs.Paper.{latest, next_at, is_unreadable, setup_in, open_paper}
use Rattle.paper.specs.Walk.{part}
use Rattle.paper.proofs.Walk.{inside}
use Rattle.begun.specs.declared.Begun.{Begun}
use Rattle.begun.specs.Begun.{past_begun, base_begun}
use Rattle.opening.specs.Opening.{log_judged, logged_begun, shaped_begun, setup_begun, opened_begun, begun_of, setup_words, opened_words, words_begun}
use Rattle.opening.proofs.Parts.{part_length}
use Rattle.records.specs.declared.Event.{Event}
use Rattle.records.specs.declared.Event.TheVariants.{SetUp, Refused}
use Rattle.conversation.specs.Events.{following, events_from, events_of}
use Rattle.lines.specs.Sitting.{event_line, lines_of, sitting_lines}
use Rattle.runs.specs.Runs.{records_in, is_run, Card}
use Rattle.run_laws.specs.Singly.{messages_of, seated}
use Rattle.run_laws.specs.Behind.{left_by, ReadWhole, answer_lines}
use Rattle.run_laws.proofs.Appended as Appended
use Rattle.run_laws.proofs.Behind.{tail, front}
use Rattle.std.specs.Prelude.{Err, None, Ok, Option, Result, Some}
use Rattle.log_tail.specs.declared.Fault.{Fault as LogFault}
use Rattle.log_tail.specs.declared.Fault.TheVariants.{PastData}
use Rattle.log_tail.specs.declared.Fault.TheVariants.{Wrong}
use Rattle.paper.specs.declared.Opened.{Opened}
use Rattle.shape.specs.declared.SelectionFile.{SelectionFile}

-- ---- the set-up

pub record Opens (p : List ℕ) (version start end : ℕ) : Type 0 where
  pub is : open_paper p ≡ Ok (record { version = version; start = start; end = end })
  pub readable : is_unreadable p ≡ false
  pub version-is : byte p 0 ≡ version
  pub first : next_at p 1 ≡ Record 1 start end

pub opens : (p : List ℕ) (version start end : ℕ) → open_paper p ≡ Ok (record { version = version; start = start; end = end }) → Opens p version start end
unfolding open_paper
opens p version start end is = by (is_unreadable p) (next_at p 1) refl refl is where
  by_kind : (kind from to : ℕ) (b : Bool) → eqb kind 1 ≡ b → is_unreadable p ≡ false → next_at p 1 ≡ Record kind from to
      → cond {A = Result Opened Refusal} b (Ok (record { version = byte p 0; start = from; end = to })) (Err Unreadable)
      ≡ Ok (record { version = version; start = start; end = end })
      → Opens p version start end
  by_kind kind from to true k u n e =
      let one = eqb-true kind 1 k in
      let same : ◌≡◌ {A = Opened} (record { version = byte p 0; start = from; end = to }) (record { version = version; start = start; end = end }) = cc in
      let versions = ap (λ (opened : Opened). opened.version) same in
      let starts = ap (λ (opened : Opened). opened.start) same in
      let ends = ap (λ (opened : Opened). opened.end) same in
      record { is = is; readable = u; version-is = versions; first = cc }
  by_kind kind from to false k u n e = absurd (let z : ◌≡◌ {A = ℕ} 0 1 = cc in omega arith)

  by : (b : Bool) (next : Next) → is_unreadable p ≡ b → next_at p 1 ≡ next
      → cond b (Err Unreadable) (setup_in (byte p 0) next) ≡ Ok (record { version = version; start = start; end = end }) → Opens p version start end
  by true next u n e = absurd (let z : ◌≡◌ {A = ℕ} 0 1 = cc in omega arith)
  by false End u n e = absurd (let z : ◌≡◌ {A = ℕ} 0 1 = cc in omega arith)
  by false Fault u n e = absurd (let z : ◌≡◌ {A = ℕ} 0 1 = cc in omega arith)
  by false (Record kind from to) u n e = by_kind kind from to (eqb kind 1) refl u n e

module _ (p r : List ℕ) (fits : length (p ++ r) ≤ 65536) (version start end : ℕ) (o : Opens p version start end) where
  still_open : open_paper (p ++ r) ≡ Ok (record { version = version; start = start; end = end })
  unfolding open_paper
  still_open =
      let i = inside p 1 1 start end o.first in
      let long = length-append p r in
      let first_byte : byte (p ++ r) 0 ≡ byte p 0 = get_or-append p r 0 0 (omega (arith, i.holds, i.fits)) in
      let some = ne_eqb (length (p ++ r)) 0 (λ z. omega (arith, long, i.holds, i.fits)) in
      let short = le-ltb 65536 (length (p ++ r)) fits in
      let same : is_unreadable (p ++ r) ≡ false = rw (some, short, first_byte) (rest (eqb (length p) 0) (ltb 65536 (length p)) o.readable) in
      rw (same, Appended.next-before p r 1 1 start end i, first_byte, o.version-is) where
        rest : (a b : Bool) → (a || b || eqb (byte p 0) 0 || ltb latest (byte p 0)) ≡ false → (eqb (byte p 0) 0 || ltb latest (byte p 0)) ≡ false
        rest false false e = e
        rest false true e = absurd (let z : ◌≡◌ {A = ℕ} 0 1 = cc in omega arith)
        rest true b e = absurd (let z : ◌≡◌ {A = ℕ} 0 1 = cc in omega arith)

  body_same : part (p ++ r) start end ≡ part p start end
  body_same = Appended.part-before p r 1 1 start end (inside p 1 1 start end o.first)

  pub begun-same : begun_of (p ++ r) ≡ begun_of p
  unfolding begun_of
  begun-same =
      ap (opened_begun (p ++ r)) still_open ∙ ap (λ body. setup_begun version body start end) body_same ∙ ap (opened_begun p) (sym o.is)

  pub words_same : (words : List ℕ) → words_begun words (p ++ r) ≡ words_begun words p
  unfolding words_begun
  words_same words =
      ap (opened_words words (p ++ r)) still_open ∙ ap (setup_words words version) body_same ∙ ap (opened_words words p) (sym o.is)

-- where it is taken, the file lies in the paper, and the first command behind it
pub record Within (p : List ℕ) (begun : Begun) : Type 0 where
  pub lies : Lies begun.shape.selecting (length p)
  pub at_most : begun.at ≤ length p

module _ (p : List ℕ) (version start end : ℕ) (o : Opens p version start end) where
  lies_at : (selecting : Option SelectionFile) → Lies selecting (length (part p start end)) → Lies (selecting_at start selecting) (length p)
  lies_at selecting = by selecting where
    i : start + length (part p start end) ≤ length p
    i =
        let j = inside p 1 1 start end o.first in
        let size = part_length p start end (omega (arith, j.start_is, j.holds)) j.fits in
        omega (arith, size, j.start_is, j.holds, j.fits)

    by : (selecting : Option SelectionFile) → Lies selecting (length (part p start end)) → Lies (selecting_at start selecting) (length p)
    by None lies = tt
    by (Some part) lies = (omega (arith, lies.0), omega (arith, lies.1, i))

  pub within : (begun_of p).event ≡ SetUp → Within p (begun_of p)
  unfolding begun_of setup_begun base_begun past_begun
  within e = subst (λ opened. (opened_begun p opened).event ≡ SetUp → Within p (opened_begun p opened)) (sym o.is) (by (shape_of version (part p start end)) refl) e where
    by-log : (judged : Result Unit LogFault) (good : Bool) (begun : Begun) → Within p begun → (logged_begun judged good end begun).event ≡ SetUp
        → Within p (logged_begun judged good end begun)
    by-log (Ok done) good begun w e = w
    by-log (Err Wrong) good begun w e = absurd (let z : ◌≡◌ {A = ℕ} 0 1 = cc in omega arith)
    by-log (Err PastData) good begun w e = absurd (let z : ◌≡◌ {A = ℕ} 0 1 = cc in omega arith)

    by : (read : Result Shape Refusal) → shape_of version (part p start end) ≡ read → (shaped_begun (part p start end) start end read).event ≡ SetUp
        → Within p (shaped_begun (part p start end) start end read)
    by (Err refusal) s e = absurd (let z : ◌≡◌ {A = ℕ} 0 1 = cc in omega arith)
    by (Ok shape) s e =
        let body = part p start end in
        let base = base_part shape body in
        let cycles = tail_part shape.dating body in
        let family = family_part shape.family body in
        by-log (log_judged shape body) (is_accepted base cycles family shape.unnamed) (base_begun (shape_at start shape) base cycles family end)
        (record {
          lies = lies_at shape.selecting (Inside.inside body version shape s).file;
          at_most = (inside p 1 1 start end o.first).fits;
        })
        e

-- ---- lines, one behind the other

lines-size : (events : List Event) (number : ℕ) → length (lines_of number events) ≡ length events
unfolding lines_of
lines-size [] number = refl
lines-size (event ∷ events) number = ap suc (lines-size events (number + 1))

lines-joined : (a b : List Event) (number : ℕ) → lines_of number (a ++ b) ≡ lines_of number a ++ lines_of (number + length a) b
unfolding lines_of
lines-joined [] b number = ap (λ (n : ℕ). lines_of n b) (sym (add-zero number))
lines-joined (event ∷ a) b number =
    let to : number + 1 + length a ≡ number + length (event ∷ a) = omega arith in
    ap (λ lines. event_line number event ∷ lines) (lines-joined a b (number + 1) ∙ ap (λ (n : ℕ). lines_of (number + 1) a ++ lines_of n b) to)

-- A PAPER that no refusal ended, and A RUN behind it: the lines of both together are the paper's, and then those of the run's answers on the card
-- that the paper left
module _ (words p r : List ℕ) (fits : length (p ++ r) ≤ 65536) where
  abbrev begun : Begun
  begun = begun_of p

  abbrev rules : Rules
  rules = rules_of (words_begun words p)

  events-are : begun.event ≡ SetUp
      → events_of words p ≡ SetUp ∷ events_from (length p) rules begun.shape begun.state p begun.at
  unfolding events_of
  events-are e = ap (λ event. following event (events_from (length p) rules begun.shape begun.state p begun.at)) e

  module _ (version start end : ℕ) (o : Opens p version start end) where
    events-joined : begun.event ≡ SetUp
        → events_of words (p ++ r) ≡ SetUp ∷ events_from (length (p ++ r)) rules begun.shape begun.state (p ++ r) begun.at
    unfolding events_of
    events-joined e = rw (begun-same p r fits version start end o, words_same p r fits version start end o words, e)

    whole : ReadWhole words p → (card : Card) → card.rules ≡ (left_by words p).rules → card.state ≡ (left_by words p).state
        → is_run begun.shape r ≡ true
        → sitting_lines words (p ++ r)
        ≡ sitting_lines words p ++ answer_lines (length (sitting_lines words p)) (seated card) (messages_of begun.shape p card (records_in r))
    unfolding sitting_lines ReadWhole left_by is_run
    whole read card rules-are state-is is =
        let in-it = within p version start end o read.0 in
        let long = length-append p r in
        let before = front p r begun.shape in-it.lies (length p) rules begun.state begun.at (omega arith) in-it.at_most read.1 in
        let events = events-are read.0 in
        let number = length (lines_of 0 (events_of words p)) in
        let seam = add-zero (length p) in
        let behind = tail p r begun.shape in-it.lies (length (p ++ r)) 0 number card [] (omega (arith, long)) (omega arith) is in
        let from-here : events_from (length (p ++ r)) (left_by words p).rules begun.shape (left_by words p).state (p ++ r) (length p)
        ≡ events_from (length (p ++ r)) card.rules begun.shape card.state (p ++ r) (length p + 0) =
        rw (← rules-are, ← state-is, seam) in
        let all : events_of words (p ++ r)
        ≡ events_of words p ++ events_from (length (p ++ r)) card.rules begun.shape card.state (p ++ r) (length p + 0) =
        events-joined read.0 ∙ ap (λ events. SetUp ∷ events) (before ∙ ap (λ more. events_from (length p) rules begun.shape begun.state p begun.at ++ more) from-here)
        ∙ ap (λ events. events ++ events_from (length (p ++ r)) card.rules begun.shape card.state (p ++ r) (length p + 0)) (sym events) in
        ap (lines_of 0) all ∙ lines-joined (events_of words p) _ 0
        ∙ ap (λ (n : ℕ). lines_of 0 (events_of words p) ++ lines_of n (events_from (length (p ++ r)) card.rules begun.shape card.state (p ++ r) (length p + 0)))
        (let z : 0 + length (events_of words p) ≡ number = omega (arith, lines-size (events_of words p) 0) in z)
        ∙ ap (λ lines. lines_of 0 (events_of words p) ++ lines) behind

  pub as_sitting : ReadWhole words p → (card : Card) → card.rules ≡ (left_by words p).rules → card.state ≡ (left_by words p).state
      → is_run (begun_of p).shape r ≡ true
      → sitting_lines words (p ++ r)
      ≡ sitting_lines words p ++ answer_lines (length (sitting_lines words p)) (seated card) (messages_of (begun_of p).shape p card (records_in r))
  unfolding ReadWhole begun_of
  as_sitting read = by (open_paper p) refl where
    by : (opened : Result Opened Refusal) → open_paper p ≡ opened → (card : Card) → card.rules ≡ (left_by words p).rules → card.state ≡ (left_by words p).state
        → is_run (begun_of p).shape r ≡ true
        → sitting_lines words (p ++ r)
        ≡ sitting_lines words p ++ answer_lines (length (sitting_lines words p)) (seated card) (messages_of (begun_of p).shape p card (records_in r))
    by (Err refusal) e = absurd (let z : ◌≡◌ {A = ℕ} 0 1 = (let f = ap (λ opened. (opened_begun p opened).event) (sym e) ∙ read.0 in cc) in omega arith)
    by (Ok opened) e = whole opened.version opened.start opened.end (opens p opened.version opened.start opened.end e) read
