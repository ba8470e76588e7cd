-- A paper of a version: what stands in front of a record does not matter to its events, but for the file that selects. Assumes nothing.
use mathlib.Core.Path.{◌≡◌, refl, sym, ap, ◌∙◌}
use mathlib.Core.Bool.{Bool, true, false, cond, ◌||◌}
use mathlib.Core.List.{List, [], ◌∷◌, ◌++◌}
use Prim.Native.Nat.{ℕ, zero, suc, ◌+◌, ◌-◌, ◌/◌, ◌%◌, ◌≤◌}
use native.Mathlib.Nat.{add-zero, add_assoc}
use native.Mathlib.Omega.{arith}
use borrow.Author.Tests.{le-leb, lt-leb, leb-true, leb-false, lt-ltb, le-ltb, ltb-true, ltb-false, ne_eqb}
use lib.Dec.{leb, ltb, eqb}
use lib.ListN.{length, drop, length-append, length-drop}
use lib.Seq.{get_or-append-add, drop-append-add, drop-append-le, take-append-le, take_at}
use Rattle.wire.specs.Wire.{byte, number}
use Rattle.refusal.specs.declared.Refusal.TheVariants.{Unreadable}
use Rattle.rules.specs.declared.Values.{Values}
use Rattle.rules.specs.Rules.{Rules, rules_of}
use Rattle.setup.specs.Setup.{read_setup, words_after}
use Rattle.shape.specs.declared.Family.{Family}
use Rattle.shape.specs.declared.Family.TheVariants.{Cpa, Cpace}
use Rattle.shape.specs.declared.Shape.{Shape}
use Rattle.shape.specs.Shape.{Lies, based, scripts, base_part, tail_part, family_part, shape_of, selecting_at, span_at, family_at, shape_at}
use Rattle.shape.proofs.Inside.{inside}
use Rattle.paper.specs.declared.Next.{Next}
use Rattle.paper.specs.declared.Next.TheVariants.{Record, Fault, End}
use Rattle.paper.specs.Paper.{end_at, next_at, latest, open_paper}
use Rattle.paper.specs.Walk.{part, written}
use Rattle.command.specs.Command.{start_of, first_of, command_of, start_selected, selecting_of, file_in, slots_of, read_by, command_in}
use Rattle.state.specs.declared.State.{State}
use Rattle.fresh.specs.Fresh.{fresh_state}
use Rattle.records.specs.declared.Event.{Event}
use Rattle.records.specs.declared.Event.TheVariants.{End as EndEvent, Refused}
use Rattle.records.specs.declared.Taken.{Taken}
use Rattle.script.specs.Script.{rules_after}
use Rattle.records.specs.Records.{answered_by, scripted_by, is_script}
use Rattle.conversation.specs.Conversation.{next_taken, taken_of, next_writes, taken_writes}
use Rattle.begun.specs.Begun.{set_up_event, base_begun}
use Rattle.opening.specs.Opening.{setup_begun, begun_of, setup_words, words_begun}
use Rattle.opening.proofs.Unlogged.{sound_off}
use Rattle.conversation.specs.Events.{following, events_from, events_of}
use Rattle.conversation.proofs.Events.{settled}
use Rattle.std.specs.Prelude.{Err, None, Ok, Option, Result, Some}
use Rattle.command.specs.declared.Command.{Command}
use Rattle.refusal.specs.declared.Refusal.{Refusal}
use Rattle.shape.specs.declared.SelectionFile.{SelectionFile}
use Rattle.shape.specs.declared.Span.{Span}

-- ---- what stands in front of a record does not matter, but for the file

-- what reads a record, by the card's present values
abbrev pub Reads : Type 0
Reads = (values : Values) (kind : ℕ) (body : List ℕ) → Result Command Refusal

abbrev pub reads_of : Shape → (paper : List ℕ) → Reads
reads_of shape paper values = command_in shape values paper

-- a shape that says no more than whether scripts are on
abbrev scripted : (scripting : Bool) → Shape
scripted = scripts (based 0)

-- the events of n records over a rest, whatever reads them, with scripts on or off
abbrev pub taken_by : Rules → (scripting : Bool) → Reads → State → List ℕ → (at : ℕ) → Next → Taken
taken_by rules scripting reads state s at End = record { state = state; at = at; event = EndEvent }
taken_by rules scripting reads state s at Fault = record { state = state; at = at; event = Refused Unreadable }
taken_by rules scripting reads state s at (Record kind start end) =
    cond (is_script (scripted scripting) kind) (scripted_by state (part s start end) end)
    (answered_by rules state end (reads state.values kind (part s start end)))

unfoldable pub events_by : ℕ → Rules → (scripting : Bool) → Reads → State → List ℕ → (at : ℕ) → List Event
events_by zero rules scripting reads state s at = []
events_by (suc n) rules scripting reads state s at =
    let taken = taken_by rules scripting reads state s at (next_at s at) in
    let then = rules_after rules (taken_writes (scripted scripting) state s at) in
    following taken.event (events_by n then scripting reads taken.state s taken.at)

-- a part of a list is one of a longer list
pub part-before : (s more : List ℕ) (start end : ℕ) → start ≤ end → end ≤ length s → part (s ++ more) start end ≡ part s start end
part-before s more start end l h =
    let left : end - start ≤ length (drop start s) = omega (arith, length-drop start s) in
    rw (drop-append-le start s more (omega arith)) (take-append-le (end - start) (drop start s) more left)

module _ (front s : List ℕ) where
  abbrev from : ℕ → ℕ
  from at = length front + at

  abbrev all : List ℕ
  all = front ++ s

  number_behind_lem : (at n : ℕ) → number all (from at) n ≡ number s at n
  unfolding number
  number_behind_lem at zero = refl
  number_behind_lem at (suc n) = rw (number_behind_lem at n, add_assoc (length front) at n, get_or-append-add front s (at + n) 0)

  part-behind : (start end : ℕ) → part all (from start) (from end) ≡ part s start end
  part-behind start end =
      let size : from end - from start ≡ end - start = omega arith in
      rw (size, drop-append-add front s start)

  -- a record's places, counted from the front
  abbrev shift : Next → Next
  shift (Record kind start end) = Record kind (from start) (from end)
  shift Fault = Fault
  shift End = End

  same_leb : (m n : ℕ) → leb (from m) (from n) ≡ leb m n
  same_leb m n = by (leb m n) refl where
    by : (b : Bool) → leb m n ≡ b → leb (from m) (from n) ≡ b
    by true e = let l = leb-true m n e in le-leb (from m) (from n) (omega arith)
    by false e = let l = leb-false m n e in lt-leb (from m) (from n) (omega arith)

  same_ltb : (m n : ℕ) → ltb (from m) (from n) ≡ ltb m n
  same_ltb m n = by (ltb m n) refl where
    by : (b : Bool) → ltb m n ≡ b → ltb (from m) (from n) ≡ b
    by true e = let l = ltb-true m n e in lt-ltb (from m) (from n) (omega arith)
    by false e = let l = ltb-false m n e in le-ltb (from m) (from n) (omega arith)

  next-behind : (at : ℕ) → next_at all (from at) ≡ shift (next_at s at)
  unfolding next_at
  next-behind at =
      let size : length all ≡ from (length s) = length-append front s in
      let ends : from at + 2 + number s at 2 ≡ from (at + 2 + number s at 2) = omega arith in
      let kind : from at + 2 ≡ from (at + 2) = omega arith in
      let start : from at + 3 ≡ from (at + 3) = omega arith in
      rw (number_behind_lem at 2, size, ends, same_leb (length s) at, same_ltb (length s) (at + 2 + number s at 2), kind, get_or-append-add front s (at + 2) 0, start)
      (by (leb (length s) at) (eqb (number s at 2) 0 || ltb (length s) (at + 2 + number s at 2)))
    where
      by : (a b : Bool) → cond a End (cond b Fault (Record (byte s (at + 2)) (from (at + 3)) (from (end_at s at))))
          ≡ shift (cond a End (cond b Fault (Record (byte s (at + 2)) (at + 3) (end_at s at))))
      by true b = refl
      by false true = refl
      by false false = refl

  module _ (shape : Shape) where
    abbrev reads : Reads
    reads = reads_of shape all

    -- what is taken, its place counted from the front
    abbrev further_on : Taken → Taken
    further_on t = record { state = t.state; at = from t.at; event = t.event }

    taken-behind : (rules : Rules) (state : State) (at : ℕ)
        → taken_of rules shape state all (from at) ≡ further_on (taken_by rules shape.scripting reads state s at (next_at s at))
    unfolding taken_of answered_by scripted_by
    taken-behind rules state at = rw (next-behind at) (by (next_at s at)) where
      answered : (end : ℕ) (read : Result Command Refusal) → answered_by rules state (from end) read ≡ further_on (answered_by rules state end read)
      answered end (Ok command) = refl
      answered end (Err refusal) = refl

      ran : (body : List ℕ) (end : ℕ) → scripted_by state body (from end) ≡ further_on (scripted_by state body end)
      ran [] end = refl
      ran (result ∷ template) end = refl

      either : (script : Bool) (body : List ℕ) (end : ℕ) (read : Result Command Refusal)
          → cond script (scripted_by state body (from end)) (answered_by rules state (from end) read)
          ≡ further_on (cond script (scripted_by state body end) (answered_by rules state end read))
      either true body end read = ran body end
      either false body end read = answered end read

      by : (n : Next) → next_taken rules shape state all (from at) (shift n) ≡ further_on (taken_by rules shape.scripting reads state s at n)
      by End = refl
      by Fault = refl
      by (Record kind start end) =
          rw (part-behind start end) (either (is_script shape kind) (part s start end) end (reads state.values kind (part s start end)))

    writes-behind : (state : State) (at : ℕ) → taken_writes shape state all (from at) ≡ taken_writes (scripted shape.scripting) state s at
    unfolding taken_writes
    writes-behind state at = rw (next-behind at) (by (next_at s at)) where
      by : (n : Next) → next_writes shape state all (shift n) ≡ next_writes (scripted shape.scripting) state s n
      by End = refl
      by Fault = refl
      by (Record kind start end) = rw (part-behind start end)

    events-behind : (n : ℕ) (rules : Rules) (state : State) (at : ℕ)
        → events_from n rules shape state all (from at) ≡ events_by n rules shape.scripting reads state s at
    unfolding events_from events_by
    events-behind zero rules state at = refl
    events-behind (suc n) rules state at =
        let taken = taken_by rules shape.scripting reads state s at (next_at s at) in
        let then = rules_after rules (taken_writes (scripted shape.scripting) state s at) in
        rw (taken-behind rules state at, writes-behind state at)
        (ap (following taken.event) (events-behind n then taken.state taken.at))

    -- and the events behind it are those of the rest
    events_of_rest : (n : ℕ) (rules : Rules) (state : State) → length s ≤ n
        → events_from n rules shape state all (length front) ≡ events_by (length s) rules shape.scripting reads state s 0
    events_of_rest n rules state h =
        settled shape all (length s) n rules state (length front) (omega (arith, length-append front s)) h
        ∙ ap (events_from (length s) rules shape state all) (sym (add-zero (length front)))
        ∙ events-behind (length s) rules state 0

-- ---- a paper of a version

abbrev pub front : (version : ℕ) (body : List ℕ) → List ℕ
front version body = version ∷ written (record { kind = 1; body = body })

-- its version, its set-up's record, and the rest
abbrev pub paper_of : (version : ℕ) (body rest : List ℕ) → List ℕ
paper_of version body rest = front version body ++ rest

-- what a body of a shape says: its base, its tails with dates and with a family, whether scripts are on, and how a record is read
pub record Parts : Type 0 where
  pub base : List ℕ
  pub cycles : List ℕ
  pub family : List ℕ
  pub scripting : Bool
  pub reads : Reads

abbrev pub parts_of : Shape → (body : List ℕ) → Parts
parts_of shape body =
    record {
      base = base_part shape body;
      cycles = tail_part shape.dating body;
      family = family_part shape.family body;
      scripting = shape.scripting;
      reads = reads_of shape body;
    }

-- the events of a paper, from what its set-up's body says and what stands behind it
abbrev pub events_with : (words rest : List ℕ) → Parts → (syllabus unnamed : ℕ) → List Event
events_with words rest parts syllabus unnamed =
    let read = read_setup parts.base parts.cycles parts.family unnamed in
    let rules = rules_of (words_after words parts.base parts.cycles parts.family syllabus unnamed) in
    let state = fresh_state read.fresh in
    following (set_up_event read.answer) (events_by (length rest) rules parts.scripting parts.reads state rest 0)

abbrev pub events_shaped : (words rest body : List ℕ) → Result Shape Refusal → List Event
events_shaped words rest body (Err refusal) = Refused refusal ∷ []
events_shaped words rest body (Ok shape) = events_with words rest (parts_of shape body) shape.syllabus shape.unnamed

-- the log of a body of a shape is off
abbrev pub Unlogged : Result Shape Refusal → Type 0
Unlogged (Err refusal) = Unit
Unlogged (Ok shape) = shape.logging ≡ None

-- 01 to the latest
abbrev pub Known : ℕ → Type 0
Known version = (1 ≤ version) × (version ≤ latest)

-- where its tails stand does not matter to a command, only whether they are there
record SamePlaces (place : ℕ) (dating : Option Span) (family : Family) : Type 0 where
  command : command_of (span_at place dating) (family_at place family) ≡ command_of dating family
  selecting : selecting_of (span_at place dating) (family_at place family) ≡ selecting_of dating family
  slots : slots_of (family_at place family) ≡ slots_of family

same_places : (place : ℕ) (dating : Option Span) (family : Family) → SamePlaces place dating family
unfolding command_of start_of first_of selecting_of start_selected slots_of
same_places place None Cpa = record { command = refl; selecting = refl; slots = refl }
same_places place None (Cpace start end) = record { command = refl; selecting = refl; slots = refl }
same_places place (Some part) Cpa = record { command = refl; selecting = refl; slots = refl }
same_places place (Some part) (Cpace start end) = record { command = refl; selecting = refl; slots = refl }

-- a file that lies in a list
pub file-there : (s : List ℕ) (start end : ℕ) → start ≤ end → end ≤ length s → file_in s start end ≡ part s start end
file-there s start end l h = rw (le-leb start end l, le-leb end (length s) h)

module _ (version : ℕ) (known : Known version) (body rest : List ℕ) (short : length (paper_of version body rest) ≤ 65536) where
  said : number (paper_of version body rest) 1 2 ≡ length body + 1
  unfolding number
  said = omega arith

  front_length : length (front version body) ≡ 4 + length body
  front_length = omega arith

  pub whole_length : length (paper_of version body rest) ≡ 4 + length body + length rest
  whole_length = length-append (front version body) rest ∙ ap (λ (n : ℕ). n + length rest) front_length

  opened : open_paper (paper_of version body rest) ≡ Ok (record { version = version; start = 4; end = 4 + length body })
  unfolding open_paper next_at
  opened =
      let whole = whole_length in
      let end : 3 + (length body + 1) ≡ 4 + length body = omega arith in
      rw (said, end)
      (simp (
        le-ltb 65536 (length (paper_of version body rest)) short,
        ne_eqb version 0 (omega (arith, known.0)),
        le-ltb latest version known.1,
        ne_eqb (length body + 1) 0 (omega arith),
        le-ltb (length (paper_of version body rest)) (4 + length body) (omega arith),
        ne_eqb (length (paper_of version body rest)) 0 (omega arith),
        lt-leb (length (paper_of version body rest)) 1 (omega arith),
      ))

  its-body : part (paper_of version body rest) 4 (4 + length body) ≡ body
  its-body = take_at body rest (4 + length body - 4) (omega arith)

  -- a file in the body, by its places in the paper
  same-file : (start end : ℕ) → start ≤ end → end ≤ length body → file_in (paper_of version body rest) (4 + start) (4 + end) ≡ file_in body start end
  same-file start end l h =
      let head : List ℕ = version ∷ (length body + 1) / 256 ∷ (length body + 1) % 256 ∷ 1 ∷ [] in
      file-there (paper_of version body rest) (4 + start) (4 + end) (omega arith) (omega (arith, whole_length))
      ∙ part-behind head (body ++ rest) start end
      ∙ part-before body rest start end l h
      ∙ sym (file-there body start end l h)

  -- its records are read by the file in its body
  pub by-body : (shape : Shape) → Lies shape.selecting (length body) → reads_of (shape_at 4 shape) (paper_of version body rest) ≡ reads_of shape body
  unfolding command_in
  by-body shape lies = λ i values. by shape.selecting lies (same_places 4 shape.dating shape.family) values i where
    by : (selecting : Option SelectionFile) → Lies selecting (length body) → SamePlaces 4 shape.dating shape.family
        → (values : Values)
        → read_by (selecting_at 4 selecting) (span_at 4 shape.dating) (family_at 4 shape.family) (slots_of (family_at 4 shape.family) values) (paper_of version body rest)
        ≡ read_by selecting shape.dating shape.family (slots_of shape.family values) body
    by None l same values = same.command
    by (Some part) l same values = λ i. same.selecting i (same.slots i values) (same-file part.start part.end l.0 l.1 i) part.entries

  -- ITS EVENTS, BY ITS BODY'S SHAPE, where it has no log
  pub events-are : (words : List ℕ) (read : Result Shape Refusal) → shape_of version body ≡ read → Unlogged read
      → events_of words (paper_of version body rest) ≡ events_shaped words rest body read
  unfolding events_of begun_of setup_begun base_begun words_begun setup_words
  events-are words (Err refusal) e off = rw (opened, its-body, e)
  events-are words (Ok shape) e off =
      let parts = parts_of shape body in
      let rules = rules_of (words_after words parts.base parts.cycles parts.family shape.syllabus shape.unnamed) in
      let read = read_setup parts.base parts.cycles parts.family shape.unnamed in
      let state = fresh_state read.fresh in
      let paper = paper_of version body rest in
      rw (opened, its-body, e, sound_off shape body off)
      (ap (following (set_up_event read.answer))
      (ap (events_from (length paper) rules (shape_at 4 shape) state paper) (sym front_length)
      ∙ events_of_rest (front version body) rest (shape_at 4 shape) (length paper) rules state (omega (arith, whole_length))
      ∙ ap (λ (reads : Reads). events_by (length rest) rules shape.scripting reads state rest 0) (by-body shape (inside body version shape e).file)))

  -- what it begins with is what its body says
  pub begun-is : begun_of (paper_of version body rest) ≡ setup_begun version body 4 (4 + length body)
  unfolding begun_of
  begun-is = rw (opened, its-body)
