-- The text of a paper, line by line: the set-up's line and the rest, a record's line and the rest. Assumes nothing.
use mathlib.Core.Path.{◌≡◌, refl, sym, ap, subst, ◌∙◌}
use mathlib.Core.Bool.{Bool, true, false, cond, ◌||◌}
use mathlib.Core.List.{List, [], ◌∷◌, ◌++◌, append-nil}
use Prim.Native.Nat.{ℕ, suc, ◌+◌, ◌-◌, ◌≤◌, ◌<◌}
use native.Mathlib.Omega.{arith}
use borrow.Author.Tests.{ltb-false}
use lib.Dec.{eqb, ltb}
use lib.ListN.{length}
use Rattle.wire.specs.Wire.{byte}
use Rattle.refusal.specs.declared.Refusal.{Refusal}
use Rattle.refusal.specs.declared.Refusal.TheVariants.{BadSetup, Unreadable, PastData}
use Rattle.refusal.specs.Refusal.{refusal_number}
use Rattle.rules.specs.Rules.{Rules, rules_of}
use Rattle.setup.specs.Setup.{is_accepted, read_setup}
use Rattle.shape.specs.declared.Shape.{Shape}
use Rattle.shape.specs.Shape.{base_part, tail_part, family_part, shape_of, shape_at}
use Rattle.paper.specs.declared.Next.{Next}
use Rattle.paper.specs.declared.Next.TheVariants.{Record, Fault, End as PaperEnd}
use Rattle.paper.specs.Paper.{latest, next_at, setup_in, is_unreadable, open_paper}
use Rattle.paper.specs.Walk.{part}
use Rattle.paper.proofs.Walk.{inside}
use Rattle.records.specs.declared.Said.{Said}
use Rattle.command.specs.Command.{command_in}
use Rattle.state.specs.declared.Answer.{Answer}
use Rattle.state.specs.declared.State.{State}
use Rattle.begun.specs.declared.Begun.{Begun}
use Rattle.records.specs.declared.Taken.{Taken}
use Rattle.records.specs.declared.Event.{Event}
use Rattle.records.specs.declared.Event.TheVariants.{SetUp, End, Refused, Answered}
use Rattle.records.specs.Records.{answered_by, scripted_by}
use Rattle.begun.specs.Begun.{set_up_event, base_begun, past_begun}
use Rattle.opening.specs.Opening.{log_judged, logged_begun, shaped_begun, setup_begun, opened_begun, begun_of}
use Rattle.records.specs.Records.{is_script}
use Rattle.opening.specs.Opening.{words_begun}
use Rattle.conversation.specs.Conversation.{next_taken, taken_of, taken_writes}
use Rattle.conversation.specs.Events.{following, events_from, events_of, ending, words_from, words_left}
use Rattle.conversation.proofs.Events.{GoesOn, further, settled, words-settled}
use Rattle.script.specs.Script.{rules_after, words_after}
use Rattle.lines.specs.Lines.{refusal_line}
use Rattle.lines.specs.Sitting.{answer_line, lines_of, sitting_lines}
use Rattle.transcript.specs.Transcript.{set_up_number, joined, transcript_of, rest_of}
use Rattle.std.specs.Prelude.{Err, Ok, Result}
use Rattle.command.specs.declared.Command.{Command}
use Rattle.log_tail.specs.declared.Fault.{Fault as LogFault}
use Rattle.log_tail.specs.declared.Fault.TheVariants.{PastData as TableFault}
use Rattle.log_tail.specs.declared.Fault.TheVariants.{Wrong}
use Rattle.paper.specs.declared.Opened.{Opened}

-- ---- a record

-- no record is a set-up
pub never_set_up : (rules : Rules) (shape : Shape) (state : State) (paper : List ℕ) (at : ℕ) → (taken_of rules shape state paper at).event ≡ SetUp → ⊥
unfolding taken_of answered_by scripted_by
never_set_up rules shape state paper at = by (next_at paper at) where
  by-body : (end : ℕ) (body : List ℕ) → (scripted_by state body end).event ≡ SetUp → ⊥
  by-body end [] e = let z : ◌≡◌ {A = ℕ} 0 1 = cc in omega arith
  by-body end (result ∷ template) e = let z : ◌≡◌ {A = ℕ} 0 1 = cc in omega arith

  by_read : (end : ℕ) (read : Result Command Refusal) → (answered_by rules state end read).event ≡ SetUp → ⊥
  by_read end (Err refusal) e = let z : ◌≡◌ {A = ℕ} 0 1 = cc in omega arith
  by_read end (Ok command) e = let z : ◌≡◌ {A = ℕ} 0 1 = cc in omega arith

  by : (next : Next) → (next_taken rules shape state paper at next).event ≡ SetUp → ⊥
  by PaperEnd e = let z : ◌≡◌ {A = ℕ} 0 1 = cc in omega arith
  by Fault e = let z : ◌≡◌ {A = ℕ} 0 1 = cc in omega arith
  by (Record kind start end) e = by_kind (is_script shape kind) e where
    by_kind : (b : Bool) → (cond b (scripted_by state (part paper start end) end)
        (answered_by rules state end (command_in shape state.values paper kind (part paper start end)))).event ≡ SetUp → ⊥
    by_kind true f = by-body end (part paper start end) f
    by_kind false f = by_read end (command_in shape state.values paper kind (part paper start end)) f

module _ (rules : Rules) (shape : Shape) (state : State) (paper : List ℕ) (at number : ℕ) where
  abbrev taken : Taken
  taken = taken_of rules shape state paper at

  abbrev then : Rules
  then = rules_after rules (taken_writes shape state paper at)

  event_first : (m : ℕ) → length paper ≡ suc m
      → rest_of rules shape state paper at number
      ≡ joined (lines_of number (following taken.event (events_from m then shape taken.state paper taken.at)))
  unfolding rest_of events_from
  event_first m e = ap (λ n. joined (lines_of number (events_from n rules shape state paper at))) e

  module _ (h : at < length paper) where
    pub answered : (said : Said) (answer : Answer) → taken.event ≡ Answered said answer
        → rest_of rules shape state paper at number ≡ answer_line number answer ++ rest_of then shape taken.state paper taken.at (number + 1)
    unfolding lines_of joined rest_of
    answered said answer e =
        let m = length paper - 1 in
        let goes = further shape paper rules state at (subst GoesOn (sym e) tt) in
        event_first m (omega arith)
        ∙ ap (λ v. joined (lines_of number (following v (events_from m then shape taken.state paper taken.at)))) e
        ∙ ap (λ more. answer_line number answer ++ joined (lines_of (number + 1) more))
        (sym (settled shape paper m (length paper) then taken.state taken.at (omega arith) (omega arith)))

    pub last : (refusal : Refusal) → taken.event ≡ Refused refusal
        → rest_of rules shape state paper at number ≡ refusal_line number (refusal_number refusal)
    unfolding lines_of joined
    last refusal e =
        let m = length paper - 1 in
        event_first m (omega arith)
        ∙ ap (λ v. joined (lines_of number (following v (events_from m then shape taken.state paper taken.at)))) e
        ∙ append-nil (refusal_line number (refusal_number refusal))

    pub none : taken.event ≡ End → rest_of rules shape state paper at number ≡ []
    unfolding lines_of joined
    none e =
        let m = length paper - 1 in
        event_first m (omega arith)
        ∙ ap (λ v. joined (lines_of number (following v (events_from m then shape taken.state paper taken.at)))) e

  pub at-end : length paper ≤ at → rest_of rules shape state paper at number ≡ []
  unfolding rest_of joined lines_of events_from
  at-end h = ap (λ l. joined (lines_of number l)) (settled shape paper 0 (length paper) rules state at (omega arith) (omega arith))

-- the words that the records from a place on leave
module _ (words : List ℕ) (shape : Shape) (state : State) (paper : List ℕ) (at : ℕ) where
  abbrev words_taken : Taken
  words_taken = taken_of (rules_of words) shape state paper at

  abbrev written : List ℕ
  written = words_after words (taken_writes shape state paper at)

  module _ (h : at < length paper) where
    -- those that the next one leaves, and those behind it where the conversation goes on
    words-first : (event : Event) → words_taken.event ≡ event
        → words_from (length paper) words shape state paper at
        ≡ ending event written (words_from (length paper - 1) written shape words_taken.state paper words_taken.at)
    unfolding words_from
    words-first event e =
        ap (λ n. words_from n words shape state paper at) (let z : length paper ≡ suc (length paper - 1) = omega arith in z)
        ∙ ap (λ v. ending v written (words_from (length paper - 1) written shape words_taken.state paper words_taken.at)) e

    pub words-on : (said : Said) (answer : Answer) → words_taken.event ≡ Answered said answer
        → words_from (length paper) words shape state paper at ≡ words_from (length paper) written shape words_taken.state paper words_taken.at
    words-on said answer e =
        let goes = further shape paper (rules_of words) state at (subst GoesOn (sym e) tt) in
        words-first (Answered said answer) e
        ∙ sym (words-settled shape paper (length paper - 1) (length paper) written words_taken.state words_taken.at (omega arith) (omega arith))

    pub words_last : (event : Event) → (GoesOn event → ⊥) → words_taken.event ≡ event → words_from (length paper) words shape state paper at ≡ written
    words_last event over e = words-first event e ∙ here event over where
      here : (v : Event) → (GoesOn v → ⊥)
          → ending v written (words_from (length paper - 1) written shape words_taken.state paper words_taken.at) ≡ written
      here SetUp n = absurd (n tt)
      here End n = refl
      here (Refused refusal) n = refl
      here (Answered said answer) n = absurd (n tt)

  pub words-over : length paper ≤ at → words_from (length paper) words shape state paper at ≡ words
  unfolding words_from
  words-over h = words-settled shape paper 0 (length paper) words state at (omega arith) (omega arith)

-- ---- the set-up

-- a paper that opens has at most 65,536 bytes, and its first command stands behind the version and a record
pub record Opening (paper : List ℕ) (at : ℕ) : Type 0 where
  pub short : length paper ≤ 65536
  pub begins : 4 ≤ at
  pub inside : at ≤ length paper

-- the set-up is taken, or its refusal ends the paper
pub data Beginning (paper : List ℕ) (begun : Begun) : Type 0 where
  accepted : begun.event ≡ SetUp → Opening paper begun.at → Beginning paper begun
  refused : (refusal : Refusal) → begun.event ≡ Refused refusal → Beginning paper begun

end_of : Result Opened Refusal → ℕ
end_of (Ok opened) = opened.end
end_of (Err refusal) = 0

opening : (paper : List ℕ) (version start end : ℕ) → open_paper paper ≡ Ok (record { version = version; start = start; end = end }) → Opening paper end
unfolding open_paper end_of
opening paper version start end = by (is_unreadable paper) (next_at paper 1) refl refl where
  not_long : (a b c d : Bool) → (a || b || c || d) ≡ false → b ≡ false
  not_long false false c d e = refl
  not_long false true c d e = e
  not_long true b c d e = absurd (let z : ◌≡◌ {A = ℕ} 0 1 = cc in omega arith)

  by_kind : (version₀ kind start₀ end₀ : ℕ) (b : Bool) → next_at paper 1 ≡ Record kind start₀ end₀ → length paper ≤ 65536
      → cond {A = Result Opened Refusal} b (Ok (record { version = version₀; start = start₀; end = end₀ })) (Err Unreadable)
      ≡ Ok (record { version = version; start = start; end = end })
      → Opening paper end
  by_kind version₀ kind start₀ end₀ true n short e =
      let i = inside paper 1 kind start₀ end₀ n in
      let same : end₀ ≡ end = ap end_of e in
      record { short = short; begins = omega (arith, i.holds); inside = omega (arith, i.fits) }
  by_kind version₀ kind start₀ end₀ false n short e = absurd (let z : ◌≡◌ {A = ℕ} 0 1 = cc in omega arith)

  by : (b : Bool) (next : Next) → is_unreadable paper ≡ b → next_at paper 1 ≡ next
      → cond b (Err Unreadable) (setup_in (byte paper 0) next) ≡ Ok (record { version = version; start = start; end = end }) → Opening paper end
  by true next u n e = absurd (let z : ◌≡◌ {A = ℕ} 0 1 = cc in omega arith)
  by false PaperEnd u n e = absurd (let z : ◌≡◌ {A = ℕ} 0 1 = cc in omega arith)
  by false Fault u n e = absurd (let z : ◌≡◌ {A = ℕ} 0 1 = cc in omega arith)
  by false (Record kind start₀ end₀) u n e =
      let short = not_long (eqb (length paper) 0) (ltb 65536 (length paper)) (eqb (byte paper 0) 0) (ltb latest (byte paper 0)) u in
      by_kind (byte paper 0) kind start₀ end₀ (eqb kind 1) n (ltb-false 65536 (length paper) short) e

pub begins : (paper : List ℕ) → Beginning paper (begun_of paper)
unfolding begun_of base_begun past_begun
begins paper = by (open_paper paper) refl where
  by_answer : (shape : Shape) (base cycles family : List ℕ) (end : ℕ) → Opening paper end
      → (answer : Result Unit Refusal) → (read_setup base cycles family shape.unnamed).answer ≡ answer
      → Beginning paper (base_begun shape base cycles family end)
  by_answer shape base cycles family end o (Ok done) e = accepted (ap set_up_event e) o
  by_answer shape base cycles family end o (Err refusal) e = refused refusal (ap set_up_event e)

  by-log : (judged : Result Unit LogFault) (good : Bool) (end : ℕ) (begun : Begun) → Beginning paper begun → Beginning paper (logged_begun judged good end begun)
  by-log (Ok done) good end begun b = b
  by-log (Err Wrong) good end begun b = refused BadSetup refl
  by-log (Err TableFault) good end begun b = refused (cond good PastData BadSetup) refl

  by_shape : (body : List ℕ) (place end : ℕ) → Opening paper end → (read : Result Shape Refusal) → Beginning paper (shaped_begun body place end read)
  by_shape body place end o (Err refusal) = refused refusal refl
  by_shape body place end o (Ok shape) =
      let base = base_part shape body in
      let cycles = tail_part shape.dating body in
      let family = family_part shape.family body in
      by-log (log_judged shape body) (is_accepted base cycles family shape.unnamed) end (base_begun (shape_at place shape) base cycles family end)
      (by_answer (shape_at place shape) base cycles family end o (read_setup base cycles family shape.unnamed).answer refl)

  by : (opened : Result Opened Refusal) → open_paper paper ≡ opened → Beginning paper (opened_begun paper opened)
  by (Err refusal) e = refused refusal refl
  by (Ok opened) e =
      unfold setup_begun in
      by_shape (part paper opened.start opened.end) opened.start opened.end (opening paper opened.version opened.start opened.end e)
      (shape_of opened.version (part paper opened.start opened.end))

-- a set-up that is taken
pub set_up_in : (paper : List ℕ) → (begun_of paper).event ≡ SetUp → Opening paper (begun_of paper).at
set_up_in paper taken = by (begins paper) where
  by : Beginning paper (begun_of paper) → Opening paper (begun_of paper).at
  by (accepted e o) = o
  by (refused refusal e) = let z : ◌≡◌ {A = ℕ} 0 1 = cc in absurd (omega arith)

module _ (words paper : List ℕ) where
  abbrev begun : Begun
  begun = begun_of paper

  abbrev rest : List ℕ
  rest = rest_of (rules_of (words_begun words paper)) begun.shape begun.state paper begun.at 1

  pub set_up_lem : begun.event ≡ SetUp → transcript_of words paper ≡ refusal_line 0 0 ++ rest
  unfolding transcript_of sitting_lines events_of lines_of joined rest_of
  set_up_lem e =
      ap
      (λ v. joined (lines_of 0 (following v (events_from (length paper) (rules_of (words_begun words paper)) begun.shape begun.state paper begun.at))))
      e

  pub not_set_up : (refusal : Refusal) → begun.event ≡ Refused refusal → transcript_of words paper ≡ refusal_line 0 (refusal_number refusal)
  unfolding transcript_of sitting_lines events_of lines_of joined
  not_set_up refusal e =
      ap
      (λ v. joined (lines_of 0 (following v (events_from (length paper) (rules_of (words_begun words paper)) begun.shape begun.state paper begun.at))))
      e
      ∙ append-nil (refusal_line 0 (refusal_number refusal))

  pub words_set_up : begun.event ≡ SetUp
      → words_left words paper ≡ words_from (length paper) (words_begun words paper) begun.shape begun.state paper begun.at
  unfolding words_left
  words_set_up e =
      ap (λ v. ending v (words_begun words paper) (words_from (length paper) (words_begun words paper) begun.shape begun.state paper begun.at)) e

  pub words_not_set_up : (refusal : Refusal) → begun.event ≡ Refused refusal → words_left words paper ≡ words_begun words paper
  unfolding words_left
  words_not_set_up refusal e =
      ap (λ v. ending v (words_begun words paper) (words_from (length paper) (words_begun words paper) begun.shape begun.state paper begun.at)) e

  -- one that is not
  pub refused-text : (begun.event ≡ SetUp → ⊥)
      → (transcript_of words paper ≡ refusal_line 0 (set_up_number begun.event)) × (words_left words paper ≡ words_begun words paper)
  refused-text k = by (begins paper) where
    by : Beginning paper begun
        → (transcript_of words paper ≡ refusal_line 0 (set_up_number begun.event)) × (words_left words paper ≡ words_begun words paper)
    by (accepted e o) = absurd (k e)
    by (refused refusal e) = (not_set_up refusal e ∙ ap (λ v. refusal_line 0 (set_up_number v)) (sym e), words_not_set_up refusal e)
