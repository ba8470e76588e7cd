-- Every byte string's events and lines: those of its commands, over its set-up. Assumes nothing.
use mathlib.Core.Path.{◌≡◌, refl, sym, ap, ◌∙◌}
use mathlib.Core.Bool.{Bool, true, false}
use mathlib.Core.Logic.{◌⊎◌, inl, inr, ◌↔◌}
use mathlib.Core.List.{List, [], ◌∷◌, ◌++◌}
use Prim.Native.Nat.{ℕ, suc, ◌+◌}
use native.Mathlib.Omega.{arith}
use lib.ListN.{length, replicate}
use Rattle.refusal.specs.declared.Refusal.{Refusal}
use Rattle.refusal.specs.declared.Refusal.TheVariants.{Unreadable, PastData}
use Rattle.rules.specs.Word.{word_count}
use Rattle.setup.specs.Setup.{setup_number}
use Rattle.shape.specs.declared.Shape.{Shape}
use Rattle.begun.specs.declared.Begun.{Begun}
use Rattle.records.specs.declared.Event.{Event}
use Rattle.records.specs.declared.Event.TheVariants.{SetUp, Refused}
use Rattle.opening.specs.Opening.{begun_of, setup_begun}
use Rattle.conversation.specs.Events.{events_of}
use Rattle.lines.specs.Lines.{refusal_line}
use Rattle.lines.specs.Sitting.{answer_line, lines_of, sitting_lines}
use Rattle.demands.specs.Conversation.{Exchange, run, rules_by}
use Rattle.rows.specs.Whole.{IsInRange, IsSetup, IsPast, IsTaken}
use Rattle.rows.proofs.Whole.{taken_if_spelled, past_if_spelled, set_up_or_past}
use Rattle.spelling.specs.Spelling.{Bytes}
use Rattle.spelling.specs.Faults.{OpenFault, Opens}
use Rattle.spelling.specs.Sitting.{NotSetUp, happened}
use Rattle.spelling.specs.Sitting as Sp
use Rattle.spelling.proofs.Numbers.{byte_small}
use Rattle.spelling.proofs.Opening.{opens, faults, Opening, opens_or_faults}
use Rattle.spelling.proofs.Papers.{set_up_or_not, One, not_begun, past-begun, taken_or_not, refused_or_past}
use Rattle.papers.specs.Papers.{setup_of, Accepted, walked, commands_of, faulty}
use Rattle.papers.specs.Talk.{all_answered, talk, ending, events_by, CutBehind, Plain, Heard, unread, not_set_up, past_data, heard}
use Rattle.papers.specs.Lines.{answer_lines, ending_lines, lines_by}
use Rattle.papers.proofs.Setups.{opened-bytes, log-judged, shape, set_up_lem, past, begins}
use Rattle.papers.proofs.Walk.{walk-events}
use Rattle.papers.proofs.Talk.{fresh, talk-is, talk_length, plain-said}
use Rattle.std.specs.Prelude.{Err, Ok}
use Rattle.log_tail.specs.declared.Fault.TheVariants.{PastData as TableFault}

module _ (words paper : List ℕ) (lent : length words ≡ word_count) (bytes : Bytes paper) (a : Accepted paper) where
  -- THE EVENTS OF AN ACCEPTED PAPER ARE THOSE OF ITS COMMANDS OVER ITS SET-UP
  pub happened-there : events_of words paper
      ≡ SetUp ∷ (happened (rules_by (setup_of paper)) (fresh (setup_of paper)).state (commands_of paper) ++ ending (faulty paper))
  unfolding events_of walked run
  happened-there =
      let b = begins words paper lent bytes a in
      let walks = walk-events b.shape paper b.lies (length paper) (fresh (setup_of paper)) b.at in
      rw (b.begun-is, b.rules) (ap (λ (l : List Event). SetUp ∷ l) (walks ∙ rw (b.manner, b.rest)))

  pub events-are : events_of words paper ≡ events_by paper
  events-are = happened-there ∙ ap (λ (l : List Event). SetUp ∷ (l ++ ending (faulty paper))) (sym (talk-is (setup_of paper) (commands_of paper)))

  -- AND WHERE NO SCRIPT IS AMONG THEM THEY ALONE SAY WHERE THEY ARE CUT, as of a command they tell all
  pub cut-plain : (before : List Exchange) (more : List Event) → Plain before → events_of words paper ≡ SetUp ∷ (all_answered before ++ more)
      → CutBehind words paper before more
  cut-plain before more plain e =
      let (left, is) = plain-said (fresh (setup_of paper)) (commands_of paper) (faulty paper) before more plain (cc (happened-there, e)) in
      record { events = e; left = left; commands = is }

  lines_from : (fault : Bool) (said : List Exchange) (number : ℕ)
      → lines_of number (all_answered said ++ ending fault) ≡ answer_lines number said ++ ending_lines (number + length said) fault
  unfolding lines_of
  lines_from true [] number = ap (λ (n : ℕ). refusal_line n 9 ∷ []) (omega arith)
  lines_from false [] number = refl
  lines_from fault (x ∷ said) number =
      let sum : number + 1 + length said ≡ number + suc (length said) = omega arith in
      ap (λ (l : List (List ℕ)). answer_line number x.answer ∷ l)
      (lines_from fault said (number + 1) ∙ ap (λ (n : ℕ). answer_lines (number + 1) said ++ ending_lines n fault) sum)

  -- AND ITS LINES THEIR LINES, NUMBERED FROM 0
  pub lines_are : sitting_lines words paper ≡ lines_by paper
  unfolding sitting_lines lines_of
  lines_are =
      let said = talk (setup_of paper) (commands_of paper) in
      ap (lines_of 0) events-are
      ∙ ap (λ (l : List (List ℕ)). refusal_line 0 0 ∷ l)
      (lines_from (faulty paper) said 1
      ∙ ap (λ (n : ℕ). answer_lines 1 said ++ ending_lines (1 + n) (faulty paper)) (talk_length (setup_of paper) (commands_of paper)))

-- ---- every other paper

-- what the readers take is an accepted paper
pub accepted_if_taken : (paper : List ℕ) → Bytes paper → (version : ℕ) (body rest : List ℕ) → Opens paper version body rest
    → (shape : Shape) → Sp.SetUp version body shape → Accepted paper
accepted_if_taken paper bytes version body rest o shape t =
    let small : Bytes body = opened-bytes paper version body rest o bytes in
    let log = sym (log-judged shape body) ∙ t.log in
    let taken : IsTaken (Ok tt) version body = record { shape = shape; shape_is = t.shape_is; base = ap setup_number t.base; log = log } in
    let spelled = (taken_if_spelled version body (record { below = byte_small body small }) o.least o.most).0 taken in
    record { version = version; body = body; rest = rest; opens = o; set_up_lem = spelled }

-- and what reaches past its data is spelled so
past_if_taken : (paper : List ℕ) → Bytes paper → (version : ℕ) (body rest : List ℕ) → Opens paper version body rest → Sp.PastSetUp version body
    → IsPast version body
past_if_taken paper bytes version body rest o p =
    let small : Bytes body = opened-bytes paper version body rest o bytes in
    let log = sym (log-judged p.shape body) ∙ p.log in
    let taken : IsTaken (Err TableFault) version body = record { shape = p.shape; shape_is = p.shape_is; base = ap setup_number p.base; log = log } in
    (past_if_spelled version body (record { below = byte_small body small }) o.least o.most).0 taken

-- what is refused as a set-up has a field out of its range
none_in_range : (version : ℕ) (body : List ℕ) → NotSetUp version body → IsInRange version body → ⊥
none_in_range version body n i = by (set_up_or_past version body i) where
  by : IsSetup version body ⊎ IsPast version body → ⊥
  by (inl s) = taken_or_not version body (shape version body s.fields) (set_up_lem version body s.fields s.within) n
  by (inr p) = refused_or_past version body n (past version body p.fields p.past)

ended-at-once : (words paper : List ℕ) (refusal : Refusal) → (begun_of paper).event ≡ Refused refusal → events_of words paper ≡ Refused refusal ∷ []
unfolding events_of
ended-at-once words paper refusal e = rw e

one_event : (paper : List ℕ) (version : ℕ) (body rest : List ℕ) → Opens paper version body rest → NotSetUp version body → One (begun_of paper).event
unfolding begun_of setup_begun
one_event paper version body rest o n = let r = opens paper version body rest o in rw (r.0, r.1) (not_begun version body 4 (4 + length body) n)

past_event : (paper : List ℕ) (version : ℕ) (body rest : List ℕ) → Opens paper version body rest → Sp.PastSetUp version body
    → (begun_of paper).event ≡ Refused PastData
unfolding begun_of setup_begun
past_event paper version body rest o p = let r = opens paper version body rest o in rw (r.0, r.1) (past-begun version body 4 (4 + length body) p)

-- EVERY BYTE STRING: it does not open, its set-up is not one, its log reaches past its data, or it is heard
pub every_paper : (words paper : List ℕ) → length words ≡ word_count → Bytes paper → Heard words paper
unfolding begun_of
every_paper words paper lent bytes = by (opens_or_faults paper bytes) where
  by_set_up : (o : Opening paper)
      → ((shape : Shape) × Sp.SetUp o.version o.body shape) ⊎ (NotSetUp o.version o.body ⊎ Sp.PastSetUp o.version o.body)
      → Heard words paper
  by_set_up o (inl t) =
      let a = accepted_if_taken paper bytes o.version o.body o.rest o.opens t.0 t.1 in
      heard a (events-are words paper lent bytes a)
  by_set_up o (inr (inr p)) =
      past_data o.version o.body o.rest o.opens (past_if_taken paper bytes o.version o.body o.rest o.opens p)
      (ended-at-once words paper PastData (past_event paper o.version o.body o.rest o.opens p))
  by_set_up o (inr (inl n)) =
      let i = one_event paper o.version o.body o.rest o.opens n in
      not_set_up o.version o.body o.rest o.opens (none_in_range o.version o.body n) i.refusal i.one
      (ended-at-once words paper i.refusal i.is)

  by : OpenFault paper ⊎ Opening paper → Heard words paper
  by (inl f) = unread f (ended-at-once words paper Unreadable (rw (faults paper f)))
  by (inr o) = by_set_up o (set_up_or_not o.version o.body)

-- THE FIRST EVENT IS THE SET-UP'S EXACTLY WHERE IT IS ACCEPTED
pub accepted-exactly : (paper : List ℕ) → Bytes paper → ((begun_of paper).event ≡ SetUp) ↔ Accepted paper
unfolding begun_of
accepted-exactly paper bytes = (λ e. by e (opens_or_faults paper bytes), begun) where
  begun : Accepted paper → (begun_of paper).event ≡ SetUp
  begun a = ap (λ (b : Begun). b.event) (begins (replicate word_count 0) paper refl bytes a).begun-is

  by_set_up : (begun_of paper).event ≡ SetUp → (o : Opening paper)
      → ((shape : Shape) × Sp.SetUp o.version o.body shape) ⊎ (NotSetUp o.version o.body ⊎ Sp.PastSetUp o.version o.body)
      → Accepted paper
  by_set_up e o (inl t) = accepted_if_taken paper bytes o.version o.body o.rest o.opens t.0 t.1
  by_set_up e o (inr (inr p)) =
      let z : ◌≡◌ {A = ℕ} 0 1 = cc (past_event paper o.version o.body o.rest o.opens p) in
      absurd (omega arith)
  by_set_up e o (inr (inl n)) =
      let i = one_event paper o.version o.body o.rest o.opens n in
      let z : ◌≡◌ {A = ℕ} 0 1 = cc i.is in
      absurd (omega arith)

  by : (begun_of paper).event ≡ SetUp → OpenFault paper ⊎ Opening paper → Accepted paper
  by e (inl f) =
      let none : (begun_of paper).event ≡ Refused Unreadable = rw (faults paper f) in
      let z : ◌≡◌ {A = ℕ} 0 1 = cc in
      absurd (omega arith)
  by e (inr o) = by_set_up e o (set_up_or_not o.version o.body)
