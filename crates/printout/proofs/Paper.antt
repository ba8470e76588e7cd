-- What is printed of a paper, read as text: its lines, each once and in order, and nothing more. Assumes nothing.
use mathlib.Core.Path.{◌≡◌, refl, ap, sym, subst₂, ◌∙◌}
use mathlib.Core.Bool.{Bool, true, false, cond}
use mathlib.Core.List.{List, [], ◌∷◌, ◌++◌, append-nil}
use Prim.Native.Nat.{ℕ, zero, suc, ◌+◌, ◌*◌, ◌≤◌, ◌<◌}
use native.Mathlib.Omega.{arith}
use borrow.Author.Tests.{leb-true, leb-false, le-leb}
use lib.Dec.{eqb}
use lib.ListN.{length, get_or, length-append}
use lib.Seq.{sets}
use Rattle.refusal.specs.Refusal.{refusal_number}
use Rattle.rules.specs.Rules.{Rules, rules_of}
use Rattle.rules.specs.Word.{word_count}
use Rattle.shape.specs.declared.Shape.{Shape}
use Rattle.state.specs.declared.Answer.{Answer}
use Rattle.state.specs.declared.Answer.TheVariants.{Refused as AnswerRefused, Started, Given, Done}
use Rattle.state.specs.declared.State.{State}
use Rattle.state.specs.State.{cid_of}
use Rattle.script.specs.Script.{rules_after}
use Rattle.card.specs.Message.{Message}
use Rattle.records.specs.declared.Event.{Event}
use Rattle.records.specs.declared.Event.TheVariants.{SetUp, End, Refused, Answered}
use Rattle.opening.specs.Opening.{begun_of, words_begun}
use Rattle.conversation.specs.Conversation.{taken_of, taken_writes}
use Rattle.conversation.specs.Events.{following, events_from, events_of, words_left}
use Rattle.lines.specs.Lines.{refusal_line, start_line, selected_line}
use Rattle.lines.specs.Sitting.{answer_line, event_line, lines_of, sitting_lines}
use Rattle.text.proofs.Each.{Each, none, more, weaken}
use Rattle.text.proofs.Fields.{Fed}
use Rattle.lines.proofs.Fields.{OneLine}
use Rattle.lines.proofs.Laws.{refusal_line_lem, start-line, selected_line_lem, cryptogram-line}
use Rattle.transcript.specs.Transcript.{transcript_of}
use Rattle.transcript.proofs.Long.{long}
use Rattle.replies.specs.Replies.{behind}
use Rattle.reply_laws.proofs.Marks.{behind-feed}
use Rattle.log_text.specs.LogText.{longest}
use Rattle.paper_text.specs.PaperText.{log_behind, text_of, has_text_room, text_put, room_put, words_put}
use Rattle.paper_text.proofs.Logged.{no_further_line, log-long}
use Rattle.readback.specs.Fields.{fields_in}
use Rattle.demands.specs.Conversation.{Exchange}
use Rattle.spelling.specs.Spelling.{Bytes}
use Rattle.spelling.specs.Shown.{shown, Sized}
use Rattle.spelling.specs.Printed.{printed, printed_lines}
use Rattle.spelling.proofs.Shown.{answer-shown}
use Rattle.spelling.proofs.Text.{printed-text}
use Rattle.papers.specs.Papers.{Accepted}
use Rattle.papers.specs.Talk.{Heard, CutBehindOne}
use Rattle.papers.specs.Talk as Talk
use Rattle.papers.specs.Lines.{lines_by}
use Rattle.papers.proofs.Events.{lines_are, every_paper}
use Rattle.papers.proofs.Demands.{paper-line}
use Rattle.spelling.proofs.Numbers.{byte_small}
use Rattle.printout.specs.Text.{lines_read, logged, Printed, unread, not_set_up, past_data, heard, Holds}
use Rattle.printout.proofs.Text.{lines-first, only-lines, held}
use Rattle.std.specs.Prelude.{None, Some}

-- ---- each of its lines is one line

pub answer-line : (number : ℕ) (answer : Answer) → OneLine (answer_line number answer)
unfolding answer_line
answer-line number (AnswerRefused refusal) = refusal_line_lem number (refusal_number refusal)
answer-line number (Started atc visits) = by (eqb visits 0) where
  by : (b : Bool) → OneLine (cond b (start_line number atc) (selected_line number atc visits))
  by true = start-line number atc
  by false = selected_line_lem number atc visits
answer-line number (Given kind atc iad) = cryptogram-line number (cid_of kind) atc iad
answer-line number Done = refusal_line_lem number 0

-- an event that has a line
abbrev Said : Event → Type 0
Said SetUp = Unit
Said End = ⊥
Said (Refused refusal) = Unit
Said (Answered said answer) = Unit

event_line_lem : (number : ℕ) (event : Event) → Said event → OneLine (event_line number event)
event_line_lem number SetUp s = refusal_line_lem number 0
event_line_lem number End s = absurd s
event_line_lem number (Refused refusal) s = refusal_line_lem number (refusal_number refusal)
event_line_lem number (Answered said answer) s = answer-line number answer

followed : (event : Event) (behind : List Event) → Each Said behind → Each Said (following event behind)
followed SetUp behind r = more {a = SetUp} tt r
followed End behind r = none
followed (Refused refusal) behind r = more {a = Refused refusal} tt none
followed (Answered said answer) behind r = more {a = Answered said answer} tt r

records-said : (n : ℕ) (rules : Rules) (shape : Shape) (state : State) (paper : List ℕ) (at : ℕ) → Each Said (events_from n rules shape state paper at)
unfolding events_from
records-said zero rules shape state paper at = none
records-said (suc n) rules shape state paper at =
    let taken = taken_of rules shape state paper at in
    followed taken.event _ (records-said n (rules_after rules (taken_writes shape state paper at)) shape taken.state paper taken.at)

paper-said : (words paper : List ℕ) → Each Said (events_of words paper)
unfolding events_of
paper-said words paper =
    let begun = begun_of paper in
    followed begun.event _
    (records-said (length paper) (rules_of (words_begun words paper)) begun.shape begun.state paper begun.at)

events-lines : (number : ℕ) {events : List Event} → Each Said events → Each OneLine (lines_of number events)
unfolding lines_of
events-lines number none = none
events-lines number (more {a = event} s r) = more (event_line_lem number event s) (events-lines (number + 1) r)

pub paper-lines : (words paper : List ℕ) → Each Fed (sitting_lines words paper)
unfolding sitting_lines
paper-lines words paper = weaken (λ line o. o.fed) (events-lines 0 (paper-said words paper))

-- ---- its text

module _ (words paper : List ℕ) where
  -- THE TEXT OF A PAPER, TAKEN APART AT ITS LINE FEEDS, IS ITS LINES
  pub printed-lines : lines_read (transcript_of words paper) ≡ sitting_lines words paper
  unfolding transcript_of
  printed-lines = only-lines (paper-lines words paper)

  -- AND WITH ITS LOG'S TEXT BEHIND IT THEY ARE ITS LINES AND THE LOG'S
  pub text-lines : lines_read (text_of words paper) ≡ sitting_lines words paper ++ logged words paper
  unfolding text_of transcript_of
  text-lines = lines-first (paper-lines words paper) (log_behind paper (transcript_of words paper))

  -- without a record there is no line of a log
  pub one-line-unlogged : (refusal : ℕ) → transcript_of words paper ≡ refusal_line 0 refusal → logged words paper ≡ []
  unfolding lines_read
  one-line-unlogged refusal e =
      let line = (refusal_line_lem 0 refusal).fed in
      let only = ap (λ (t : List ℕ). behind 10 t) (sym (append-nil (refusal_line 0 refusal))) ∙ behind-feed line [] in
      ap lines_read (no_further_line paper (transcript_of words paper) (ap (behind 10) e ∙ only))

  -- how long it is, its numbers being bytes
  text-long : Bytes paper → length (text_of words paper) ≤ 8 * length paper + 12 + longest
  unfolding text_of
  text-long bytes =
      let lines = transcript_of words paper in
      omega (arith, length-append lines (log_behind paper lines), long words paper, log-long paper lines (byte_small paper bytes))

  -- THE ROOM HOLDS THEM, AND ALL ELSE STAYS
  pub room_holds : Bytes paper → (room : List ℕ) (at end : ℕ) → text_put words paper room at ≡ Some end
      → Holds room at end (sitting_lines words paper ++ logged words paper) (room_put words paper room at)
  unfolding text_put room_put
  room_holds bytes room at end = by (has_text_room (length room) at (length paper)) refl where
    by : (b : Bool) → has_text_room (length room) at (length paper) ≡ b → cond b (Some (at + length (text_of words paper))) None ≡ Some end
        → Holds room at end (sitting_lines words paper ++ logged words paper) (cond b (sets room at (text_of words paper)) room)
    by false e w = absurd (let z : ◌≡◌ {A = ℕ} 0 1 = cc in omega arith)
    by true e w =
        let text = text_of words paper in
        let ends : at + length text ≡ end = cc in
        let asked = leb-true (at + (8 * length paper + 82 + longest)) (length room) e in
        let there = held room text at (omega (arith, text-long bytes)) in
        subst₂ (λ (k : ℕ) (lines : List (List ℕ)). Holds room at k lines (sets room at text)) ends text-lines there

  -- IT IS ANSWERED WHERE THE ROOM HAS 8 BYTES FOR EACH OF ITS BYTES, 82 MORE, AND 245,740 FOR A LOG, AND ELSE NOTHING IS TOUCHED
  pub room_asked : (room : List ℕ) (at : ℕ) → at + (8 * length paper + 82 + 245_740) ≤ length room
      → text_put words paper room at ≡ Some (at + length (text_of words paper))
  unfolding text_put
  room_asked room at fits = rw (le-leb (at + (8 * length paper + 82 + 245_740)) (length room) fits)

  pub room_kept : (room : List ℕ) (at : ℕ) → text_put words paper room at ≡ None
      → (length room < at + (8 * length paper + 82 + 245_740)) × (room_put words paper room at ≡ room) × (words_put words paper room at ≡ words)
  unfolding text_put room_put words_put
  room_kept room at = by (has_text_room (length room) at (length paper)) refl where
    by : (b : Bool) → has_text_room (length room) at (length paper) ≡ b → cond b (Some (at + length (text_of words paper))) None ≡ None
        → (length room < at + (8 * length paper + 82 + 245_740)) × (cond b (sets room at (text_of words paper)) room ≡ room)
        × (cond b (words_left words paper) words ≡ words)
    by true e w = absurd (let z : ◌≡◌ {A = ℕ} 0 1 = cc in omega arith)
    by false e w = (leb-false (at + (8 * length paper + 82 + 245_740)) (length room) e, refl, refl)

  -- EVERY BYTE STRING
  pub every_text : length words ≡ word_count → Bytes paper → Printed paper (lines_read (transcript_of words paper))
  every_text lent bytes = rw printed-lines (by (every_paper words paper lent bytes)) where
    by : Heard words paper → Printed paper (sitting_lines words paper)
    by (Talk.unread fault e) = unread fault (unfold sitting_lines lines_of in ap (lines_of 0) e)
    by (Talk.not_set_up version body rest o none_is refusal one e) =
        not_set_up version body rest o none_is
        (unfold sitting_lines lines_of in (ap (lines_of 0) e ∙ ap (λ (n : ℕ). refusal_line 0 n ∷ []) one))
    by (Talk.past_data version body rest o past e) = past_data version body rest o past (unfold sitting_lines lines_of in ap (lines_of 0) e)
    by (Talk.heard a e) = heard a (lines_are words paper lent bytes a)

-- AND OF AN ACCEPTED ONE: the set-up's line, one for each command with its answer, and refusal 9 where a fault ends it
pub accepted-text : (words paper : List ℕ) → length words ≡ word_count → Bytes paper → Accepted paper → lines_read (transcript_of words paper) ≡ lines_by paper
accepted-text words paper lent bytes a = printed-lines words paper ∙ lines_are words paper lent bytes a

-- a command's line says its place and the fields of its answer
pub line-says : (words paper : List ℕ) → length words ≡ word_count → Bytes paper → Accepted paper
    → (before : List Exchange) (command : Message) (answer : Answer) (behind : List Event)
    → CutBehindOne words paper before command answer behind → suc (length before) < 100_000 → Sized answer
    → fields_in (get_or (lines_read (transcript_of words paper)) (suc (length before)) []) ≡ shown (suc (length before)) answer
line-says words paper lent bytes a before command answer behind e few sized =
    let n = suc (length before) in
    ap (λ (lines : List (List ℕ)). fields_in (get_or lines n [])) (printed-lines words paper)
    ∙ ap fields_in (paper-line words paper lent bytes a before command answer behind e)
    ∙ answer-shown n few answer sized

-- DOCUMENT 01'S SITTING
pub printed_sitting : (words : List ℕ) → length words ≡ word_count → lines_read (transcript_of words printed) ≡ printed_lines
printed_sitting words lent = printed-lines words printed ∙ printed-text words lent
