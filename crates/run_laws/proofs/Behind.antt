-- A run behind a paper: the lines of both together are the paper's, and then the run's answers as lines. Assumes nothing.
use mathlib.Core.Path.{◌≡◌, refl, sym, ap, subst, ◌∙◌}
use mathlib.Core.Bool.{Bool, true, false, cond, ◌&&◌}
use mathlib.Core.List.{List, [], ◌∷◌, ◌++◌}
use mathlib.Core.Logic.{inl, inr}
use Prim.Native.Nat.{ℕ, zero, suc, ◌+◌, ◌-◌, ◌≤◌, ◌<◌}
use native.Mathlib.Omega.{arith}
use borrow.Author.Tests.{le-leb, leb-true}
use lib.Dec.{leb}
use lib.ListN.{length, take, drop, length-append, length-drop}
use lib.Seq.{take-append-le, drop-append-le}
use Rattle.rules.specs.Rules.{Rules, rules_of}
use Rattle.rules.specs.declared.Values.{Values}
use Rattle.slot.specs.declared.Slots.{Slots}
use Rattle.shape.specs.declared.Family.{Family}
use Rattle.shape.specs.declared.Shape.{Shape}
use Rattle.shape.specs.Shape.{Lies}
use Rattle.command.specs.Command.{file_in, selecting_of, read_by, slots_of, command_in}
use Rattle.state.specs.declared.State.{State}
use Rattle.state.specs.declared.Answer.{Answer}
use Rattle.records.specs.declared.Said.{Said}
use Rattle.records.specs.declared.Taken.{Taken}
use Rattle.records.specs.declared.Event.{Event}
use Rattle.records.specs.declared.Event.TheVariants.{SetUp, End as EventEnd, Refused, Answered}
use Rattle.records.specs.Records.{answered_by, scripted_by, is_script, record_taken, record_writes, can_be_read}
use Rattle.records.proofs.Readable.{Answers, answered_or_not}
use Rattle.refusal.specs.declared.Refusal.{Refusal}
use Rattle.refusal.specs.declared.Refusal.TheVariants.{Unreadable}
use Rattle.paper.specs.declared.Next.{Next}
use Rattle.paper.specs.declared.Next.TheVariants.{Record, Fault, End}
use Rattle.paper.specs.Paper.{next_at}
use Rattle.paper.specs.Walk.{Met, part, place_in}
use Rattle.paper.proofs.Walk.{inside, Stopped, past_end, rests, walk-on}
use Rattle.conversation.specs.Conversation.{next_taken, taken_of, next_writes, taken_writes}
use Rattle.conversation.specs.Events.{following, events_from}
use Rattle.conversation.proofs.Events.{GoesOn, settled, further}
use Rattle.script.specs.Script.{rules_after}
use Rattle.lines.specs.Sitting.{answer_line, lines_of}
use Rattle.demands.specs.Conversation.{Exchange, outcome_of, told}
use Rattle.runs.specs.Runs.{all_read, Card, card_behind}
use Rattle.run_rule.proofs.Walk.{met_from, is_run_from, body_length, first}
use Rattle.runs.proofs.Going.{elsewhere}
use Rattle.run_laws.specs.Singly.{sent_by, messages_of}
use Rattle.run_laws.specs.Behind.{left_from, ReadFrom, answer_lines}
use Rattle.run_laws.proofs.Appended as Appended
use Rattle.run_laws.proofs.Laws.{both, end-is-past}
use Rattle.run_laws.proofs.Singly.{one, sitting_of, told_is}
use Rattle.std.specs.Prelude.{None, Option, Some}
use Rattle.shape.specs.declared.SelectionFile.{SelectionFile}
use Rattle.shape.specs.declared.Span.{Span}

module _ (p r : List ℕ) where
  -- ---- the file stays where it lies

  file_stays : (start end : ℕ) → start ≤ end → end ≤ length p → file_in (p ++ r) start end ≡ file_in p start end
  file_stays start end h l =
      let long = length-append p r in
      let rest = length-drop start p in
      let here : leb end (length p) ≡ true = le-leb end (length p) l in
      let there : leb end (length (p ++ r)) ≡ true = le-leb end (length (p ++ r)) (omega (arith, long)) in
      let same : take (end - start) (drop start (p ++ r)) ≡ take (end - start) (drop start p) =
      ap (take (end - start)) (drop-append-le start p r (omega arith)) ∙ take-append-le (end - start) (drop start p) r (omega (arith, rest)) in
      rw (here, there, same)

  read_stays : (selecting : Option SelectionFile) (dating : Option Span) (family : Family) (slots : Slots) (kind : ℕ) (body : List ℕ) → Lies selecting (length p)
      → read_by selecting dating family slots (p ++ r) kind body ≡ read_by selecting dating family slots p kind body
  read_stays None dating family slots kind body lies = refl
  read_stays (Some part) dating family slots kind body lies =
      ap (λ file. selecting_of dating family slots file part.entries kind body) (file_stays part.start part.end lies.0 lies.1)

  module _ (shape : Shape) (lies : Lies shape.selecting (length p)) where
    record_stays : (rules : Rules) (state : State) (kind : ℕ) (body : List ℕ) (end : ℕ)
        → record_taken rules shape state (p ++ r) kind body end ≡ record_taken rules shape state p kind body end
    unfolding command_in
    record_stays rules state kind body end =
        let read = read_stays shape.selecting shape.dating shape.family (slots_of shape.family state.values) kind body lies in
        ap (λ command. cond (is_script shape kind) (scripted_by state body end) (answered_by rules state end command)) read

    -- ---- the run, behind the paper

    abbrev s : List ℕ
    s = p ++ r

    pub taken-behind : (rules : Rules) (state : State) (at kind start end : ℕ) → next_at r at ≡ Record kind start end
        → (taken_of rules shape state s (length p + at) ≡ record_taken rules shape state p kind (part r start end) (length p + end))
        × (taken_writes shape state s (length p + at) ≡ record_writes shape state kind (part r start end))
    unfolding taken_of taken_writes
    taken-behind rules state at kind start end e =
        let next = Appended.behind p r at ∙ ap (Appended.further (length p)) e in
        let body = Appended.part-behind p r start end in (
          ap (next_taken rules shape state s (length p + at)) next
              ∙ ap (λ b. record_taken rules shape state s kind b (length p + end)) body ∙ record_stays rules state kind (part r start end) (length p + end),
          ap (next_writes shape state s) next ∙ ap (record_writes shape state kind) body,
        )

    over : (n number : ℕ) (rules : Rules) (state : State) (at : ℕ) → length s ≤ at → lines_of number (events_from n rules shape state s at) ≡ []
    unfolding events_from lines_of
    over n number rules state at h = ap (lines_of number) (settled shape s 0 n rules state at (omega arith) (omega arith))

    module _ (at number : ℕ) (card : Card) (log : List Exchange) (kind start end : ℕ) (e : next_at r at ≡ Record kind start end)
        (can : can_be_read shape kind (end - start) ≡ true) where
      abbrev met : Met
      met = record { kind = kind; body = part r start end }

      abbrev behind : Card
      behind = card_behind shape p card met

      -- the record's line, and the rest on the card that it leaves
      line : (n : ℕ) → lines_of number (events_from (suc n) card.rules shape card.state s (length p + at))
          ≡ answer_line number (outcome_of (sitting_of shape p card log) (sent_by shape p card.state met)).answer
          ∷ lines_of (number + 1) (events_from n behind.rules shape behind.state s (length p + end))
      unfolding events_from lines_of card_behind
      line n =
          let can-be = ap (can_be_read shape kind) (body_length shape r at kind start end e) ∙ can in
          let same = one shape p card met can-be in
          let there = elsewhere card.rules shape card.state p kind (part r start end) (length p + end) in
          let taken = taken-behind card.rules card.state at kind start end e in
          let ends = rw can-be at (answered_or_not card.rules card.state (length p + end) shape p kind (part r start end)) in
          rw (taken.0, taken.1, ends.ends, there.0, there.1, same.event_is)

    abbrev Tail : (n at number : ℕ) (card : Card) (log : List Exchange) → Type 0
    Tail n at number card log =
        lines_of number (events_from n card.rules shape card.state s (length p + at))
        ≡ answer_lines number (sitting_of shape p card log) (messages_of shape p card (met_from shape r at))

    -- at the end of both
    ended : (n at number : ℕ) (card : Card) (log : List Exchange) → length r ≤ at → Tail n at number card log
    unfolding answer_lines messages_of
    ended n at number card log h =
        let none = (rests (length r) r at (inl (past_end r at h))).0 in
        let long = length-append p r in
        over n number card.rules card.state (length p + at) (omega (arith, long))
        ∙ ap (λ mets. answer_lines number (sitting_of shape p card log) (messages_of shape p card mets)) (sym none)

    -- a run has no place where there is no record but its end
    pub not_stopped : (at : ℕ) → Stopped r at → is_run_from shape r at ≡ true → length r ≤ at
    not_stopped at stopped is =
        let stays = (rests (length r) r at stopped).1 in
        let far = leb-true (length r) (place_in (length r) r at) (both (leb (length r) (place_in (length r) r at)) (all_read shape (met_from shape r at)) is).0 in
        omega (arith, far, stays)

    tail-by : (n at number : ℕ) (card : Card) (log : List Exchange) → length r - at ≤ suc n → is_run_from shape r at ≡ true
        → ((at : ℕ) (card : Card) (log : List Exchange) → length r - at ≤ n → at ≤ length r → is_run_from shape r at ≡ true
        → Tail n at (number + 1) card log)
        → (next : Next) → next_at r at ≡ next → Tail (suc n) at number card log
    unfolding answer_lines messages_of
    tail-by n at number card log h is more (Record kind start end) e =
        let i = inside r at kind start end e in
        let can = both (can_be_read shape kind (end - start)) (is_run_from shape r end) (sym (first shape r at kind start end e) ∙ is) in
        let met : Met = record { kind = kind; body = part r start end } in
        let can-be = ap (can_be_read shape kind) (body_length shape r at kind start end e) ∙ can.0 in
        let message = sent_by shape p card.state met in
        let outcome = outcome_of (sitting_of shape p card log) message in
        let behind = card_behind shape p card met in
        let log' : List Exchange = record { command = message; answer = outcome.answer } ∷ log in
        let rest = more end behind log' (omega (arith, i.grows)) i.fits can.1 in
        let on = (walk-on r at kind start end e).0 in
        let messages = messages_of shape p behind (met_from shape r end) in
        line at number card log kind start end e can.0 n
        ∙ ap (λ lines. answer_line number outcome.answer ∷ lines)
        (rest ∙ ap (λ sitting. answer_lines (number + 1) sitting messages) (sym (told_is shape p card met can-be log)))
        ∙ ap (λ mets. answer_lines number (sitting_of shape p card log) (messages_of shape p card mets)) (sym on)
    tail-by n at number card log h is more Fault e = ended (suc n) at number card log (not_stopped at (inr e) is)
    tail-by n at number card log h is more End e = ended (suc n) at number card log (not_stopped at (inl e) is)

    pub tail : (n at number : ℕ) (card : Card) (log : List Exchange) → length r - at ≤ n → at ≤ length r → is_run_from shape r at ≡ true
        → Tail n at number card log
    tail zero at number card log h k is = ended 0 at number card log (omega arith)
    tail (suc n) at number card log h k is =
        tail-by n at number card log h is (λ at card log l k is. tail n at (number + 1) card log l k is) (next_at r at) refl

    -- ---- the paper, before the run

    pub taken-before : (rules : Rules) (state : State) (at kind start end : ℕ) → next_at p at ≡ Record kind start end
        → (taken_of rules shape state s at ≡ taken_of rules shape state p at) × (taken_writes shape state s at ≡ taken_writes shape state p at)
    unfolding taken_of taken_writes
    taken-before rules state at kind start end e =
        let i = inside p at kind start end e in
        let next = Appended.next-before p r at kind start end i in
        let body = Appended.part-before p r at kind start end i in (
          ap (next_taken rules shape state s at) next ∙ ap (λ b. record_taken rules shape state s kind b end) body
              ∙ record_stays rules state kind (part p start end) end ∙ ap (next_taken rules shape state p at) (sym e),
          ap (next_writes shape state s) next ∙ ap (record_writes shape state kind) body ∙ ap (next_writes shape state p) (sym e),
        )

    -- the events of both together from a place of the paper on, and those of the paper
    abbrev Front : (n : ℕ) (rules : Rules) (state : State) (at : ℕ) → Type 0
    Front n rules state at =
        let left = left_from n rules shape state p at in
        events_from (length s) rules shape state s at
        ≡ events_from n rules shape state p at ++ events_from (length s) left.rules shape left.state s (length p)

    -- an answered record, and what is behind it
    module _ (n : ℕ) (rules : Rules) (state : State) (at : ℕ) where
      abbrev taken : Taken
      taken = taken_of rules shape state p at

      abbrev then : Rules
      then = rules_after rules (taken_writes shape state p at)

      answered : (said : Said) (answer : Answer) → taken.event ≡ Answered said answer → at < length p
          → taken_of rules shape state s at ≡ taken → taken_writes shape state s at ≡ taken_writes shape state p at
          → ReadFrom (suc n) rules shape state p at
          → (at < taken.at → taken.at ≤ length p → ReadFrom n then shape taken.state p taken.at → Front n then taken.state taken.at)
          → Front (suc n) rules state at
      unfolding events_from left_from ReadFrom
      answered said answer e h same writes read rest =
          let goes = further shape p rules state at (subst GoesOn (sym e) tt) in
          let m = length s - 1 in
          let long = length-append p r in
          let size : length s ≡ suc m = omega (arith, long) in
          let one : events_from (suc m) rules shape state s at ≡ Answered said answer ∷ events_from m then shape taken.state s taken.at =
          rw (same, writes, e) in
          let more = settled shape s m (length s) then taken.state taken.at (omega arith) (omega arith) in
          rw e
          (ap (λ (k : ℕ). events_from k rules shape state s at) size ∙ one
          ∙ ap (λ events. Answered said answer ∷ events) (sym more ∙ rest goes.0 goes.1 (rw e at read)))

    at_seam : (n : ℕ) (rules : Rules) (state : State) (at : ℕ) → at ≡ length p → Front n rules state at
    unfolding events_from left_from taken_of
    at_seam zero rules state at e = ap (events_from (length s) rules shape state s) e
    at_seam (suc n) rules state at e = rw (past_end p at (omega arith)) (ap (events_from (length s) rules shape state s) e)

    -- what is refused would end the paper
    pub refused : (n : ℕ) (rules : Rules) (state : State) (at : ℕ) (refusal : Refusal) → (taken_of rules shape state p at).event ≡ Refused refusal
        → ReadFrom (suc n) rules shape state p at → ⊥
    unfolding ReadFrom
    refused n rules state at refusal e read = rw e at read

    front_by_lem : (n : ℕ) (rules : Rules) (state : State) (at : ℕ) → at ≤ length p → ReadFrom (suc n) rules shape state p at
        → ((rules : Rules) (state : State) (next : ℕ) → at < next → next ≤ length p → ReadFrom n rules shape state p next → Front n rules state next)
        → (next : Next) → next_at p at ≡ next → Front (suc n) rules state at
    unfolding taken_of
    front_by_lem n rules state at k read more End e = let far = end-is-past p at e in at_seam (suc n) rules state at (omega arith)
    front_by_lem n rules state at k read more Fault e =
        absurd (refused n rules state at Unreadable (ap (λ next. (next_taken rules shape state p at next).event) e) read)
    front_by_lem n rules state at k read more (Record kind start end) e =
        by (can_be_read shape kind (length (part p start end))) (answered_or_not rules state end shape p kind (part p start end)) where
          is : taken_of rules shape state p at ≡ record_taken rules shape state p kind (part p start end) end
          is = ap (next_taken rules shape state p at) e

          by : (can : Bool) → Answers can state end (record_taken rules shape state p kind (part p start end) end) → Front (suc n) rules state at
          by true given =
              let before = taken-before rules state at kind start end e in
              answered n rules state at given.said given.answer (ap (λ t. t.event) is ∙ given.event_is)
              (let i = inside p at kind start end e in omega (arith, i.grows, i.fits)) before.0 before.1 read (more _ _ _)
          by false given = absurd (refused n rules state at Unreadable (ap (λ t. t.event) (is ∙ given)) read)

    pub front : (n : ℕ) (rules : Rules) (state : State) (at : ℕ) → length p - at ≤ n → at ≤ length p → ReadFrom n rules shape state p at → Front n rules state at
    front zero rules state at h k read = at_seam 0 rules state at (omega arith)
    front (suc n) rules state at h k read =
        front_by_lem n rules state at k read (λ rules state next l m read. front n rules state next (omega arith) m read) (next_at p at) refl
