-- A run behind a paper: what is said in both together is what is said in the paper, and then in the run. Assumes nothing.
use mathlib.Core.Path.{◌≡◌, refl, sym, ap, subst, ◌∙◌}
use mathlib.Core.Bool.{Bool, true, false}
use mathlib.Core.List.{List, ◌∷◌, ◌++◌}
use mathlib.Core.Logic.{inl, inr}
use Prim.Native.Nat.{ℕ, zero, suc, ◌+◌, ◌-◌, ◌≤◌, ◌<◌}
use native.Mathlib.Omega.{arith}
use lib.ListN.{length, length-append}
use Rattle.refusal.specs.declared.Refusal.TheVariants.{Unreadable}
use Rattle.rules.specs.Rules.{Rules}
use Rattle.shape.specs.declared.Shape.{Shape}
use Rattle.shape.specs.Shape.{Lies}
use Rattle.paper.specs.declared.Next.{Next}
use Rattle.paper.specs.declared.Next.TheVariants.{Record, Fault, End}
use Rattle.paper.specs.Paper.{next_at}
use Rattle.paper.specs.Walk.{Met, part}
use Rattle.paper.proofs.Walk.{inside, past_end, rests, walk-on}
use Rattle.script.specs.Script.{rules_after}
use Rattle.state.specs.declared.State.{State}
use Rattle.state.specs.declared.Answer.{Answer}
use Rattle.records.specs.declared.Said.{Said}
use Rattle.records.specs.declared.Taken.{Taken}
use Rattle.records.specs.declared.Event.{Event}
use Rattle.records.specs.declared.Event.TheVariants.{SetUp, End as EventEnd, Refused, Answered}
use Rattle.records.specs.Records.{record_taken, can_be_read}
use Rattle.records.proofs.Readable.{Answers, answered_or_not}
use Rattle.conversation.specs.Conversation.{next_taken, taken_of, taken_writes}
use Rattle.conversation.proofs.Events.{GoesOn, further, at-end}
use Rattle.run_rule.proofs.Walk.{met_from, is_run_from, body_length, first}
use Rattle.runs.specs.Runs.{Card, taken_by, card_behind}
use Rattle.runs.proofs.Going.{elsewhere}
use Rattle.run_laws.specs.Behind.{left_from, ReadFrom}
use Rattle.run_laws.proofs.Laws.{both, end-is-past}
use Rattle.run_laws.proofs.Behind.{taken-behind, not_stopped, taken-before, refused}
use Rattle.journal.specs.Logged.{Seen}
use Rattle.log_laws.specs.Spoken.{heard_of, seen_then, seen_from}
use Rattle.run_log_laws.specs.RunSeen.{seen_over}

-- ---- as many records as there are bytes left say all there is to say

module _ (shape : Shape) (paper : List ℕ) where
  same_seen : (at : ℕ) (event : Event) (more other : List Seen) → (GoesOn event → more ≡ other) → seen_then at event more ≡ seen_then at event other
  same_seen at SetUp more other e = e tt
  same_seen at EventEnd more other e = refl
  same_seen at (Refused refusal) more other e = refl
  same_seen at (Answered said answer) more other e = ap (λ (l : List Seen). record { said = heard_of said; at = at + 3; answer = answer } ∷ l) (e tt)

  seen-settled : (n m : ℕ) (rules : Rules) (state : State) (at : ℕ) → length paper - at ≤ n → n ≤ m
      → seen_from m rules shape state paper at ≡ seen_from n rules shape state paper at
  unfolding seen_from
  seen-settled zero zero rules state at h l = refl
  seen-settled zero (suc m) rules state at h l = rw (at-end shape paper rules state at (omega arith))
  seen-settled (suc n) zero rules state at h l = let z : ⊥ = omega arith in absurd z
  seen-settled (suc n) (suc m) rules state at h l =
      let taken = taken_of rules shape state paper at in
      let then = rules_after rules (taken_writes shape state paper at) in
      same_seen at taken.event _ _
      (λ on. let f = further shape paper rules state at on in seen-settled n m then taken.state taken.at (omega arith) (omega arith))

module _ (p r : List ℕ) (shape : Shape) (lies : Lies shape.selecting (length p)) where
  abbrev s : List ℕ
  s = p ++ r

  -- ---- the run, behind the paper

  abbrev Tail : (n at : ℕ) (card : Card) → Type 0
  Tail n at card = seen_from n card.rules shape card.state s (length p + at) ≡ seen_over shape p card (length p + at) (met_from shape r at)

  -- at the end of both
  ended : (n at : ℕ) (card : Card) → length r ≤ at → Tail n at card
  unfolding seen_over seen_from
  ended n at card h =
      let none = (rests (length r) r at (inl (past_end r at h))).0 in
      let long = length-append p r in
      seen-settled shape s 0 n card.rules card.state (length p + at) (omega (arith, long)) (omega arith)
      ∙ ap (seen_over shape p card (length p + at)) (sym none)

  module _ (at : ℕ) (card : Card) (kind start end : ℕ) (e : next_at r at ≡ Record kind start end) (can : can_be_read shape kind (end - start) ≡ true) where
    abbrev met : Met
    met = record { kind = kind; body = part r start end }

    abbrev behind : Card
    behind = card_behind shape p card met

    -- the record, and the rest on the card that it leaves
    one_seen : (n : ℕ) → seen_from (suc n) card.rules shape card.state s (length p + at)
        ≡ seen_then (length p + at) (taken_by shape p card met).event (seen_from n behind.rules shape behind.state s (length p + end))
    unfolding seen_from card_behind
    one_seen n =
        let can-be = ap (can_be_read shape kind) (body_length shape r at kind start end e) ∙ can in
        let there = elsewhere card.rules shape card.state p kind (part r start end) (length p + end) in
        let taken = taken-behind p r shape lies card.rules card.state at kind start end e in
        let ends = rw can-be at (answered_or_not card.rules card.state (length p + end) shape p kind (part r start end)) in
        rw (taken.0, taken.1, ends.ends, there.0, there.1)

  tail-by : (n at : ℕ) (card : Card) → length r - at ≤ suc n → is_run_from shape r at ≡ true
      → ((at : ℕ) (card : Card) → length r - at ≤ n → is_run_from shape r at ≡ true → Tail n at card)
      → (next : Next) → next_at r at ≡ next → Tail (suc n) at card
  unfolding seen_over
  tail-by n at card h is more (Record kind start end) e =
      let i = inside r at kind start end e in
      let can = both (can_be_read shape kind (end - start)) (is_run_from shape r end) (sym (first shape r at kind start end e) ∙ is) in
      let met : Met = record { kind = kind; body = part r start end } in
      let then = card_behind shape p card met in
      let size = body_length shape r at kind start end e in
      let place : length p + at + 3 + length (part r start end) ≡ length p + end = omega (arith, size, i.start_is, i.holds) in
      one_seen at card kind start end e can.0 n
      ∙ ap (seen_then (length p + at) (taken_by shape p card met).event)
      (more end then (omega (arith, i.grows)) can.1 ∙ ap (λ (k : ℕ). seen_over shape p then k (met_from shape r end)) (sym place))
      ∙ ap (seen_over shape p card (length p + at)) (sym (walk-on r at kind start end e).0)
  tail-by n at card h is more Fault e = ended (suc n) at card (not_stopped p r shape lies at (inr e) is)
  tail-by n at card h is more End e = ended (suc n) at card (not_stopped p r shape lies at (inl e) is)

  pub tail : (n at : ℕ) (card : Card) → length r - at ≤ n → is_run_from shape r at ≡ true → Tail n at card
  tail zero at card h is = ended 0 at card (omega arith)
  tail (suc n) at card h is = tail-by n at card h is (tail n) (next_at r at) refl

  -- ---- the paper, before the run

  abbrev Front : (n : ℕ) (rules : Rules) (state : State) (at : ℕ) → Type 0
  Front n rules state at =
      let left = left_from n rules shape state p at in
      seen_from (length s) rules shape state s at
      ≡ seen_from n rules shape state p at ++ seen_from (length s) left.rules shape left.state s (length p)

  at_seam : (n : ℕ) (rules : Rules) (state : State) (at : ℕ) → at ≡ length p → Front n rules state at
  unfolding seen_from left_from taken_of
  at_seam zero rules state at e = ap (seen_from (length s) rules shape state s) e
  at_seam (suc n) rules state at e = rw (past_end p at (omega arith)) (ap (seen_from (length s) rules shape state s) e)

  -- an answered record, and what is behind it
  module _ (n : ℕ) (rules : Rules) (state : State) (at : ℕ) where
    abbrev taken : Taken
    taken = taken_of rules shape state p at

    abbrev then : Rules
    then = rules_after rules (taken_writes shape state p at)

    answered : (said : Said) (answer : Answer) → taken.event ≡ Answered said answer → at < length p
        → taken_of rules shape state s at ≡ taken → taken_writes shape state s at ≡ taken_writes shape state p at
        → ReadFrom (suc n) rules shape state p at
        → (at < taken.at → taken.at ≤ length p → ReadFrom n then shape taken.state p taken.at → Front n then taken.state taken.at)
        → Front (suc n) rules state at
    unfolding seen_from left_from ReadFrom
    answered said answer e h same writes read rest =
        let goes = further shape p rules state at (subst GoesOn (sym e) tt) in
        let m = length s - 1 in
        let long = length-append p r in
        let size : length s ≡ suc m = omega (arith, long) in
        let here : Seen = record { said = heard_of said; at = at + 3; answer = answer } in
        let one : seen_from (suc m) rules shape state s at ≡ here ∷ seen_from m then shape taken.state s taken.at = rw (same, writes, e) in
        let more = seen-settled shape s m (length s) then taken.state taken.at (omega arith) (omega arith) in
        rw e
        (ap (λ (k : ℕ). seen_from k rules shape state s at) size ∙ one
        ∙ ap (λ (seen : List Seen). here ∷ seen) (sym more ∙ rest goes.0 goes.1 (rw e at read)))

  front_by_lem : (n : ℕ) (rules : Rules) (state : State) (at : ℕ) → at ≤ length p → ReadFrom (suc n) rules shape state p at
      → ((rules : Rules) (state : State) (next : ℕ) → at < next → next ≤ length p → ReadFrom n rules shape state p next → Front n rules state next)
      → (next : Next) → next_at p at ≡ next → Front (suc n) rules state at
  unfolding taken_of
  front_by_lem n rules state at k read more End e = let far = end-is-past p at e in at_seam (suc n) rules state at (omega arith)
  front_by_lem n rules state at k read more Fault e =
      absurd (refused p r shape lies n rules state at Unreadable (ap (λ next. (next_taken rules shape state p at next).event) e) read)
  front_by_lem n rules state at k read more (Record kind start end) e =
      by (can_be_read shape kind (length (part p start end))) (answered_or_not rules state end shape p kind (part p start end)) where
        is : taken_of rules shape state p at ≡ record_taken rules shape state p kind (part p start end) end
        is = ap (next_taken rules shape state p at) e

        by : (can : Bool) → Answers can state end (record_taken rules shape state p kind (part p start end) end) → Front (suc n) rules state at
        by true given =
            let before = taken-before p r shape lies rules state at kind start end e in
            answered n rules state at given.said given.answer (ap (λ t. t.event) is ∙ given.event_is)
            (let i = inside p at kind start end e in omega (arith, i.grows, i.fits)) before.0 before.1 read (more _ _ _)
        by false given = absurd (refused p r shape lies n rules state at Unreadable (ap (λ t. t.event) (is ∙ given)) read)

  pub front : (n : ℕ) (rules : Rules) (state : State) (at : ℕ) → length p - at ≤ n → at ≤ length p → ReadFrom n rules shape state p at → Front n rules state at
  front zero rules state at h k read = at_seam 0 rules state at (omega arith)
  front (suc n) rules state at h k read =
      front_by_lem n rules state at k read (λ rules state next l m read. front n rules state next (omega arith) m read) (next_at p at) refl
