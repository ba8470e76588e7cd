-- A run answered from a place on: what stands in the room and what is still to come are all answers. Assumes nothing.
use mathlib.Core.Path.{◌≡◌, refl, sym, ap, subst, ◌∙◌}
use mathlib.Core.Bool.{Bool, true, false, cond, ◌&&◌}
use mathlib.Core.List.{List, [], ◌∷◌, ◌++◌}
use mathlib.Core.Logic.{inl, inr}
use Prim.Native.Nat.{ℕ, ◌+◌, ◌*◌, ◌-◌, ◌^◌, ◌≤◌, ◌<◌}
use native.Mathlib.Omega.{arith}
use borrow.Author.Tests.{le-leb, leb-true}
use lib.Dec.{leb}
use lib.ListN.{length}
use lib.Seq.{sets, length-sets}
use Rattle.rules.specs.Rules.{Rules, rules_of}
use Rattle.shape.specs.declared.Shape.{Shape}
use Rattle.paper.specs.declared.Next.TheVariants.{Record}
use Rattle.paper.specs.Paper.{next_at}
use Rattle.paper.specs.Walk.{Met, part, place_in}
use Rattle.paper.proofs.Walk.{inside, Stopped, past_end, rests, walk-on}
use Rattle.text.proofs.Laws.{sets_on}
use Rattle.script.specs.Script.{rules_after, words_after}
use Rattle.command.specs.Command.{command_in}
use Rattle.state.specs.declared.State.{State}
use Rattle.state.specs.declared.Answer.{Answer}
use Rattle.records.specs.declared.Said.{Said}
use Rattle.records.specs.declared.Event.{Event}
use Rattle.records.specs.declared.Event.TheVariants.{SetUp, End, Refused, Answered}
use Rattle.records.specs.declared.Taken.{Taken}
use Rattle.records.specs.Records.{answered_by, scripted_by, is_script, record_taken, record_writes, can_be_read}
use Rattle.records.proofs.Readable.{IsAnswered, Answers, answered_or_not}
use Rattle.keeper.specs.Keeper.{rooms_after, rooms_recorded}
use Rattle.answers.specs.Answers.{size, answer_bytes, placed}
use Rattle.answers.proofs.Laws.{answer-size}
use Rattle.runs.specs.Runs.{records_in, all_read, is_run, Card, card_of, answered_in, taken_by, writes_of, card_behind, card_after, answers_to}
use Rattle.run_rule.proofs.Walk.{met_from, is_run_from, body_length, first}
use Rattle.std.specs.Prelude.{Err, Ok, Result}
use Rattle.command.specs.declared.Command.{Command}
use Rattle.refusal.specs.declared.Refusal.{Refusal}

-- ---- a record, wherever it ends

pub elsewhere : (rules : Rules) (shape : Shape) (state : State) (paper : List ℕ) (kind : ℕ) (body : List ℕ) (end : ℕ) →
    let taken = record_taken rules shape state paper kind body end in
    let at-0 = record_taken rules shape state paper kind body 0 in
    (taken.state ≡ at-0.state) × (taken.event ≡ at-0.event)
unfolding answered_by scripted_by
elsewhere rules shape state paper kind body end = by (is_script shape kind) body (command_in shape state.values paper kind body) where
  by : (script : Bool) (body : List ℕ) (read : Result Command Refusal) →
      let taken = cond script (scripted_by state body end) (answered_by rules state end read) in
      let at-0 = cond script (scripted_by state body 0) (answered_by rules state 0 read) in
      (taken.state ≡ at-0.state) × (taken.event ≡ at-0.event)
  by true [] read = (refl, refl)
  by true (result ∷ template) read = (refl, refl)
  by false body (Ok command) = (refl, refl)
  by false body (Err refusal) = (refl, refl)

-- what was not answered was not read
pub not_answered : (event : Event) {said : Said} {answer : Answer} → ((said : Said) (answer : Answer) → event ≡ Answered said answer → ⊥) → event ≡ Answered said answer → ⊥
not_answered event {said} {answer} k e = k said answer e

-- ---- the loop

module _ (shape : Shape) (paper run : List ℕ) where
  abbrev rest : (at : ℕ) → List Met
  rest at = met_from shape run at

  pub record Going (card₀ : Card) (room₀ : List ℕ) (card : Card) (room : List ℕ) (at to : ℕ) : Type 0 where
    pub inside : at ≤ length run
    pub is-run : is_run_from shape run at ≡ true
    pub fits : to + size * length (rest at) ≤ length room
    pub sized : length room ≡ length room₀
    pub short : length room < 2 ^ 64
    pub text : sets room to (answers_to shape paper card (rest at)) ≡ sets room₀ 0 (answers_to shape paper card₀ (records_in run))
    pub after : card_after shape paper card (rest at) ≡ card_after shape paper card₀ (records_in run)

  pub begin : (card : Card) (room : List ℕ) → is_run shape run ≡ true → size * length (records_in run) ≤ length room → length room < 2 ^ 64
      → Going card room card room 0 0
  unfolding is_run
  begin card room whole fits short =
      record { inside = omega arith; is-run = whole; fits = omega arith; sized = refl; short = short; text = refl; after = refl }

  module _ {card₀ card : Card} {room₀ room : List ℕ} {at to : ℕ} (going : Going card₀ room₀ card room at to) where
    module _ (kind start end : ℕ) (e : next_at run at ≡ Record kind start end) where
      abbrev met : Met
      met = record { kind = kind; body = part run start end }

      both : (can_be_read shape kind (end - start) ≡ true) × (is_run_from shape run end ≡ true)
      both = by (can_be_read shape kind (end - start)) (is_run_from shape run end) (sym (first shape run at kind start end e) ∙ going.is-run) where
        by : (a b : Bool) → (a && b) ≡ true → (a ≡ true) × (b ≡ true)
        by true b q = (refl, q)
        by false b q = (q, absurd (let z : ◌≡◌ {A = ℕ} 0 1 = cc in omega arith))

      pub is-answered : {taken : Taken} → taken ≡ record_taken card.rules shape card.state paper kind (part run start end) end
          → IsAnswered end taken
      is-answered is =
          let can = ap (can_be_read shape kind) (body_length shape run at kind start end e) ∙ both.0 in
          rw is (rw can at (answered_or_not card.rules card.state end shape paper kind (part run start end)))

      card_is : {taken : Taken} {words rooms : List ℕ}
          → taken ≡ record_taken card.rules shape card.state paper kind (part run start end) end
          → words ≡ words_after card.words (record_writes shape card.state kind (part run start end))
          → rules_of words ≡ rules_after card.rules (record_writes shape card.state kind (part run start end))
          → rooms ≡ rooms_recorded card.rules shape card.state paper kind (part run start end) end card.rooms
          → card_behind shape paper card met ≡ card_of words rooms taken.state
      unfolding card_behind rooms_recorded
      card_is t w q r =
          let same = elsewhere card.rules shape card.state paper kind (part run start end) end in
          rw (t, r, ← q, ← w, same.0, same.1)

      behind : (said : Said) (answer : Answer) → (taken_by shape paper card met).event ≡ Answered said answer
          → Going card₀ room₀ (card_behind shape paper card met) (placed room to (answer_bytes answer)) end (to + size)
      unfolding answers_to card_after
      behind said answer event =
          let i = inside run at kind start end e in
          let on = (walk-on run at kind start end e).0 in
          let more = ap length on in
          let bytes = answer_bytes answer in
          let here : leb (to + size) (length room) ≡ true = le-leb (to + size) (length room) (omega (arith, going.fits, more)) in
          let put : placed room to bytes ≡ sets room to bytes = rw here in
          let left = answers_to shape paper (card_behind shape paper card met) (rest end) in
          let all : answers_to shape paper card (rest at) ≡ bytes ++ left = rw (on, event) in
          let moved : sets (sets room to bytes) (to + size) left ≡ sets room to (bytes ++ left) =
          ap (λ (n : ℕ). sets (sets room to bytes) (to + n) left) (sym (answer-size answer)) ∙ sets_on room bytes left to in
          let size_is = length-sets room to bytes in
          record {
            inside = i.fits;
            is-run = both.1;
            fits = rw put (omega (arith, going.fits, more, size_is));
            sized = rw put (size_is ∙ going.sized);
            short = rw put (omega (arith, going.short, size_is));
            text = rw put (moved ∙ ap (sets room to) (sym all) ∙ going.text);
            after = ap (card_after shape paper card) (sym on) ∙ going.after;
          }

      -- by what the record came to, wherever it ends
      pub go_on : {taken : Taken} {words rooms room' : List ℕ} (said : Said) (answer : Answer)
          → taken ≡ record_taken card.rules shape card.state paper kind (part run start end) end
          → words ≡ words_after card.words (record_writes shape card.state kind (part run start end))
          → rules_of words ≡ rules_after card.rules (record_writes shape card.state kind (part run start end))
          → rooms ≡ rooms_recorded card.rules shape card.state paper kind (part run start end) end card.rooms
          → taken.event ≡ Answered said answer → room' ≡ placed room to (answer_bytes answer)
          → Going card₀ room₀ (card_of words rooms taken.state) room' end (to + size)
      go_on said answer t w q r event put =
          let same = (elsewhere card.rules shape card.state paper kind (part run start end) end).1 in
          let given = sym same ∙ ap (λ (x : Taken). x.event) (sym t) ∙ event in
          rw put (subst (λ (x : Card). Going card₀ room₀ x (placed room to (answer_bytes answer)) end (to + size)) (card_is t w q r) (behind said answer given))

    -- a run has no place where there is no record
    pub never : at < length run → Stopped run at → ⊥
    never h stopped =
        let stays = (rests (length run) run at stopped).1 in
        let far = leb-true (length run) (place_in (length run) run at) (front (leb (length run) (place_in (length run) run at)) (all_read shape (rest at)) going.is-run) in
        omega (arith, far, stays) where
          front : (a b : Bool) → (a && b) ≡ true → a ≡ true
          front true b q = refl
          front false b q = q

    pub over : length run ≤ at
        → (card ≡ card_after shape paper card₀ (records_in run)) × (room ≡ sets room₀ 0 (answers_to shape paper card₀ (records_in run)))
    unfolding answers_to card_after
    over h =
        let none = (rests (length run) run at (inl (past_end run at h))).0 in
        (rw none at going.after, rw none at going.text)
