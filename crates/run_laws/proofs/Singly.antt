-- A run is its records sent singly: the card after it, its rules, the room left and the answers are those of the conversation. Assumes nothing.
use mathlib.Core.Path.{◌≡◌, refl, sym, ap, ◌∙◌}
use mathlib.Core.Bool.{Bool, true, false, cond, ◌&&◌}
use mathlib.Core.List.{List, [], ◌∷◌, ◌++◌}
use Prim.Native.Nat.{ℕ, ◌*◌}
use native.Mathlib.Omega.{arith}
use lib.Dec.{ltb}
use lib.ListN.{length, take, drop}
use lib.Seq.{take-append_seam}
use Rattle.shape.specs.declared.Shape.{Shape}
use Rattle.paper.specs.Walk.{Met}
use Rattle.command.specs.declared.Command.{Command}
use Rattle.command.specs.declared.Command.TheVariants.{Start, First, Second}
use Rattle.command.specs.Command.{command_in, is_command}
use Rattle.command.proofs.Readable.{Reads, read_or_not}
use Rattle.element.specs.declared.Write.{Write}
use Rattle.state.specs.declared.Outcome.{Outcome}
use Rattle.card.specs.Card.{step_of}
use Rattle.card.specs.Message.{Message, message_step, message_writes}
use Rattle.records.specs.declared.Said.{Said}
use Rattle.records.specs.declared.Said.TheVariants.{Command as SaidCommand, Script}
use Rattle.records.specs.declared.Event.TheVariants.{Answered}
use Rattle.records.specs.declared.Taken.{Taken}
use Rattle.records.specs.Records.{answered_by, scripted_by, is_script, body_writes, record_writes, can_be_read}
use Rattle.keeper.specs.Keeper.{rooms_after, rooms_recorded}
use Rattle.answers.specs.Answers.{size}
use Rattle.demands.specs.Conversation.{Exchange, Sitting, outcome_of, told, run as converse}
use Rattle.room_laws.specs.Kept.{rooms_told, rooms_over}
use Rattle.run_rule.proofs.Rulings.{done-is}
use Rattle.runs.specs.Runs.{records_in, all_read, Card, answered_in, taken_by, writes_of, card_behind, card_after, answers_to, ruled_run, card_run, room_run}
use Rattle.run_laws.specs.Singly.{spelled, answers_over, command_sent, script_sent, sent_by, messages_of, seated}
use Rattle.run_laws.proofs.Laws.{both, spelled_is, answers-size, parts, placed, after}
use Rattle.std.specs.Prelude.{Ok}

-- ---- a record and its message

pub record Same (taken : Taken) (writes : List Write) (outcome : Outcome) (told_writes : List Write) : Type 0 where
  pub state-is : taken.state ≡ outcome.state
  pub said : Said
  pub event_is : taken.event ≡ Answered said outcome.answer
  pub writes_are : writes ≡ told_writes

module _ (shape : Shape) (paper : List ℕ) where
  pub one : (card : Card) (met : Met) → can_be_read shape met.kind (length met.body) ≡ true
      → Same (taken_by shape paper card met) (writes_of shape paper card met)
      (message_step card.rules card.state (sent_by shape paper card.state met)) (message_writes card.state (sent_by shape paper card.state met))
  unfolding answered_by scripted_by body_writes message_step message_writes step_of
  one card met can = by (is_script shape met.kind) can where
    by-body : (body : List ℕ) → ltb 0 (length body) ≡ true
        → Same (scripted_by card.state body 0) (body_writes card.state body)
        (message_step card.rules card.state (script_sent body)) (message_writes card.state (script_sent body))
    by-body [] e = absurd (let z : ◌≡◌ {A = ℕ} 0 1 = cc in omega arith)
    by-body (result ∷ template) e = record { state-is = refl; said = Script; event_is = refl; writes_are = refl }

    by-command : (command : Command)
        → Same (answered_by card.rules card.state 0 (Ok command)) []
        (message_step card.rules card.state (command_sent (Ok command))) (message_writes card.state (command_sent (Ok command)))
    by-command (Start start) = record { state-is = refl; said = _; event_is = refl; writes_are = refl }
    by-command (First first) = record { state-is = refl; said = _; event_is = refl; writes_are = refl }
    by-command (Second second) = record { state-is = refl; said = _; event_is = refl; writes_are = refl }

    by : (script : Bool) → cond script (ltb 0 (length met.body)) (is_command shape met.kind (length met.body)) ≡ true →
        let read = command_in shape card.state.values paper met.kind met.body in
        let message = cond script (script_sent met.body) (command_sent read) in
        Same (cond script (scripted_by card.state met.body 0) (answered_by card.rules card.state 0 read))
        (cond script (body_writes card.state met.body) [])
        (message_step card.rules card.state message) (message_writes card.state message)
    by true e = by-body met.body e
    by false e =
        let read = rw e at (read_or_not shape card.state.values paper met.kind met.body) in
        rw read.is (by-command read.command)

  -- ---- records, one after the other

  abbrev pub sitting_of : Card → List Exchange → Sitting
  sitting_of card log = record { rules = card.rules; state = card.state; log = log }

  module _ (card : Card) (met : Met) (can : can_be_read shape met.kind (length met.body) ≡ true) (log : List Exchange) where
    abbrev pub message : Message
    message = sent_by shape paper card.state met

    abbrev pub outcome : Outcome
    outcome = message_step card.rules card.state message

    pub told_is : told (sitting_of card log) message
        ≡ sitting_of (card_behind shape paper card met) (record { command = message; answer = outcome.answer } ∷ log)
    unfolding card_behind
    told_is = let same = one card met can in rw (same.state-is, same.writes_are)

    rooms-are : rooms_told (sitting_of card log) message card.rooms ≡ (card_behind shape paper card met).rooms
    unfolding card_behind rooms_recorded rooms_after
    rooms-are = let same = one card met can in rw (same.state-is, same.event_is, same.writes_are)

    answer-is : answered_in (taken_by shape paper card met).event ≡ spelled outcome.answer
    answer-is = let same = one card met can in ap answered_in same.event_is ∙ spelled_is outcome.answer

  pub record Singly (card : Card) (mets : List Met) (log : List Exchange) : Type 0 where
    pub state-is : (card_after shape paper card mets).state ≡ (converse (sitting_of card log) (messages_of shape paper card mets)).state
    pub rules-are : (card_after shape paper card mets).rules ≡ (converse (sitting_of card log) (messages_of shape paper card mets)).rules
    pub rooms-are : (card_after shape paper card mets).rooms ≡ rooms_over (sitting_of card log) (messages_of shape paper card mets) card.rooms
    pub answers-are : answers_to shape paper card mets ≡ answers_over (sitting_of card log) (messages_of shape paper card mets)

  all : (mets : List Met) (card : Card) (log : List Exchange) → all_read shape mets ≡ true → Singly card mets log
  unfolding all_read card_after answers_to messages_of answers_over converse rooms_over
  all [] card log read = record { state-is = refl; rules-are = refl; rooms-are = refl; answers-are = refl }
  all (met ∷ more) card log read =
      let can = both (can_be_read shape met.kind (length met.body)) (all_read shape more) read in
      let behind = card_behind shape paper card met in
      let message = sent_by shape paper card.state met in
      let answer = (message_step card.rules card.state message).answer in
      let rest = all more behind (record { command = message; answer = answer } ∷ log) can.1 in
      let then = sym (told_is card met can.0 log) in
      let messages = messages_of shape paper behind more in
      record {
        state-is = rest.state-is ∙ ap (λ sitting. (converse sitting messages).state) then;
        rules-are = rest.rules-are ∙ ap (λ sitting. (converse sitting messages).rules) then;
        rooms-are =
            rest.rooms-are ∙ ap (λ sitting. rooms_over sitting messages behind.rooms) then
            ∙ ap (rooms_over (told (sitting_of card log) message) messages) (sym (rooms-are card met can.0 log));
        answers-are =
            ap (λ first. first ++ answers_to shape paper behind more) (answer-is card met can.0 log)
            ∙ ap (λ others. spelled answer ++ others) (rest.answers-are ∙ ap (λ sitting. answers_over sitting messages) then);
      }

  -- A RUN that is carried out: its answers stand in front in the room
  pub answers-there : (card : Card) (records room : List ℕ) (n : ℕ) → ruled_run shape records (length room) ≡ Ok n
      → take (36 * n) (room_run shape paper card records room) ≡ answers_to shape paper card (records_in records)
  answers-there card records room n done =
      let is = done-is shape records (length room) n done in
      let answers = answers_to shape paper card (records_in records) in
      let long = answers-size shape paper card (records_in records) (parts shape paper records is.0).1 in
      let to : 36 * n ≡ length answers = omega (arith, is.2, long) in
      ap (take (36 * n)) (placed shape paper card records room is.0 is.1)
      ∙ ap (λ (k : ℕ). take k (answers ++ drop (size * length (records_in records)) room)) to
      ∙ take-append_seam answers (drop (size * length (records_in records)) room)

  pub as_singly : (card : Card) (records room : List ℕ) (n : ℕ) → ruled_run shape records (length room) ≡ Ok n →
      let messages = messages_of shape paper card (records_in records) in
      let then = converse (seated card) messages in
      let left = card_run shape paper card records (length room) in
      (left.state ≡ then.state) × (left.rules ≡ then.rules) × (left.rooms ≡ rooms_over (seated card) messages card.rooms)
      × (take (36 * n) (room_run shape paper card records room) ≡ answers_over (seated card) messages)
  as_singly card records room n done =
      let is = done-is shape records (length room) n done in
      let read = (parts shape paper records is.0).1 in
      let singly = all (records_in records) card [] read in
      let left = after shape paper card records (length room) is.0 is.1 in (
        ap (λ c. c.state) left ∙ singly.state-is,
        ap (λ c. c.rules) left ∙ singly.rules-are,
        ap (λ c. c.rooms) left ∙ singly.rooms-are,
        answers-there card records room n done ∙ singly.answers-are,
      )
