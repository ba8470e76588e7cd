-- The events of what is spelled from a place on, and their lines: those of the conversation, and at a fault the one of refusal 9. Assumes nothing.
use mathlib.Core.Path.{◌≡◌, refl, sym, ap, subst, ◌∙◌}
use mathlib.Core.Bool.{Bool, true, false, cond}
use mathlib.Core.List.{List, [], ◌∷◌, ◌++◌, append_assoc}
use Prim.Native.Nat.{ℕ, zero, suc, ◌+◌, ◌≤◌}
use native.Mathlib.Nat.{add-zero}
use native.Mathlib.Omega.{arith}
use lib.ListN.{length, drop, length-append}
use Rattle.refusal.specs.declared.Refusal.TheVariants.{Unreadable}
use Rattle.rules.specs.Rules.{Rules}
use Rattle.shape.specs.declared.Shape.{Shape}
use Rattle.paper.specs.Walk.{part}
use Rattle.command.specs.declared.Command.TheVariants.{Start, First, Second}
use Rattle.command.specs.Command.{command_in}
use Rattle.element.specs.declared.Write.{Write}
use Rattle.state.specs.declared.State.{State}
use Rattle.card.specs.Card.{step_of}
use Rattle.card.specs.Message.{message_step, message_writes}
use Rattle.records.specs.declared.Event.{Event}
use Rattle.records.specs.declared.Event.TheVariants.{End, Refused, Answered}
use Rattle.records.specs.declared.Taken.{Taken}
use Rattle.records.specs.Records.{answered_by, scripted_by, is_script, body_writes}
use Rattle.conversation.specs.Conversation.{next_taken, taken_of, next_writes, taken_writes}
use Rattle.conversation.specs.Events.{events_from}
use Rattle.lines.specs.Sitting.{answer_line, lines_of}
use Rattle.spelling.specs.Spelling.{Sent, kind_of, body_of, spell, spell_all, Manner, manner_in, Fits, AllFit}
use Rattle.spelling.specs.Sitting.{Read, sends, refuses, command_read, script_read, Lies, rules_left, stands_at, all_stand_for, said_of, happened, answers}
use Rattle.spelling.specs.Sitting.{Ends, ended, faulty, last_events, last_lines}
use Rattle.spelling.proofs.Numbers.{no_bytes}
use Rattle.spelling.proofs.Shapes.{record_length, shift, next_drop, next-nothing}
use Rattle.spelling.proofs.Records.{Stands, sent-stands, Faulty, at_next, at_record, reads_end, reads_fault, reads_spelled}
use Rattle.std.specs.Prelude.{Err, Ok, Result}
use Rattle.command.specs.declared.Command.{Command}
use Rattle.refusal.specs.declared.Refusal.{Refusal}
use Rattle.spelling.proofs.Records as R

-- ---- a record is taken as it is read, and so it writes

abbrev pub taken_as : Rules → State → (end : ℕ) → Read → Taken
taken_as rules state end (sends m) =
    let outcome = message_step rules state m in
    record { state = outcome.state; at = end; event = Answered (said_of m) outcome.answer }
taken_as rules state end (refuses refusal) = record { state = state; at = end; event = Refused refusal }

abbrev pub writes_as : State → Read → List Write
writes_as state (sends m) = message_writes state m
writes_as state (refuses refusal) = []

module _ (rules : Rules) (state : State) (end : ℕ) where
  command_as : (read : Result Command Refusal)
      → (answered_by rules state end read ≡ taken_as rules state end (command_read read)) × ([] ≡ writes_as state (command_read read))
  unfolding answered_by step_of message_step message_writes
  command_as (Ok (Start start)) = (refl, refl)
  command_as (Ok (First first)) = (refl, refl)
  command_as (Ok (Second second)) = (refl, refl)
  command_as (Err refusal) = (refl, refl)

  script_as : (body : List ℕ)
      → (scripted_by state body end ≡ taken_as rules state end (script_read body)) × (body_writes state body ≡ writes_as state (script_read body))
  unfolding scripted_by body_writes message_step message_writes
  script_as [] = (refl, refl)
  script_as (result ∷ template) = (refl, refl)

  record_as : (b : Bool) (body : List ℕ) (read : Result Command Refusal)
      → (cond b (scripted_by state body end) (answered_by rules state end read) ≡ taken_as rules state end (cond b (script_read body) (command_read read)))
      × (cond b (body_writes state body) [] ≡ writes_as state (cond b (script_read body) (command_read read)))
  record_as true body read = script_as body
  record_as false body read = command_as read

module _ (form : Shape) (s : List ℕ) (lies : Lies form.selecting s) where
  abbrev manner : Manner
  manner = manner_in form s

  -- the rules and the card after what is sent, and what happened
  abbrev left : Rules → State → Sent → Rules
  left rules state x = rules_left rules state (stands_at manner state x)

  abbrev on : Rules → State → Sent → State
  on rules state x = (message_step rules state (stands_at manner state x)).state

  abbrev told : Rules → State → Sent → Event
  told rules state x = Answered (said_of (stands_at manner state x)) (message_step rules state (stands_at manner state x)).answer

  module _ (rules : Rules) (state : State) (at : ℕ) where
    -- A RECORD IS TAKEN AS IT IS READ, AND WRITES SO
    pub taken_as_lem : (read : Read) (end : ℕ) → Stands form state.values s at read end
        → (taken_of rules form state s at ≡ taken_as rules state end read) × (taken_writes form state s at ≡ writes_as state read)
    unfolding taken_of taken_writes
    taken_as_lem read end st =
        let body = part s st.start end in
        let taken = record_as rules state end (is_script form st.kind) body (command_in form state.values s st.kind body) in (
          ap (next_taken rules form state s at) st.next ∙ taken.0 ∙ ap (taken_as rules state end) st.is,
          ap (next_writes form state s) st.next ∙ taken.1 ∙ ap (writes_as state) st.is,
        )

    taken-end : drop at s ≡ [] → (taken_of rules form state s at).event ≡ End
    unfolding taken_of
    taken-end e = rw (next_drop s at ∙ ap (shift at) (next-nothing (drop at s) e))

    taken-faulty : Faulty form state.values s lies at → (taken_of rules form state s at).event ≡ Refused Unreadable
    unfolding taken_of
    taken-faulty (at_next e) = rw e
    taken-faulty (at_record end st) = ap (λ (t : Taken). t.event) (taken_as_lem (refuses Unreadable) end st).0

    at_last : (n : ℕ) (rest : List ℕ) (ends : Ends manner rest) → drop at s ≡ rest → length (drop at s) ≤ n
        → events_from n rules form state s at ≡ last_events ends
    unfolding events_from
    at_last zero rest (ended z) e h = refl
    at_last (suc n) rest (ended z) e h = rw (taken-end (e ∙ z))
    at_last zero rest (faulty f) e h =
        let z : ◌≡◌ {A = ℕ} 0 1 = cc (reads_end form state.values s lies at (no_bytes (drop at s) h), reads_fault form state.values s lies at (rw e f)) in
        absurd (omega arith)
    at_last (suc n) rest (faulty f) e h = rw (taken-faulty (R.faulty form state.values s lies at (rw e f)))

    -- one record that goes on
    one_on : (x : Sent) (n : ℕ) → Fits manner x
        → (rest : List ℕ) → drop at s ≡ spell x ++ rest → length (drop at s) ≤ n
        → (more : List Event)
        → ((m : ℕ) → length rest ≤ m → events_from m (left rules state x) form (on rules state x) s (at + length (spell x)) ≡ more)
        → events_from n rules form state s at ≡ told rules state x ∷ more
    unfolding events_from
    one_on x n h rest e l more then = by n l where
      size : length (drop at s) ≡ 3 + length (body_of x) + length rest
      size = ap length e ∙ length-append (spell x) rest ∙ ap (λ (k : ℕ). k + length rest) (record_length (kind_of x) (body_of x))

      by : (n : ℕ) → length (drop at s) ≤ n → events_from n rules form state s at ≡ told rules state x ∷ more
      by zero l = absurd (omega (arith, size))
      by (suc m) l =
          let taken = taken_as_lem (sends (stands_at manner state x)) (at + length (spell x)) (sent-stands form state.values s lies at x h rest e) in
          rw (taken.0, taken.1) (ap (λ (t : List Event). told rules state x ∷ t) (then m (omega (arith, size))))

  -- ALL EVENTS FROM A PLACE ON
  pub events-spelled : (xs : List Sent) (n : ℕ) (rules : Rules) (state : State) (at : ℕ) → AllFit manner xs
      → (rest : List ℕ) (ends : Ends manner rest) → drop at s ≡ spell_all xs ++ rest → length (drop at s) ≤ n
      → events_from n rules form state s at ≡ happened rules state (all_stand_for rules manner state xs) ++ last_events ends
  unfolding spell_all all_stand_for happened
  events-spelled [] n rules state at fit rest ends e h = at_last rules state at n rest ends e h
  events-spelled (x ∷ xs) n rules state at fit rest ends e h =
      let front : drop at s ≡ spell x ++ (spell_all xs ++ rest) = e ∙ append_assoc (spell x) (spell_all xs) rest in
      let behind = (reads_spelled form state.values s lies at x fit.0 (spell_all xs ++ rest) front).1 in
      let then = left rules state x in
      let card = on rules state x in
      one_on rules state at x n fit.0 (spell_all xs ++ rest) front h (happened then card (all_stand_for then manner card xs) ++ last_events ends)
      (λ m l. events-spelled xs m then card (at + length (spell x)) fit.1 rest ends behind (rw behind l))

  -- and with another word for the manner
  pub events-by : (by : Manner) → manner ≡ by → (xs : List Sent) (n : ℕ) (rules : Rules) (state : State) (at : ℕ) → AllFit by xs
      → (rest : List ℕ) (ends : Ends by rest) → drop at s ≡ spell_all xs ++ rest → length (drop at s) ≤ n
      → events_from n rules form state s at ≡ happened rules state (all_stand_for rules by state xs) ++ last_events ends
  events-by by e =
      subst (λ (c : Manner).
      (xs : List Sent) (n : ℕ) (rules : Rules) (state : State) (at : ℕ) → AllFit c xs
      → (rest : List ℕ) (ends : Ends c rest) → drop at s ≡ spell_all xs ++ rest → length (drop at s) ≤ n
      → events_from n rules form state s at ≡ happened rules state (all_stand_for rules c state xs) ++ last_events ends)
      e events-spelled

-- THEIR LINES
module _ (manner : Manner) (rest : List ℕ) (ends : Ends manner rest) where
  last-lines : (ends : Ends manner rest) (number : ℕ) → lines_of number (last_events ends) ≡ last_lines ends number
  unfolding lines_of
  last-lines (ended z) number = refl
  last-lines (faulty f) number = refl

  pub lines-happened : (xs : List Sent) (rules : Rules) (state : State) (number : ℕ)
      → lines_of number (happened rules state (all_stand_for rules manner state xs) ++ last_events ends)
      ≡ answers rules state number (all_stand_for rules manner state xs) ++ last_lines ends (number + length xs)
  unfolding lines_of all_stand_for happened answers
  lines-happened [] rules state number = last-lines ends number ∙ ap (last_lines ends) (sym (add-zero number))
  lines-happened (x ∷ xs) rules state number =
      let m = stands_at manner state x in
      let heard = message_step rules state m in
      let then = rules_left rules state m in
      let after = heard.state in
      let sum : number + 1 + length xs ≡ number + suc (length xs) = omega arith in
      ap (λ (l : List (List ℕ)). answer_line number heard.answer ∷ l)
      (lines-happened xs then after (number + 1)
      ∙ ap (λ (k : ℕ). answers then after (number + 1) (all_stand_for then manner after xs) ++ last_lines ends k) sum)
