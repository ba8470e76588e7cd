-- Every paper's events are defined: each record that goes on goes further, so the conversation ends, and more records would say no more.
-- Assumes nothing.
use mathlib.Core.Path.{◌≡◌, refl, ap}
use mathlib.Core.Bool.{Bool, true, false, cond}
use mathlib.Core.List.{List, [], ◌∷◌}
use Prim.Native.Nat.{ℕ, zero, suc, ◌+◌, ◌-◌, ◌≤◌, ◌<◌}
use native.Mathlib.Omega.{arith}
use borrow.Author.Tests.{le-leb}
use lib.ListN.{length}
use Rattle.rules.specs.Rules.{Rules, rules_of}
use Rattle.paper.specs.declared.Next.{Next}
use Rattle.paper.specs.declared.Next.TheVariants.{Record, Fault, End as PaperEnd}
use Rattle.paper.specs.Paper.{next_at}
use Rattle.paper.specs.Walk.{part}
use Rattle.paper.proofs.Walk.{inside}
use Rattle.command.specs.declared.Command.{Command}
use Rattle.command.specs.Command.{command_in}
use Rattle.shape.specs.declared.Shape.{Shape}
use Rattle.state.specs.declared.Answer.{Answer}
use Rattle.state.specs.declared.State.{State}
use Rattle.records.specs.declared.Taken.{Taken}
use Rattle.records.specs.declared.Event.{Event}
use Rattle.records.specs.declared.Event.TheVariants.{SetUp, End, Refused, Answered}
use Rattle.script.specs.Script.{rules_after, words_after}
use Rattle.records.specs.Records.{answered_by, scripted_by, is_script}
use Rattle.conversation.specs.Conversation.{next_taken, taken_of, taken_writes}
use Rattle.conversation.specs.Events.{following, events_from, ending, words_from}
use Rattle.std.specs.Prelude.{Err, Ok, Result}
use Rattle.refusal.specs.declared.Refusal.{Refusal}

-- the conversation goes on behind an event
abbrev pub GoesOn : Event → Type 0
GoesOn SetUp = Unit
GoesOn End = ⊥
GoesOn (Refused refusal) = ⊥
GoesOn (Answered said answer) = Unit

module _ (shape : Shape) (paper : List ℕ) where
  record_end : (rules : Rules) (state : State) (end : ℕ) (read : Result Command Refusal) → (answered_by rules state end read).at ≡ end
  unfolding answered_by
  record_end rules state end (Ok command) = refl
  record_end rules state end (Err refusal) = refl

  script-end : (state : State) (body : List ℕ) (end : ℕ) → (scripted_by state body end).at ≡ end
  unfolding scripted_by
  script-end state [] end = refl
  script-end state (result ∷ template) end = refl

  either_end : (b : Bool) (x y : Taken) (end : ℕ) → x.at ≡ end → y.at ≡ end → (cond b x y).at ≡ end
  either_end true x y end e f = e
  either_end false x y end e f = f

  -- a record that goes on goes further, and stays in the paper
  pub further : (rules : Rules) (state : State) (at : ℕ) → GoesOn (taken_of rules shape state paper at).event
      → (at < (taken_of rules shape state paper at).at) × ((taken_of rules shape state paper at).at ≤ length paper)
  unfolding taken_of
  further rules state at = by (next_at paper at) refl where
    by : (n : Next) → next_at paper at ≡ n → GoesOn (next_taken rules shape state paper at n).event
        → (at < (next_taken rules shape state paper at n).at) × ((next_taken rules shape state paper at n).at ≤ length paper)
    by PaperEnd e on = absurd on
    by Fault e on = absurd on
    by (Record kind start end) e on =
        let i = inside paper at kind start end e in
        let grows = i.grows in
        let fits = i.fits in
        let ends : (next_taken rules shape state paper at (Record kind start end)).at ≡ end =
        either_end (is_script shape kind) _ _ end (script-end state (part paper start end) end)
        (record_end rules state end (command_in shape state.values paper kind (part paper start end))) in
        (omega arith, omega arith)

  pub at-end : (rules : Rules) (state : State) (at : ℕ) → length paper ≤ at
      → taken_of rules shape state paper at ≡ record { state = state; at = at; event = End }
  unfolding taken_of next_at
  at-end rules state at h = simp (le-leb (length paper) at h)

  no_writes : (state : State) (at : ℕ) → length paper ≤ at → taken_writes shape state paper at ≡ []
  unfolding taken_writes next_at
  no_writes state at h = simp (le-leb (length paper) at h)

  same-events : (event : Event) (more other : List Event) → (GoesOn event → more ≡ other) → following event more ≡ following event other
  same-events SetUp more other e = ap (λ l. SetUp ∷ l) (e tt)
  same-events End more other e = refl
  same-events (Refused refusal) more other e = refl
  same-events (Answered said answer) more other e = ap (λ l. Answered said answer ∷ l) (e tt)

  -- as many records as there are bytes left say all there is to say
  pub settled : (n m : ℕ) (rules : Rules) (state : State) (at : ℕ) → length paper - at ≤ n → n ≤ m
      → events_from m rules shape state paper at ≡ events_from n rules shape state paper at
  unfolding events_from
  settled zero zero rules state at h l = refl
  settled zero (suc m) rules state at h l = rw (at-end rules state at (omega arith))
  settled (suc n) zero rules state at h l = let z : ⊥ = omega arith in absurd z
  settled (suc n) (suc m) rules state at h l =
      let taken = taken_of rules shape state paper at in
      let then = rules_after rules (taken_writes shape state paper at) in
      same-events taken.event _ _
      (λ on. let f = further rules state at on in settled n m then taken.state taken.at (omega arith) (omega arith))

  -- and so of the words that they leave
  same-words : (event : Event) (here more other : List ℕ) → (GoesOn event → more ≡ other) → ending event here more ≡ ending event here other
  same-words SetUp here more other e = e tt
  same-words End here more other e = refl
  same-words (Refused refusal) here more other e = refl
  same-words (Answered said answer) here more other e = e tt

  pub words-settled : (n m : ℕ) (words : List ℕ) (state : State) (at : ℕ) → length paper - at ≤ n → n ≤ m
      → words_from m words shape state paper at ≡ words_from n words shape state paper at
  unfolding words_from
  words-settled zero zero words state at h l = refl
  words-settled zero (suc m) words state at h l = rw (at-end (rules_of words) state at (omega arith), no_writes state at (omega arith))
  words-settled (suc n) zero words state at h l = let z : ⊥ = omega arith in absurd z
  words-settled (suc n) (suc m) words state at h l =
      let taken = taken_of (rules_of words) shape state paper at in
      let then = words_after words (taken_writes shape state paper at) in
      same-words taken.event then _ _
      (λ on. let f = further (rules_of words) state at on in words-settled n m then taken.state taken.at (omega arith) (omega arith))
