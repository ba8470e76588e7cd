-- The records that are answered are the answers among the events, each with the place of its record. Assumes nothing.
use mathlib.Core.Path.{◌≡◌, refl, sym, ap, ◌∙◌}
use mathlib.Core.Bool.{Bool, true, false, cond}
use mathlib.Core.List.{List, [], ◌∷◌}
use Prim.Native.Nat.{ℕ, zero, suc, ◌+◌, ◌<◌}
use native.Mathlib.Omega.{arith}
use lib.ListN.{length, get_or}
use Rattle.rules.specs.Rules.{Rules}
use Rattle.shape.specs.declared.Shape.{Shape}
use Rattle.paper.specs.declared.Next.{Next}
use Rattle.paper.specs.declared.Next.TheVariants.{Record, Fault, End as PaperEnd}
use Rattle.paper.specs.Paper.{next_at, place_after}
use Rattle.paper.specs.Walk.{part, place_in}
use Rattle.state.specs.declared.Answer.{Answer}
use Rattle.state.specs.declared.Answer.TheVariants.{Done}
use Rattle.state.specs.declared.State.{State}
use Rattle.script.specs.Script.{rules_after}
use Rattle.command.specs.Command.{command_in}
use Rattle.records.specs.declared.Said.{Said}
use Rattle.records.specs.declared.Event.{Event}
use Rattle.records.specs.declared.Event.TheVariants.{SetUp, End, Refused, Answered}
use Rattle.records.specs.Records.{answered_by, scripted_by, is_script}
use Rattle.conversation.specs.Conversation.{next_taken, taken_of, taken_writes}
use Rattle.conversation.specs.Events.{following, events_from}
use Rattle.journal.specs.declared.Heard.{Heard}
use Rattle.journal.specs.declared.Heard.TheVariants.{Other}
use Rattle.journal.specs.Logged.{Seen}
use Rattle.log_laws.specs.Spoken.{heard_of, seen_then, seen_from}
use Rattle.log_laws.proofs.Said.{place-behind}
use Rattle.std.specs.Prelude.{Err, Ok, Result}
use Rattle.command.specs.declared.Command.{Command}
use Rattle.refusal.specs.declared.Refusal.{Refusal}

-- what was said and answered: among events, and among records
abbrev pub exchanged : List Event → List (Heard × Answer)
exchanged [] = []
exchanged (SetUp ∷ more) = exchanged more
exchanged (End ∷ more) = exchanged more
exchanged (Refused refusal ∷ more) = exchanged more
exchanged (Answered said answer ∷ more) = (heard_of said, answer) ∷ exchanged more

abbrev pub exchanges : List Seen → List (Heard × Answer)
exchanges [] = []
exchanges (seen ∷ more) = (seen.said, seen.answer) ∷ exchanges more

-- before the first
abbrev nobody : Seen
nobody = record { said = Other; at = 0; answer = Done }

module _ (shape : Shape) (paper : List ℕ) where
  then_seen : (at : ℕ) (event : Event) (behind : List Event) (seen : List Seen) → exchanges seen ≡ exchanged behind
      → exchanges (seen_then at event seen) ≡ exchanged (following event behind)
  then_seen at SetUp behind seen e = e
  then_seen at End behind seen e = refl
  then_seen at (Refused refusal) behind seen e = refl
  then_seen at (Answered said answer) behind seen e = ap (λ (more : List (Heard × Answer)). (heard_of said, answer) ∷ more) e

  -- ALL THAT IS ANSWERED, AND NOTHING ELSE
  pub all_seen : (n : ℕ) (rules : Rules) (state : State) (at : ℕ)
      → exchanges (seen_from n rules shape state paper at) ≡ exchanged (events_from n rules shape state paper at)
  unfolding seen_from events_from
  all_seen zero rules state at = refl
  all_seen (suc n) rules state at =
      let taken = taken_of rules shape state paper at in
      let after = rules_after rules (taken_writes shape state paper at) in
      then_seen at taken.event _ _ (all_seen n after taken.state taken.at)

  -- a record is no set-up
  no_set_up : (rules : Rules) (state : State) (at : ℕ) → (taken_of rules shape state paper at).event ≡ SetUp → ⊥
  unfolding taken_of
  no_set_up rules state at = by (next_at paper at) where
    scripted : (body : List ℕ) (end : ℕ) → (scripted_by state body end).event ≡ SetUp → ⊥
    scripted [] end e = (unfold scripted_by in let z : ◌≡◌ {A = ℕ} 0 1 = cc in omega arith)
    scripted (result ∷ template) end e = (unfold scripted_by in let z : ◌≡◌ {A = ℕ} 0 1 = cc in omega arith)

    commanded : (read : Result Command Refusal) (end : ℕ) → (answered_by rules state end read).event ≡ SetUp → ⊥
    commanded (Ok command) end e = (unfold answered_by in let z : ◌≡◌ {A = ℕ} 0 1 = cc in omega arith)
    commanded (Err refusal) end e = (unfold answered_by in let z : ◌≡◌ {A = ℕ} 0 1 = cc in omega arith)

    either : (script : Bool) (kind : ℕ) (body : List ℕ) (end : ℕ)
        → (cond script (scripted_by state body end) (answered_by rules state end (command_in shape state.values paper kind body))).event ≡ SetUp → ⊥
    either true kind body end = scripted body end
    either false kind body end = commanded (command_in shape state.values paper kind body) end

    by : (next : Next) → (next_taken rules shape state paper at next).event ≡ SetUp → ⊥
    by PaperEnd e = let z : ◌≡◌ {A = ℕ} 0 1 = cc in omega arith
    by Fault e = let z : ◌≡◌ {A = ℕ} 0 1 = cc in omega arith
    by (Record kind start end) e = either (is_script shape kind) kind (part paper start end) end e

  then_place : (at next : ℕ) (event : Event) (seen : List Seen) (k : ℕ)
      → ((said : Said) (answer : Answer) → event ≡ Answered said answer → place_after paper at ≡ next)
      → (event ≡ SetUp → ⊥)
      → ((j : ℕ) → j < length seen → (get_or seen j nobody).at ≡ place_in j paper next + 3)
      → k < length (seen_then at event seen) → (get_or (seen_then at event seen) k nobody).at ≡ place_in k paper at + 3
  unfolding place_in
  then_place at next SetUp seen k place other then h = absurd (other refl)
  then_place at next End seen k place other then h = absurd (omega arith)
  then_place at next (Refused refusal) seen k place other then h = absurd (omega arith)
  then_place at next (Answered said answer) seen zero place other then h = refl
  then_place at next (Answered said answer) seen (suc k) place other then h =
      then k (omega arith) ∙ ap (λ (p : ℕ). place_in k paper p + 3) (sym (place said answer refl))

  -- THE k-TH WHERE THE k-TH RECORD STANDS, its body behind its length and its kind
  pub seen-place : (n : ℕ) (rules : Rules) (state : State) (at k : ℕ) → k < length (seen_from n rules shape state paper at)
      → (get_or (seen_from n rules shape state paper at) k nobody).at ≡ place_in k paper at + 3
  unfolding seen_from
  seen-place zero rules state at k h = absurd (omega arith)
  seen-place (suc n) rules state at k h =
      let taken = taken_of rules shape state paper at in
      let after = rules_after rules (taken_writes shape state paper at) in
      then_place at taken.at taken.event _ k (place-behind rules shape state paper at) (no_set_up rules state at)
      (seen-place n after taken.state taken.at) h
