-- What becomes of the cells at the set-up and at a record. Assumes nothing.
use mathlib.Core.Path.{◌≡◌, refl, sym, ap, ◌∙◌}
use mathlib.Core.List.{List, [], ◌∷◌}
use Prim.Native.Nat.{ℕ}
use native.Mathlib.Omega.{arith}
use Rattle.rules.specs.Rules.{Rules, rules_of}
use Rattle.rooms.specs.Rooms.{filled}
use Rattle.shape.specs.declared.Shape.{Shape}
use Rattle.script.specs.Script.{rules_after}
use Rattle.state.specs.declared.State.{State}
use Rattle.begun.specs.declared.Begun.{Begun}
use Rattle.records.specs.declared.Taken.{Taken}
use Rattle.records.specs.declared.Event.{Event}
use Rattle.records.specs.declared.Event.TheVariants.{SetUp, End, Refused, Answered}
use Rattle.records.specs.Records.{record_taken, record_writes}
use Rattle.conversation.specs.Conversation.{taken_of, taken_writes}
use Rattle.opening.specs.Opening.{begun_of, words_begun}
use Rattle.keeper.specs.Keeper.{rooms_after, rooms_recorded, rooms_taken, set_up_rooms, rooms_begun}

module _ (words rooms paper : List ℕ) {begun : Begun} (is : begun ≡ begun_of paper) where
  pub at_set_up : {words' : List ℕ} → words' ≡ words_begun words paper → begun.event ≡ SetUp
      → filled (rules_of words') begun.state.values rooms ≡ rooms_begun words rooms paper
  unfolding rooms_begun
  at_set_up w e = let event = ap (λ b. b.event) (sym is) ∙ e in rw (w, is, event)

  pub refused : (begun.event ≡ SetUp → ⊥) → rooms ≡ rooms_begun words rooms paper
  unfolding rooms_begun
  refused k = by (begun_of paper).event (rw is at k) where
    by : (event : Event) → (event ≡ SetUp → ⊥)
        → rooms ≡ set_up_rooms (rules_of (words_begun words paper)) (begun_of paper).state.values event rooms
    by SetUp k = absurd (k refl)
    by End k = refl
    by (Refused refusal) k = refl
    by (Answered said answer) k = refl

pub recorded : (rules : Rules) (shape : Shape) (state : State) (paper : List ℕ) (kind : ℕ) (body : List ℕ) (end : ℕ) (rooms : List ℕ)
    {taken : Taken} {rules' : Rules}
    → taken ≡ record_taken rules shape state paper kind body end → rules' ≡ rules_after rules (record_writes shape state kind body)
    → rooms_after rules' state.values taken.state.values taken.event rooms ≡ rooms_recorded rules shape state paper kind body end rooms
unfolding rooms_recorded
recorded rules shape state paper kind body end rooms t r = rw (t, r)

pub at_record : (rules : Rules) (shape : Shape) (state : State) (paper : List ℕ) (at : ℕ) (rooms : List ℕ) {taken : Taken} {rules' : Rules}
    → taken ≡ taken_of rules shape state paper at → rules' ≡ rules_after rules (taken_writes shape state paper at)
    → rooms_after rules' state.values taken.state.values taken.event rooms ≡ rooms_taken rules shape state paper at rooms
unfolding rooms_taken
at_record rules shape state paper at rooms t r = rw (t, r)
