-- Events that are no script carried out. Assumes nothing.
use mathlib.Core.Path.{◌≡◌, refl}
use mathlib.Core.Bool.{false}
use mathlib.Core.List.{List, [], ◌∷◌}
use mathlib.Core.Logic.{inl, inr}
use types.Run.{OneOf}
use denote.Enum.Declared.{tag_of}
use native.Mathlib.Omega.{arith}
use Rattle.state.specs.declared.Answer.{Answer}
use Rattle.state.specs.declared.Answer.TheVariants.{Refused as AnswerRefused, Started, Given, Done}
use Rattle.state.specs.contracts.Answer as A
use Rattle.records.specs.declared.Said.{Said}
use Rattle.records.specs.declared.Event.{Event}
use Rattle.records.specs.declared.Event.TheVariants.{SetUp, End, Refused, Answered}
use Rattle.records.specs.contracts.Event as E
use Rattle.upkeep.specs.Upkeep.{is_done, is_scripted}

pub not_answered : (event : Event) → OneOf (0 ∷ 1 ∷ 2 ∷ []) (tag_of E.the_type event) → false ≡ is_scripted event
not_answered SetUp k = refl
not_answered End k = refl
not_answered (Refused refusal) k = refl
not_answered (Answered said answer) (inl z) = absurd (omega arith)
not_answered (Answered said answer) (inr (inl z)) = absurd (omega arith)
not_answered (Answered said answer) (inr (inr z)) = absurd (omega arith)

not_done : (answer : Answer) → OneOf (0 ∷ 1 ∷ 2 ∷ []) (tag_of A.the_type answer) → false ≡ is_done answer
not_done (AnswerRefused refusal) k = refl
not_done (Started atc visits) k = refl
not_done (Given kind atc iad) k = refl
not_done Done (inl z) = absurd (omega arith)
not_done Done (inr (inl z)) = absurd (omega arith)
not_done Done (inr (inr z)) = absurd (omega arith)

pub no_script : {event : Event} {said : Said} {answer : Answer} → event ≡ Answered said answer → OneOf (0 ∷ 1 ∷ 2 ∷ []) (tag_of A.the_type answer)
    → false ≡ is_scripted event
no_script {answer = answer} e k = rw e (not_done answer k)
