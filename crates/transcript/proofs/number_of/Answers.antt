use mathlib.Core.Path.{◌≡◌, refl}
use Rattle.refusal.specs.declared.Refusal.{Refusal}
use Rattle.records.specs.declared.Event.{Event}
use Rattle.records.specs.declared.Event.TheVariants.{SetUp, End, Refused, Answered}
use Rattle.transcript.specs.Transcript.{set_up_number}
use Rattle.transcript.proofs.number_of.Goals as goal

not_refused : (event : Event) → ((refusal : Refusal) → event ≡ Refused refusal → ⊥) → 0 ≡ set_up_number event
not_refused SetUp k = refl
not_refused End k = refl
not_refused (Refused refusal) k = absurd (k refusal refl)
not_refused (Answered said answer) k = refl

pub returns-in_default : goal.returns-in_default
returns-in_default c = not_refused c.args.event c.in_default.not-Refused

pub returns : goal.returns
returns c = simp c.in-Refused.is c.number.ensures
