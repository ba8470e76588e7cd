-- A ruling, then a performance (document 01, "Refusal numbers").
use Rattle.refusal.specs.declared.Refusal.{Refusal}
use Rattle.state.specs.declared.State.{State}
use Rattle.state.specs.declared.Answer.TheVariants.{Refused}
use Rattle.state.specs.declared.Outcome.{Outcome}

-- a command is refused, or taken with what it goes on with
pub data Ruling (A : Type 0) : Type 0 where
  refuse : Refusal → Ruling A
  take : A → Ruling A

-- a refusal returns its number only and changes no state
abbrev pub refused : State → Refusal → Outcome
refused state refusal = record { state = state; answer = Refused refusal }

abbrev pub carried : {A : Type 0} → State → (A → Outcome) → Ruling A → Outcome
carried state perform (refuse refusal) = refused state refusal
carried state perform (take what) = perform what
