-- An answer's number, and the line of one that has no more. Assumes nothing.
use mathlib.Core.Path.{◌≡◌, refl}
use mathlib.Core.List.{[], ◌∷◌}
use Prim.Native.Nat.{ℕ}
use native.Mathlib.Omega.{arith}
use Rattle.refusal.specs.declared.Refusal.{Refusal}
use Rattle.iad.specs.declared.Iad.{Iad}
use Rattle.state.specs.declared.Kind.{Kind}
use Rattle.state.specs.declared.Answer.{Answer}
use Rattle.state.specs.declared.Answer.TheVariants.{Refused, Started, Given, Done}
use Rattle.card.specs.Card.{answer_number}
use Rattle.lines.specs.Lines.{refusal_line}
use Rattle.lines.specs.Sitting.{answer_line}

-- one that is not refused has none
pub none : (answer : Answer) → ((refusal : Refusal) → answer ≡ Refused refusal → ⊥) → 0 ≡ answer_number answer
none (Refused refusal) k = absurd (k refusal refl)
none (Started atc visits) k = refl
none (Given kind atc iad) k = refl
none Done k = refl

-- a refusal, and a script that is done
pub line-is : (number : ℕ) (answer : Answer) → ((atc visits : ℕ) → answer ≡ Started atc visits → ⊥)
    → ((kind : Kind) (atc : ℕ) (iad : Iad) → answer ≡ Given kind atc iad → ⊥) → answer_line number answer ≡ refusal_line number (answer_number answer)
unfolding answer_line
line-is number (Refused refusal) k l = refl
line-is number (Started atc visits) k l = absurd (k atc visits refl)
line-is number (Given kind atc iad) k l = absurd (l kind atc iad refl)
line-is number Done k l = refl
