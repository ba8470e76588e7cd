use borrow.Author.Rules.{rules}
use mathlib.Core.Path.{◌≡◌, refl, ap, ◌∙◌}
use mathlib.Core.List.{List, [], ◌∷◌}
use Prim.Native.Nat.{ℕ}
use native.Mathlib.Omega.{arith}
use Rattle.refusal.specs.declared.Refusal.{Refusal}
use Rattle.records.specs.declared.Event.{Event}
use Rattle.records.specs.declared.Event.TheVariants.{SetUp, End, Refused, Answered}
use Rattle.sheet.specs.Sheet.{refusal_counted}
use Rattle.tallies.specs.Tallies.{all_tallied}
use Rattle.class_sheet.specs.ClassSheet.{end_tallies}
use Rattle.class_sheet.proofs.take_end.Goals as goal

not_refused : (sheet : List ℕ) (event : Event) → ((refusal : Refusal) → event ≡ Refused refusal → ⊥) → sheet ≡ all_tallied sheet (end_tallies event)
unfolding all_tallied
not_refused sheet SetUp k = refl
not_refused sheet End k = refl
not_refused sheet (Refused refusal) k = absurd (k refusal refl)
not_refused sheet (Answered said answer) k = refl

pub returns-in_default : goal.returns-in_default
returns-in_default c = let a = c.args in not_refused a.sheet.now a.event c.in_default.not-Refused

pub returns : goal.returns
unfolding all_tallied
returns c = simp c.in-Refused.is cc
