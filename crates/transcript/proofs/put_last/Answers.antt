use mathlib.Core.List.{[]}
use mathlib.Core.Path.{◌≡◌, refl, ◌∙◌}
use native.Mathlib.Omega.{arith}
use Prim.Native.Nat.{ℕ}
use Rattle.refusal.specs.declared.Refusal.{Refusal}
use Rattle.records.specs.declared.Event.{Event}
use Rattle.records.specs.declared.Event.TheVariants.{SetUp, End, Refused, Answered}
use Rattle.transcript.specs.Transcript.{last_line}
use Rattle.lines.proofs.Placed.{behind-is, placed-is}
use Rattle.lines.proofs.Short.{refusal_short}
use Rattle.transcript.proofs.put_last.Goals as goal

none : (number : ℕ) (event : Event) → ((refusal : Refusal) → event ≡ Refused refusal → ⊥) → last_line number event ≡ []
none number SetUp k = refl
none number End k = refl
none number (Refused refusal) k = absurd (k refusal refl)
none number (Answered command answer) k = refl

pub returns-in_default : goal.returns-in_default
returns-in_default c =
    let a = c.args in
    let e = none a.number a.event c.in_default.not-Refused in
    (simp e (omega arith), simp e)

pub returns : goal.returns
returns c =
    let put = c in
    let number = put in
    let told = number in
    let start = told in
    let a = start.args in
    let short = refusal_short a.number number.number.result in
    let e = told.in-Refused.is in (
      rw (e, ← number.number.ensures) (put.put_refusal.ensures.0 ∙ behind-is _ _ _ start.requires),
      rw (e, ← number.number.ensures) (put.put_refusal.ensures.1 ∙ placed-is _ _ _ start.requires (omega arith)),
    )
