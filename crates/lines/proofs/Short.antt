-- How long a line is: a refusal's, that of an answer without a cryptogram, and that of any answer. Assumes nothing.
use mathlib.Core.Path.{ap}
use mathlib.Core.Bool.{Bool, true, false, cond}
use Prim.Native.Nat.{ℕ, ◌≤◌}
use native.Mathlib.Omega.{arith}
use lib.Dec.{eqb}
use lib.ListN.{length, length-append}
use Rattle.refusal.specs.Refusal.{refusal_number}
use Rattle.state.specs.declared.Answer.{Answer}
use Rattle.state.specs.declared.Answer.TheVariants.{Refused, Started, Given, Done}
use Rattle.state.specs.State.{cid_of}
use Rattle.lines.specs.Lines.{refusal_line, start_line, selected_line, longest}
use Rattle.lines.specs.Sitting.{answer_line}
use Rattle.lines.proofs.Decimal as Decimal
use Rattle.lines.proofs.Laws.{cryptogram-line}

pub refusal_short : (number refusal : ℕ) → length (refusal_line number refusal) ≤ 12
unfolding refusal_line
refusal_short number refusal = simp length-append (omega (arith, Decimal.size number, Decimal.size refusal))

started-short : (number atc visits : ℕ) (b : Bool) → length (cond b (start_line number atc) (selected_line number atc visits)) ≤ 24
unfolding start_line selected_line
started-short number atc visits true =
    simp length-append (omega (arith, Decimal.size number, ap length Decimal.zero, Decimal.size atc))
started-short number atc visits false =
    simp length-append (omega (arith, Decimal.size number, ap length Decimal.zero, Decimal.size atc, Decimal.size visits))

-- no cryptogram
abbrev pub NotGiven : Answer → Type 0
NotGiven (Refused refusal) = Unit
NotGiven (Started atc visits) = Unit
NotGiven (Given kind atc iad) = ⊥
NotGiven Done = Unit

pub not_given_short : (number : ℕ) (answer : Answer) → NotGiven answer → length (answer_line number answer) ≤ 24
unfolding answer_line
not_given_short number (Refused refusal) n = omega (arith, refusal_short number (refusal_number refusal))
not_given_short number (Started atc visits) n = started-short number atc visits (eqb visits 0)
not_given_short number (Given kind atc iad) n = absurd n
not_given_short number Done n = omega (arith, refusal_short number 0)

pub answer-short : (number : ℕ) (answer : Answer) → length (answer_line number answer) ≤ longest
unfolding answer_line
answer-short number (Refused refusal) = omega (arith, refusal_short number (refusal_number refusal))
answer-short number (Started atc visits) = omega (arith, started-short number atc visits (eqb visits 0))
answer-short number (Given kind atc iad) = (cryptogram-line number (cid_of kind) atc iad).short
answer-short number Done = omega (arith, refusal_short number 0)
