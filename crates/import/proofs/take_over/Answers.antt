-- The codes, then the rate, then the MTA.
use Rattle.std.proofs.Common.{arith}
use Rattle.std.proofs.lemmas.Grind.{common_steps}
use mathlib.Core.Path.{sym, ◌∙◌}
use Rattle.import.specs.Import.{take_over}
use Rattle.import.proofs.take_over.Goals as goal

pub returns-then-not-are_currencies : goal.returns-then-not-are_currencies
unfolding take_over
returns-then-not-are_currencies c = simp (sym c.are_currencies.ensures ∙ c.if-not-are_currencies.true)

pub returns-in_err-digits : goal.returns-in_err-digits
unfolding take_over
returns-in_err-digits c = grind (arith, common_steps)

pub returns : goal.returns
unfolding take_over
returns c = grind (arith, common_steps)
