-- Four bytes of the slice, or a number that its end cuts.
use borrow.Author.Rules.{rules}
use borrow.Author.Tests.{leb-true, leb-false}
use mathlib.Core.Path.{sym, ◌∙◌}
use Rattle.wire.proofs.u32_at.Goals as goal

pub four_in-requires : goal.four_in-requires
four_in-requires c = leb-true _ _ (sym c.holds.ensures ∙ c.if-holds.true)

pub cut_number-requires : goal.cut_number-requires
cut_number-requires c = (leb-false _ _ (sym c.holds.ensures ∙ c.if-holds.false), search rules)

pub returns : goal.returns
returns c = c.cut_number.ensures.0
