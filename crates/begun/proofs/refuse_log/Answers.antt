use borrow.Author.Rules.{rules}
use mathlib.Core.Path.{sym, ◌∙◌}
use Rattle.begun.specs.Begun.{past_begun}
use Rattle.begun.proofs.refuse_log.Goals as goal

pub returns-then-is_accepted : goal.returns-then-is_accepted
unfolding past_begun
returns-then-is_accepted c = simp (c.refuse.ensures, sym c.is_accepted.ensures ∙ c.if-is_accepted.true)

pub returns : goal.returns
unfolding past_begun
returns c = simp (c.refuse-2.ensures, sym c.is_accepted.ensures ∙ c.if-is_accepted.false)
