use mathlib.Core.Path.{sym, ◌∙◌}
use Rattle.tails.specs.Tails.{is_family}
use borrow.Author.Rules.{rules}
use Rattle.tails.proofs.is_family.Goals as goal

pub returns-then-is_empty : goal.returns-then-is_empty
unfolding is_family
returns-then-is_empty c = simp (sym c.is_empty.ensures ∙ c.if-is_empty.true)

pub returns : goal.returns
unfolding is_family
returns c =
    let first = c in
    simp (
      c.is_cashback-4.ensures,
      c.is_cashback-3.ensures,
      c.is_cashback-2.ensures,
      first.is_cashback.ensures,
      first.are_controls.ensures,
      sym first.is_empty.ensures ∙ first.if-is_empty.false,
    )
