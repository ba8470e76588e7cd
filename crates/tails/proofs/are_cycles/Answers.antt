use mathlib.Core.Path.{sym, ◌∙◌}
use Rattle.tails.specs.Tails.{are_cycles}
use borrow.Author.Rules.{rules}
use Rattle.tails.proofs.are_cycles.Goals as goal

pub returns-then-is_empty : goal.returns-then-is_empty
unfolding are_cycles
returns-then-is_empty c = simp (sym c.is_empty.ensures ∙ c.if-is_empty.true)

pub returns : goal.returns
unfolding are_cycles
returns c =
    let rules = c in
    let day = rules in
    simp (
      c.are_cyclic_rules-4.ensures,
      c.are_cyclic_rules-3.ensures,
      c.are_cyclic_rules-2.ensures,
      rules.are_cyclic_rules.ensures,
      rules.is_cycle-2.ensures,
      rules.is_cycle.ensures,
      day.is_day.ensures,
      day.date_at.ensures,
      sym day.is_empty.ensures ∙ day.if-is_empty.false,
    )
