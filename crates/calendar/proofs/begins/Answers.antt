use borrow.Author.Rules.{rules}
use Rattle.calendar.specs.Calendar.{begins}
use Rattle.calendar.proofs.begins.Goals as goal

pub returns-then-is_before : goal.returns-then-is_before
unfolding begins
returns-then-is_before c =
    simp (
      c.cycle_of-then-is_before.ensures,
      c.cycle_of.ensures,
      ← c.is_before.ensures,
      c.if-is_before.true,
    )

pub returns-else-is_before : goal.returns-else-is_before
unfolding begins
returns-else-is_before c = simp (← c.is_before.ensures, c.if-is_before.false)
