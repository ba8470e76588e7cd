use borrow.Author.Rules.{rules}
use mathlib.Core.Path.{sym, ◌∙◌}
use Rattle.slot.specs.Slot.{slot_passes}
use Rattle.slot.proofs.passes.Goals as goal

pub returns-then-asks_greater : goal.returns-then-asks_greater
unfolding slot_passes
returns-then-asks_greater c =
    let block = c in
    let value = block in
    rw (← value.check_type-check.ensures)
    (simp (
      sym c.asks_greater.ensures ∙ c.if-asks_greater.true,
      block.block_value-block.ensures,
      block.slot_of.ensures,
      value.slot_value-value.ensures,
    ))

pub returns-else-asks_greater : goal.returns-else-asks_greater
unfolding slot_passes
returns-else-asks_greater c =
    let block = c in
    let value = block in
    rw (← value.check_type-check.ensures)
    (simp (
      sym c.asks_greater.ensures ∙ c.if-asks_greater.false,
      block.block_value-block.ensures,
      block.slot_of.ensures,
      value.slot_value-value.ensures,
    ))
