use borrow.Author.Rules.{rules}
use mathlib.Core.Path.{sym, ◌∙◌}
use Rattle.slot.specs.Slot.{slot_value}
use Rattle.block.proofs.Facts.{to-four}
use Rattle.slot.proofs.slot_value.Goals as goal

pub value_of-value-requires : goal.value_of-value-requires
value_of-value-requires c = rw c.slot_of-slot.ensures (to-four _)

pub returns-then-adds_transaction : goal.returns-then-adds_transaction
unfolding slot_value
returns-then-adds_transaction c =
    let adds = c in
    let value = adds in
    let check = value in
    rw (← check.check_type-check.ensures)
    (simp (
      sym adds.adds_transaction.ensures ∙ c.if-adds_transaction.true,
      c.with_transaction.ensures,
      c.byte_at.ensures,
      value.value_of-value.ensures,
      value.slot_of-slot.ensures,
    ))

pub returns : goal.returns
unfolding slot_value
returns c =
    let value = c in
    rw (← value.check_type-check.ensures)
    (simp (sym c.adds_transaction.ensures ∙ c.if-adds_transaction.false, value.value_of-value.ensures, value.slot_of-slot.ensures))
