use mathlib.Core.Path.{sym, ◌∙◌}
use Rattle.entry.specs.Entry.{action_taken}
use Rattle.entry.proofs.take_action.Goals as goal

pub returns-then-tests_slot : goal.returns-then-tests_slot
unfolding action_taken
returns-then-tests_slot c = simp (sym c.tests_slot.ensures ∙ c.if-tests_slot.true, c.slot_action.ensures)

pub returns : goal.returns
unfolding action_taken
returns c = simp (sym c.tests_slot.ensures ∙ c.if-tests_slot.false, c.data_action.ensures)
