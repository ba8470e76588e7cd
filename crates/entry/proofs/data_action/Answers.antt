use mathlib.Core.Path.{sym, ◌∙◌}
use Rattle.entry.proofs.Facts.{has_position}
use Rattle.entry.proofs.data_action.Goals as goal

pub passes_test-requires : goal.passes_test-requires
passes_test-requires c = has_position _ (sym c.is_well_formed.ensures ∙ c.if-not-is_well_formed.false)
