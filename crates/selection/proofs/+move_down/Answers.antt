use native.Mathlib.Omega.{arith}
use mathlib.Core.Path.{sym, ◌∙◌}
use Rattle.selection.proofs.Moves.{skip_none, skip_more}
use Rattle.selection.proofs.+move_down.Goals as goal

pub returns-then-entries-eq0 : goal.returns-then-entries-eq0
returns-then-entries-eq0 t c = skip_none _ _ c.if-entries-eq0.true

pub move_down-requires : goal.move_down-requires
move_down-requires t c = (omega arith, tt)

pub returns : goal.returns
returns t c = c.move_down.ensures ∙ rw c.entries_below.ensures (sym (skip_more _ _ c.if-entries-eq0.false))
