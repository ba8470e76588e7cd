use lib.ListN.{get_or-eq_default}
use mathlib.Core.Path.{sym}
use native.Mathlib.Omega.{arith}
use borrow.Author.Rules.{rules}
use Rattle.cells.proofs.cell_behind.Goals as goal

pub returns-then-cells-at : goal.returns-then-cells-at
returns-then-cells-at c = sym (get_or-eq_default c.args.cells.now 0 (omega (arith, c.if-cells-at.true)))
