use borrow.Author.Rules.{rules}
use mathlib.Core.Path.{ap, ◌∙◌}
use Rattle.sales.specs.Sales.{command_sale, sale_by}
use Rattle.sales.proofs.sale_by.Goals as goal

pub returns-in-Command : goal.returns-in-Command
unfolding sale_by
returns-in-Command c =
    let told = c in
    simp (told.in-Command.is, ← c.is_given.ensures) c.command_sale.ensures

pub returns-in-Script : goal.returns-in-Script
unfolding sale_by
returns-in-Script c = simp c.in-Script.is
