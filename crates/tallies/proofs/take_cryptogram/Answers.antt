use borrow.Author.Rules.{rules}
use mathlib.Core.Path.{sym, ◌∙◌}
use Rattle.tallies.proofs.Tallies.{approve, count-only}
use Rattle.tallies.proofs.take_cryptogram.Goals as goal

pub returns-then-is_approval : goal.returns-then-is_approval
returns-then-is_approval c =
    let tested = c in
    let asked = tested in
    let counted = asked in
    let number = counted in
    let a = number.args in
    approve a.sheet.now a.offline a.sale a.kind a.profile number.kind_number.ensures counted.count_answer.ensures
    (sym asked.is_approval.ensures ∙ tested.if-is_approval.true) c.add_sale.ensures.0 c.add_sale.ensures.1

pub returns : goal.returns
returns c =
    let asked = c in
    let counted = asked in
    let number = counted in
    let a = number.args in
    count-only a.sheet.now a.offline a.sale a.kind a.profile number.kind_number.ensures counted.count_answer.ensures
    (sym asked.is_approval.ensures ∙ c.if-is_approval.false)
