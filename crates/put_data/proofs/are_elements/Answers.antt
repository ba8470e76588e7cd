use mathlib.Core.Path.{◌≡◌, refl, sym, ap, ◌∙◌}
use Prim.Native.Nat.{◌-◌}
use native.Mathlib.Omega.{arith}
use lib.ListN.{length, drop}
use borrow.Author.Rules.{rules}
use Rattle.put_data.specs.declared.Next.TheVariants.{End, Fault}
use Rattle.put_data.specs.PutData.{writes_in, is_some}
use Rattle.put_data.proofs.Cursor.{left_by_lem, goes_on_lem}
use Rattle.put_data.proofs.are_elements.Goals as goal

pub loop-end-smaller : goal.loop-end-smaller
loop-end-smaller c =
    let a = c.args in
    let w = (left_by_lem a.object a.list.now c.loop-end.at _ (sym c.next_element.ensures ∙ c.in-Element.is)).within in
    omega (arith, w.0, w.1)

pub loop-end-preserved : goal.loop-end-preserved
loop-end-preserved c =
    let a = c.args in
    c.loop-end.invariant
    ∙ goes_on_lem a.object a.list.now c.loop-end.at _ _ (sym c.next_element.ensures ∙ c.in-Element.is)

pub returns-in-End : goal.returns-in-End
returns-in-End c =
    sym (c.loop-end.invariant ∙ ap is_some (left_by_lem _ _ _ End (sym c.next_element.ensures ∙ c.in-End.is)).is)

pub returns-in-Fault : goal.returns-in-Fault
returns-in-Fault c =
    sym (c.loop-end.invariant ∙ ap is_some (left_by_lem _ _ _ Fault (sym c.next_element.ensures ∙ c.in-Fault.is)).is)
