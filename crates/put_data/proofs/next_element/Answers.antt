use mathlib.Core.Path.{◌≡◌, refl, sym, ◌∙◌}
use Prim.Native.Nat.{◌-◌}
use lib.ListN.{length}
use borrow.Author.Rules.{rules}
use Rattle.put_data.specs.PutData.{next_in}
use Rattle.put_data.proofs.Laws.{next-end, next-filler, next_here}
use Rattle.put_data.proofs.next_element.Goals as goal

pub returns-then-list-at-ne0 : goal.returns-then-list-at-ne0
returns-then-list-at-ne0 c =
    c.element_at.ensures ∙ sym (c.loop-at.invariant ∙ next_here _ _ _ c.loop-at-test.true c.if-list-at-ne0.true)

pub loop-at-preserved : goal.loop-at-preserved
loop-at-preserved c = let turn = c in turn.loop-at.invariant ∙ next-filler _ _ _ turn.loop-at-test.true c.if-list-at-ne0.false

pub returns : goal.returns
returns c = sym (c.loop-at.invariant ∙ next-end _ _ _ c.loop-at-test.false)
