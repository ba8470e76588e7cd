use mathlib.Core.Path.{◌≡◌, refl, sym, ◌∙◌}
use Prim.Native.Nat.{◌-◌}
use lib.ListN.{length}
use borrow.Author.Rules.{rules}
use Rattle.put_data.specs.PutData.{next_in}
use Rattle.put_data.proofs.Laws.{next-end, next-filler, next_here}
use Rattle.put_data.proofs.next_element.Given as goal

abbrev pub invariant-loop-at : goal.invariant-loop-at
invariant-loop-at l = next_in l.object l.list l.from ≡ next_in l.object l.list l.at
