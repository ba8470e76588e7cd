use mathlib.Core.Path.{◌≡◌, refl, sym, ap, ◌∙◌}
use Prim.Native.Nat.{◌-◌}
use native.Mathlib.Omega.{arith}
use lib.ListN.{length, drop}
use borrow.Author.Rules.{rules}
use Rattle.put_data.specs.declared.Next.TheVariants.{End, Fault}
use Rattle.put_data.specs.PutData.{writes_in, is_some}
use Rattle.put_data.proofs.Cursor.{left_by_lem, goes_on_lem}
use Rattle.put_data.proofs.are_elements.Given as goal

abbrev pub invariant-loop-end : goal.invariant-loop-end
invariant-loop-end l = is_some (writes_in l.object l.list) ≡ is_some (writes_in l.object (drop l.at l.list))

abbrev pub decreases-loop-end : goal.decreases-loop-end
decreases-loop-end l = length l.list - l.at
