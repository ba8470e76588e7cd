use borrow.Author.Rules.{rules}
use mathlib.Core.Path.{◌≡◌, sym, ◌∙◌}
use Prim.Native.Nat.{◌≤◌}
use native.Mathlib.Omega.{arith}
use lib.ListN.{length, length-map}
use lib.Seq.{set_out}
use Rattle.writes.specs.Writes.{value_in}
use Rattle.writes.proofs.put_value.Goals as goal

pub returns-then-slot-lt4 : goal.returns-then-slot-lt4
unfolding value_in
returns-then-slot-lt4 c = search rules

pub returns-else-slot-lt4 : goal.returns-else-slot-lt4
unfolding value_in
returns-else-slot-lt4 c =
    let a = c.args in
    let out : length a.values.accumulators ≤ a.slot = omega arith in
    simp (set_out a.values.accumulators a.slot a.amount out)
