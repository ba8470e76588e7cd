use native.Mathlib.Omega.{arith}
use Rattle.ring.specs.Ring.{count_in}
use Rattle.ring.proofs.count.Goals as goal

pub returns : goal.returns
unfolding count_in
returns c =
    let slots = c.slots_of.ensures in
    (simp (c.count_kept.ensures.0, slots.0), omega (arith, c.count_kept.ensures.1, slots.1))
