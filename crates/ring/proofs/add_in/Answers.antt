use native.Mathlib.Omega.{arith}
use Rattle.ring.specs.Ring.{added_in}
use Rattle.ring.proofs.add_in.Goals as goal

pub put_record-requires : goal.put_record-requires
put_record-requires c =
    let named = c in
    omega (arith, named.slot_named-slot.ensures.1)

pub returns : goal.returns
unfolding added_in
returns c =
    let kept = c in
    simp (c.put_record.ensures, kept.count_kept-others.ensures.0, kept.slot_named-slot.ensures.0)
