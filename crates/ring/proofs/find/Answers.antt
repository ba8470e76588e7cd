use borrow.Author.Tests.{eq-eqb, ne_eqb, lt-ltb, le-ltb}
use native.Mathlib.Omega.{arith}
use Rattle.ring.specs.Ring.{count_in, found}
use Rattle.ring.proofs.find.Goals as goal

pub returns-then-k-eq0 : goal.returns-then-k-eq0
unfolding found
returns-then-k-eq0 c = simp (eq-eqb _ _ c.if-k-eq0.true)

pub returns-then-count_kept-k : goal.returns-then-count_kept-k
unfolding found count_in
returns-then-count_kept-k c =
    let counted = c in
    let sized = counted in
    rw (← sized.slots_of-slots.ensures.0, ← counted.count_kept.ensures.0)
    (simp (ne_eqb _ _ sized.if-k-eq0.false, lt-ltb _ _ c.if-count_kept-k.true))

pub slot_back-requires : goal.slot_back-requires
slot_back-requires c =
    let counted = c in
    let sized = counted in
    (omega arith, omega (arith, counted.count_kept.ensures.1, sized.if-k-eq0.false), sized.slots_of-slots.ensures.1)

pub returns : goal.returns
unfolding found count_in
returns c =
    let named = c in
    let tested = named in
    let counted = tested in
    let sized = counted in
    rw (← sized.slots_of-slots.ensures.0, ← counted.count_kept.ensures.0)
    (simp (
      ne_eqb _ _ sized.if-k-eq0.false,
      le-ltb _ _ tested.if-count_kept-k.false,
      c.record_in.ensures,
      c.slot_back.ensures.0,
      named.slot_named-next.ensures.0,
    ))

pub record_in-requires : goal.record_in-requires
record_in-requires c = omega (arith, c.slot_back.ensures.1)
