use borrow.Author.Tests.{le-leb, lt-leb, eq-eqb, ne_eqb}
use mathlib.Core.Path.{ap}
use Prim.Native.Nat.{ℕ, ◌-◌}
use native.Mathlib.Nat.{add-sub_cancel_left, add_comm}
use Rattle.field.specs.Field.{stretch_of, stretch_place}
use Rattle.field.proofs.stretch.Goals as goal

pub returns-then-position-eq0 : goal.returns-then-position-eq0
unfolding stretch_of stretch_place
returns-then-position-eq0 c = let none = eq-eqb _ _ c.if-position-eq0.true in (simp (none), simp (none))

pub returns-then-s-end : goal.returns-then-s-end
unfolding stretch_of stretch_place
returns-then-s-end c =
    let some = ne_eqb _ _ c.if-position-eq0.false in
    let past = lt-leb _ _ c.if-s-end.true in
    (simp (some, past), simp (some, past))

pub returns : goal.returns
unfolding stretch_of stretch_place
returns c =
    let tested = c in
    let a = tested.args in
    let some = ne_eqb _ _ tested.if-position-eq0.false in
    let fits = le-leb _ _ c.if-s-end.false in
    (simp (some, fits, add-sub_cancel_left), simp (some, fits) (ap (λ (k : ℕ). (a.s.ref_ptr.0, k)) (add_comm (a.position - 1) a.s.ref_ptr.1)))
