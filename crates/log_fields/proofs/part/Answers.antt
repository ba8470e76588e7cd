use borrow.Author.Tests.{le-leb, lt-leb}
use mathlib.Core.Path.{sym, ap, ◌∙◌}
use Prim.Native.Nat.{ℕ, ◌-◌}
use native.Mathlib.Nat.{add-sub_cancel_left, add_comm}
use native.Mathlib.Omega.{arith}
use lib.ListN.{length, take, drop, length-drop, drop_of_length-le}
use lib.Seq.{take_all, take-nil}
use Rattle.log_fields.specs.LogFields.{part_of, part_place}
use Rattle.log_fields.proofs.part.Goals as goal

pub returns-then-paper-start : goal.returns-then-paper-start
unfolding part_of part_place
returns-then-paper-start c =
    let a = c.args in
    let none = ap (take a.bytes) (drop_of_length-le a.paper.now {i = a.at} (omega (arith, c.if-paper-start.true))) in
    (sym (none ∙ take-nil a.bytes), simp (lt-leb _ _ c.if-paper-start.true))

pub returns-then-paper-start-2 : goal.returns-then-paper-start-2
unfolding part_of part_place
returns-then-paper-start-2 c =
    let tested = c in
    let a = tested.args in
    let left = drop a.at a.paper.now in
    let size = length-drop a.at a.paper.now in
    let few = take_all a.bytes left (omega (arith, size, c.if-paper-start-2.true)) in
    let bytes = take_all (length a.paper.now - a.at) left (omega (arith, size)) ∙ sym few in
    (bytes, simp (le-leb _ _ tested.if-paper-start.false) (ap (λ (k : ℕ). (a.paper.ref_ptr.0, k)) (add_comm a.at a.paper.ref_ptr.1)))

pub returns : goal.returns
unfolding part_of part_place
returns c =
    let tested = c in
    let a = tested.args in
    (simp (add-sub_cancel_left), simp (le-leb _ _ tested.if-paper-start.false) (ap (λ (k : ℕ). (a.paper.ref_ptr.0, k)) (add_comm a.at a.paper.ref_ptr.1)))
