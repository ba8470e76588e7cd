use mathlib.Core.Path.{ap}
use Prim.Native.Nat.{ℕ}
use native.Mathlib.Nat.{add_comm}
use lib.ListN.{length}
use Rattle.choice.proofs.Tests.{both}
use Rattle.paper_log.proofs.tail_at.Goals as goal

pub slice_bounds-result-count : goal.slice_bounds-result-count
slice_bounds-result-count c =
    let a = c.args in
    (both a.start a.end a.end (length a.paper.now) c.if-start-end.true).0

pub slice_bounds-result-end : goal.slice_bounds-result-end
slice_bounds-result-end c =
    let a = c.args in
    (both a.start a.end a.end (length a.paper.now) c.if-start-end.true).1

pub returns-then-start-end : goal.returns-then-start-end
returns-then-start-end c =
    let a = c.args in
    let inside = c.if-start-end.true in
    (simp inside, simp inside (ap (λ (k : ℕ). (a.paper.ref_ptr.0, k)) (add_comm a.start a.paper.ref_ptr.1)))

pub returns : goal.returns
returns c = (simp c.if-start-end.false, simp c.if-start-end.false)
