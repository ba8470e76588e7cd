use mathlib.Core.Path.{refl, sym, ap, ◌∙◌}
use Prim.Native.Nat.{◌+◌}
use native.Mathlib.Omega.{arith}
use lib.ListN.{length}
use lib.Seq.{sets}
use Rattle.transcript.proofs.Going.{go_on, falls, last-is, over}
use Rattle.transcript.proofs.put_records.Goals as goal

pub records-init : goal.records-init
records-init c =
    let pre = c.requires in
    record { inside = pre.1; counted = omega (arith, pre.0); fits = pre.3; text = refl; ends = refl; sized = refl; leaves = refl }

pub put_last-requires : goal.put_last-requires
put_last-requires c =
    let take = c in
    let loop = take.records in
    omega (arith, loop.invariant.fits)

pub returns-in_default : goal.returns-in_default
returns-in_default c =
    let put = c in
    let other = put in
    let take = other in
    let test = take in
    let loop = test.records in
    let e = ap (λ t. t.event) (sym take.take-taken.ensures.0) in
    let rest = last-is loop.invariant _ (take.take-taken.ensures.1, take.take-taken.ensures.2) _ test.records-test.true e other.in_default.not-Answered in (
      put.put_last.ensures.0 ∙ ap (λ t. loop.end + length t) (sym rest.line) ∙ loop.invariant.ends,
      put.put_last.ensures.1 ∙ ap (λ t. sets loop.room loop.end t) (sym rest.line) ∙ loop.invariant.text,
      rest.leaves,
    )

pub overflow_add-number : goal.overflow_add-number
overflow_add-number c =
    let put = c in
    let told = put in
    let take = told in
    let loop = take in
    let pre = loop.requires in
    omega (arith, loop.records.invariant.counted, loop.records.invariant.inside, pre.2)

pub records-smaller : goal.records-smaller
records-smaller c =
    let put = c in
    let told = put in
    let take = told in
    let test = take in
    let e = ap (λ t. t.event) (sym take.take-taken.ensures.0) ∙ told.in-Answered.is in
    rw take.take-taken.ensures.0 (falls test.records.invariant _ _ test.records-test.true e)

pub records-preserved : goal.records-preserved
records-preserved c =
    let put = c in
    let told = put in
    let take = told in
    let test = take in
    let e = ap (λ t. t.event) (sym take.take-taken.ensures.0) ∙ told.in-Answered.is in
    rw (put.put_answer-end.ensures.0, put.put_answer-end.ensures.1, take.take-taken.ensures.0)
    (go_on test.records.invariant _ (take.take-taken.ensures.1, take.take-taken.ensures.2) _ _ test.records-test.true e)

pub returns : goal.returns
returns c = over c.records.invariant c.records-test.false
