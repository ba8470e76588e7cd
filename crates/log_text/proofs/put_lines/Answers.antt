use borrow.Author.Rules.{rules}
use mathlib.Core.Path.{◌≡◌, refl}
use native.Mathlib.Numerals.{add-one}
use native.Mathlib.Omega.{arith}
use Rattle.text.specs.Text.{joined}
use Rattle.text.proofs.Stores.{next, within}
use Rattle.ring.specs.Ring.{count_in}
use Rattle.log_text.specs.LogText.{lines_up_to}
use Rattle.log_text.proofs.Stores.{line-behind}
use Rattle.log_text.proofs.put_lines.Goals as goal

pub loop-i-init : goal.loop-i-init
unfolding lines_up_to joined
loop-i-init c =
    (record { is = refl; behind = omega arith; short = omega arith }, omega arith, c.count-i-end.ensures.1, c.count-i-end.ensures.0, refl)

pub overflow_add-k : goal.overflow_add-k
overflow_add-k c = omega (arith, c.loop-i-test.true, c.loop-i.invariant.2)

pub overflow_cast-k : goal.overflow_cast-k
overflow_cast-k c = omega (arith, c.loop-i-test.true, c.loop-i.invariant.2)

pub put_found-end-requires : goal.put_found-end-requires
put_found-end-requires c =
    let test = c in
    let loop = test.loop-i.invariant in
    let known = test in
    omega (arith, test.loop-i-test.true, loop.0.short, loop.2, loop.4, known.requires)

pub loop-i-preserved : goal.loop-i-preserved
unfolding lines_up_to
loop-i-preserved c =
    let put = c in
    let found = put in
    let test = found in
    let loop = test.loop-i.invariant in
    let more = next loop.0 put.put_found-end.ensures in (
      rw (add-one, line-behind, ← found.find-found.ensures) (within more (omega arith)),
      omega (arith, test.loop-i-test.true),
      loop.2,
      loop.3,
      search rules,
    )

pub returns : goal.returns
returns c =
    let loop = c.loop-i in
    let counted = c in
    let known = counted in
    let a = known.args in
    let all : loop.i ≡ count_in a.ring.now a.size = omega (arith, c.loop-i-test.false, loop.invariant.1, loop.invariant.3) in
    rw (← all) (within loop.invariant.0 (omega (arith, loop.invariant.1, loop.invariant.2)))
