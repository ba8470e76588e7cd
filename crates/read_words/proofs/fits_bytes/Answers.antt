use borrow.Author.Rules.{rules}
use mathlib.Core.Path.{◌≡◌, sym, ap, ◌∙◌}
use Prim.Native.Nat.{◌-◌, ◌^◌}
use native.Mathlib.Omega.{arith}
use lib.Dec.{ltb}
use Rattle.read_words.proofs.Laws.{fits-less, fits-none}
use Rattle.read_words.proofs.fits_bytes.Goals as goal

pub loop-init : goal.loop-init
loop-init c =
    let a = c.args in
    let all : a.count ≡ a.count - 0 = omega arith in
    (ap (λ k. ltb a.n (256 ^ k)) all, search rules)

pub loop-preserved : goal.loop-preserved
loop-preserved c =
    (c.loop.invariant.0 ∙ fits-less c.loop.left _ c.loop.counter c.loop-test.true, search rules)

pub returns : goal.returns
returns c =
    sym (c.loop.invariant.0 ∙ fits-none c.loop.left _ c.loop.counter c.loop-test.false)
