use mathlib.Core.Path.{◌≡◌, refl}
use native.Mathlib.Nat.{pow-suc}
use native.Mathlib.Numerals.{add-one}
use native.Mathlib.Omega.{arith}
use borrow.Author.Rules.{rules}
use Rattle.digits.specs.Digits.{pairs_value}
use Rattle.digits.proofs.Facts.{small}
use Rattle.digits.proofs.pairs_value.Goals as goal

pub loop-i-init : goal.loop-i-init
unfolding pairs_value
loop-i-init c = (refl, search rules, search rules)

pub overflow_mul-amount : goal.overflow_mul-amount
overflow_mul-amount c = omega (arith, small c.loop-i.i (search rules))

pub overflow_add-amount : goal.overflow_add-amount
overflow_add-amount c = omega (arith, small c.loop-i.i (search rules))

pub loop-i-preserved : goal.loop-i-preserved
unfolding pairs_value
loop-i-preserved c =
    let at-loop = c.loop-i in (
      rw add-one (simp (c.pair_value.ensures, c.byte_at.ensures, at-loop.invariant.0)),
      rw add-one (omega (arith, pow-suc 100 at-loop.i)),
      search rules,
    )

pub returns : goal.returns
returns c = let six : c.loop-i.i ≡ 6 = omega arith in rw six at c.loop-i.invariant.0
