use borrow.Author.Rules.{rules}
use mathlib.Core.Path.{◌≡◌}
use Prim.Native.Nat.{◌+◌, ◌*◌, ◌^◌}
use Rattle.wire.specs.Wire.{number}
use Rattle.wire.proofs.Numbers.{past, split}
use Rattle.cpace.specs.Cpace.{cashback_at}
use Rattle.cpace.proofs.has_cashback.Goals as goal

pub returns-then-s-at : goal.returns-then-s-at
unfolding cashback_at
returns-then-s-at c =
    let a = c.args in
    simp (past a.s.now a.at 6 c.if-s-at.true)

-- the first two bytes, then the four behind them
pub returns : goal.returns
unfolding cashback_at
returns c =
    let tested = c in
    let a = tested.args in
    simp (c.u32_at.ensures, c.u16_at.ensures, split a.s.now a.at 2 4)
