-- A control of 0 closes its slot to no CVM.
use borrow.Author.Rules.{rules}
use mathlib.Core.Path.{◌≡◌, refl}
use mathlib.Core.Bool.{false}
use Rattle.cpace.specs.declared.Cvm.{Cvm}
use Rattle.cpace.specs.declared.Cvm.TheVariants.{OnlinePin, Signature, NoCvm}
use Rattle.cpace.specs.Cpace.{closes}
use Rattle.purchase.specs.Meter.{is_open}
use Rattle.purchase.proofs.is_open.Goals as goal

none-closed : (cvm : Cvm) → closes 0 cvm ≡ false
none-closed OnlinePin = refl
none-closed Signature = refl
none-closed NoCvm = refl

pub returns-then-control-eq0 : goal.returns-then-control-eq0
unfolding is_open
returns-then-control-eq0 c =
    let read = c in
    simp (← read.control-control.ensures, c.if-control-eq0.true, none-closed read.args.purchase.cvm)

pub returns : goal.returns
unfolding is_open
returns c = simp (c.closes.ensures, c.control-control.ensures)
