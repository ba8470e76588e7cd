use borrow.Author.Tests.{eq-eqb, ne_eqb}
use mathlib.Core.Path.{◌≡◌, sym, ◌∙◌}
use mathlib.Core.Bool.{true, false}
use Rattle.money.specs.Money.{is_rate, convert_of}
use Rattle.money.proofs.Power.{stopped-most, rate_bounds}
use Rattle.money.proofs.convert.Goals as goal

pub returns-then-from-to : goal.returns-then-from-to
unfolding convert_of
returns-then-from-to c = simp (eq-eqb _ _ c.if-from-to.true, c.stop-spent.ensures)

pub scale-requires : goal.scale-requires
scale-requires c =
    let rate = c in
    let bounds = rate_bounds rate.rate_for-rate.result (sym c.is_rate.ensures ∙ c.if-is_rate.true) in
    (rw rate.stop-spent.ensures (stopped-most rate.args.amount.0), bounds.0, bounds.1)

pub returns-then-is_rate : goal.returns-then-is_rate
unfolding convert_of
returns-then-is_rate c =
    let test = c in
    let rate = test in
    let good : is_rate rate.rate_for-rate.result ≡ true = sym test.is_rate.ensures ∙ test.if-is_rate.true in
    rw (← rate.rate_for-rate.ensures)
    (simp (ne_eqb _ _ rate.if-from-to.false, good, c.amount_or_over.ensures, c.scale.ensures, rate.stop-spent.ensures))

pub returns-else-is_rate : goal.returns-else-is_rate
unfolding convert_of
returns-else-is_rate c =
    let rate = c in
    let bad : is_rate rate.rate_for-rate.result ≡ false = sym c.is_rate.ensures ∙ c.if-is_rate.false in
    rw (← rate.rate_for-rate.ensures) (simp (ne_eqb _ _ rate.if-from-to.false, bad))
