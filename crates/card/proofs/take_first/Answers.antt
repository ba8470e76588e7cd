use borrow.Author.Rules.{rules}
use borrow.Author.Tests.{lt-ltb, le-ltb}
use mathlib.Core.Path.{sym, ◌∙◌}
use mathlib.Core.Bool.{◌&&◌}
use lib.Dec.{leb}
use Rattle.money.specs.Money.{max}
use Rattle.card.specs.Card.{first_taken}
use Rattle.card.proofs.take_first.Goals as goal

pub returns-then-first-gt2 : goal.returns-then-first-gt2
unfolding first_taken
returns-then-first-gt2 c = simp (lt-ltb _ _ c.if-first-gt2.true, c.refuse.ensures)

pub returns-then-not-in_range : goal.returns-then-not-in_range
unfolding first_taken
returns-then-not-in_range c =
    let tested = c in
    let typed = tested in
    let in_range_lem = leb typed.args.first.amount.0 max && tested.is_currency.result in
    simp (
      le-ltb _ _ typed.if-first-gt2.false,
      simp tested.is_currency.ensures at (c.if-not-in_range.true),
      c.refuse-then-not-in_range.ensures,
    )

pub returns-then-not-is_dated : goal.returns-then-not-is_dated
unfolding first_taken
returns-then-not-is_dated c =
    let dated = c in
    let tested = dated in
    let typed = tested in
    let in_range_lem = leb typed.args.first.amount.0 max && tested.is_currency.result in
    simp (
      le-ltb _ _ typed.if-first-gt2.false,
      simp tested.is_currency.ensures at (dated.if-not-in_range.false),
      sym dated.is_dated.ensures ∙ c.if-not-is_dated.true,
      c.refuse-then-not-is_dated.ensures,
    )

pub returns : goal.returns
unfolding first_taken
returns c =
    let dated = c in
    let tested = dated in
    let typed = tested in
    let in_range_lem = leb typed.args.first.amount.0 max && tested.is_currency.result in
    simp (
      le-ltb _ _ typed.if-first-gt2.false,
      simp tested.is_currency.ensures at (dated.if-not-in_range.false),
      sym dated.is_dated.ensures ∙ c.if-not-is_dated.false,
      c.perform.ensures,
    )
