use Rattle.tails.specs.Tails.{is_cycle}
use borrow.Author.Rules.{rules}
use Rattle.tails.proofs.is_cycle.Goals as goal

pub returns : goal.returns
unfolding is_cycle
returns c =
    let currency = c in
    simp (
      c.byte_at.ensures,
      c.u64_at.ensures,
      currency.is_currency.ensures,
      currency.u16_at.ensures,
      currency.byte_at-kind.ensures,
    )
