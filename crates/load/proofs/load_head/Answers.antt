use borrow.Author.Rules.{rules}
use Rattle.load.specs.Load.{head_words}
use Rattle.load.proofs.load_head.Goals as goal

pub returns : goal.returns
unfolding head_words
returns c =
    let currency = c in
    let key = currency in
    simp (
      c.u16_at-4.ensures,
      c.u16_at-3.ensures,
      c.u16_at-2.ensures,
      currency.u16_at.ensures,
      currency.byte_at-3.ensures,
      currency.byte_at-2.ensures,
      key.byte_at.ensures,
    )
