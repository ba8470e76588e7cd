use borrow.Author.Rules.{rules}
use Rattle.cryptogram.specs.Cryptogram.{limits_byte}
use Rattle.cryptogram.proofs.limits_of.Goals as goal

pub returns : goal.returns
unfolding limits_byte
returns c =
    let fourth = c in
    let third = fourth in
    let second = third in
    let first = second in
    simp (
      c.bit-5.ensures.0,
      c.meets-5.ensures,
      fourth.bit-4.ensures.0,
      fourth.meets-4.ensures,
      third.bit-3.ensures.0,
      third.meets-3.ensures,
      second.bit-2.ensures.0,
      second.meets-2.ensures,
      first.bit.ensures.0,
      first.meets.ensures,
    )
