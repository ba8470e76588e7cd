-- "0" is 0 in decimal.
use borrow.Author.Rules.{rules}
use Rattle.text.proofs.Stores.{next}
use Rattle.lines.specs.Lines.{digit, decimal}
use Rattle.lines.proofs.put_done.Goals as goal

pub returns : goal.returns
unfolding decimal digit
returns c =
    let space = c in
    let to-zero = space in
    let zero = to-zero in
    next zero.put_byte-at.ensures space.put_byte.ensures
