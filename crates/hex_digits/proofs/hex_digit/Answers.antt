use borrow.Author.Rules.{rules}
use Rattle.hex_digits.proofs.Digits.{digit_sum}
use Rattle.hex_digits.proofs.hex_digit.Goals as goal

pub returns : goal.returns
returns c = digit_sum c.args.n c.requires
