-- Two fields.
use borrow.Author.Rules.{rules}
use Rattle.text.proofs.Stores.{next}
use Rattle.lines.specs.Lines.{refusal_line}
use Rattle.lines.proofs.store_refusal.Goals as goal

pub returns : goal.returns
unfolding refusal_line
returns c =
    let refusal = c in
    let to_number = refusal in
    let number = to_number in
    next number.put_decimal-at.ensures refusal.put_decimal.ensures
