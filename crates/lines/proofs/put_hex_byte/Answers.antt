-- The upper digit, then the lower.
use borrow.Author.Rules.{rules}
use Rattle.text.proofs.Stores.{next}
use Rattle.lines.proofs.put_hex_byte.Goals as goal

pub returns : goal.returns
returns c =
    let low = c in
    let digit = low in
    let to_high = digit in
    let high = to_high in
    simp (← digit.lower_digit.ensures, ← high.upper_digit.ensures) (next high.put_byte-at.ensures low.put_byte.ensures)
