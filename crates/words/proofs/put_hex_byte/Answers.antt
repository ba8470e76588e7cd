-- The upper digit, then the lower.
use Rattle.words.proofs.Puts.{next}
use Rattle.words.proofs.put_hex_byte.Goals as goal

pub returns : goal.returns
returns c =
    simp (← c.lower_digit.ensures, ← c.upper_digit.ensures) (next c.put_byte-end.ensures c.put_byte.ensures)
