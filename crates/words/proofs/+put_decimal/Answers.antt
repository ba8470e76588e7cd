use native.Mathlib.Omega.{arith}
use Rattle.words.proofs.Puts.{next}
use Rattle.numerals.proofs.Numerals.{ones, tens}
use Rattle.words.proofs.+put_decimal.Goals as goal

pub returns-then-n-lt10 : goal.returns-then-n-lt10
returns-then-n-lt10 t c = rw (← ones c.args.n c.if-n-lt10.true) c.put_byte.ensures

pub put_decimal-end-requires : goal.put_decimal-end-requires
put_decimal-end-requires t c = (omega arith, tt)

pub returns : goal.returns
returns t c =
    rw (← tens c.args.n c.if-n-lt10.false (omega arith))
    (next c.put_decimal-end.ensures c.put_byte-2.ensures)
