use native.Mathlib.Omega.{arith}
use Rattle.numerals.proofs.Numerals.{one-long, one_longer, one-digit, one_more_lem}
use Rattle.numerals.proofs.+put_digits.Goals as goal

pub put_digit-requires : goal.put_digit-requires
put_digit-requires t c =
    let size = one-long c.args.n c.if-n-lt10.true in
    (omega (arith, c.requires), omega arith)

pub returns-then-n-lt10 : goal.returns-then-n-lt10
returns-then-n-lt10 t c = one-digit _ c.if-n-lt10.true c.put_digit.ensures

pub put_digits-at-requires : goal.put_digits-at-requires
put_digits-at-requires t c =
    let size = one_longer c.args.n c.if-n-lt10.false (omega arith) in
    (omega arith, omega (arith, c.requires))

pub put_digit-requires-2 : goal.put_digit-requires-2
put_digit-requires-2 t c =
    let size = one_longer c.args.n c.if-n-lt10.false (omega arith) in
    (omega (arith, c.requires, c.put_digits-at.ensures.behind), omega arith)

pub returns : goal.returns
returns t c = one_more_lem _ c.if-n-lt10.false (omega arith) c.put_digits-at.ensures c.put_digit-2.ensures
