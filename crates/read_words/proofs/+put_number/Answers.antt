use native.Mathlib.Omega.{arith}
use Rattle.words.proofs.Puts.{nothing, next}
use Rattle.read_words.proofs.Laws.{no_bytes, bytes-more}
use Rattle.read_words.proofs.+put_number.Goals as goal

pub returns-then-count-eq0 : goal.returns-then-count-eq0
returns-then-count-eq0 t c = rw (no_bytes c.args.count c.args.n c.if-count-eq0.true) (nothing _ _)

pub put_number-end-requires : goal.put_number-end-requires
put_number-end-requires t c = (omega arith, tt)

pub returns : goal.returns
returns t c = rw (bytes-more c.args.count c.args.n c.if-count-eq0.false) (next c.put_number-end.ensures c.put_byte.ensures)
