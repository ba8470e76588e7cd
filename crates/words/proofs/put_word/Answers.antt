use mathlib.Core.Path.{◌≡◌}
use native.Mathlib.Numerals.{add-one}
use native.Mathlib.Omega.{arith}
use lib.ListN.{length}
use lib.Seq.{take-suc, take-length}
use Rattle.words.proofs.Puts.{nothing, next}
use Rattle.words.proofs.put_word.Goals as goal

pub loop-byte-init : goal.loop-byte-init
loop-byte-init c = nothing _ _

pub loop-byte-preserved : goal.loop-byte-preserved
loop-byte-preserved c =
    let word = c.args.word.now in
    let i = c.loop-byte.byte-index in
    rw (add-one i, take-suc word i 0 (omega arith)) (next c.loop-byte.invariant c.put_byte-end.ensures)

pub returns : goal.returns
returns c =
    let word = c.args.word.now in
    let all : c.loop-byte.byte-index ≡ length word = omega arith in
    rw (all, take-length word) at c.loop-byte.invariant
