use mathlib.Core.Path.{◌≡◌}
use native.Mathlib.Omega.{arith}
use lib.ListN.{length}
use lib.Seq.{take-length}
use Rattle.hex_digits.specs.Hex.{hex}
use Rattle.hex_digits.proofs.Bytes.{hex-more}
use Rattle.words.proofs.Puts.{nothing, next}
use Rattle.words.proofs.put_hex.Goals as goal

pub loop-byte-init : goal.loop-byte-init
unfolding hex
loop-byte-init c = nothing _ _

pub loop-byte-preserved : goal.loop-byte-preserved
loop-byte-preserved c =
    let bytes = c.args.bytes.now in
    let i = c.loop-byte.byte-index in
    rw (hex-more bytes i (omega arith)) (next c.loop-byte.invariant c.put_hex_byte-end.ensures)

pub returns : goal.returns
returns c =
    let bytes = c.args.bytes.now in
    let all : c.loop-byte.byte-index ≡ length bytes = omega arith in
    rw (all, take-length bytes) at c.loop-byte.invariant
