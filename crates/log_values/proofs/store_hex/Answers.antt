use borrow.Author.Rules.{rules}
use mathlib.Core.Path.{◌≡◌}
use Prim.Native.Nat.{◌+◌, ◌*◌}
use native.Mathlib.Omega.{arith}
use lib.ListN.{length}
use lib.Seq.{take-length}
use Rattle.hex_digits.specs.Hex.{hex}
use Rattle.text.proofs.Stores.{next}
use Rattle.hex_digits.proofs.Bytes.{hex-more}
use Rattle.log_values.proofs.store_hex.Goals as goal

pub loop-value-init : goal.loop-value-init
unfolding hex
loop-value-init c = search rules

pub loop-value-preserved : goal.loop-value-preserved
loop-value-preserved c =
    let values = c.args.values.now in
    let i = c.loop-value.value-index in
    let two : 2 * (i + 1) ≡ 2 * i + 2 = omega arith in
    let more = next c.loop-value.invariant.0 c.store_hex_byte-end.ensures in
    (rw (two, hex-more values i (omega arith)) more, search rules)

pub returns : goal.returns
returns c =
    let values = c.args.values.now in
    let all : c.loop-value.value-index ≡ length values = omega arith in
    rw (all, take-length values) at c.loop-value.invariant.0
