use borrow.Author.Rules.{rules}
use mathlib.Core.Path.{◌≡◌}
use Prim.Native.Nat.{◌+◌, ◌*◌, ◌-◌, ◌≤◌}
use native.Mathlib.Omega.{arith}
use lib.ListN.{length, take}
use lib.Seq.{take-length}
use Rattle.hex_digits.specs.Hex.{hex}
use Rattle.text.specs.Stored.{Stored}
use Rattle.text.proofs.Stores.{next}
use Rattle.hex_digits.proofs.Bytes.{hex-more}
use Rattle.lines.proofs.put_hex.Goals as goal

pub loop-i-init : goal.loop-i-init
unfolding hex
loop-i-init c = search rules

pub loop-i-preserved : goal.loop-i-preserved
loop-i-preserved c =
    let put = c in
    let read = put in
    let at-loop = read in
    let bytes = at-loop.args.bytes.now in
    let i = at-loop.loop-i.i in
    let two : 2 * (i + 1) ≡ 2 * i + 2 = omega arith in
    let more = next at-loop.loop-i.invariant.0 put.put_hex_byte-end.ensures in
    (rw (two, hex-more bytes i (omega arith)) more, search rules, search rules, search rules)

pub returns : goal.returns
returns c =
    let mark = c in
    let at-loop = mark in
    let bytes = at-loop.args.bytes.now in
    let all : at-loop.loop-i.i ≡ length bytes = omega arith in
    next (rw (all, take-length bytes) at at-loop.loop-i.invariant.0) mark.put_byte.ensures
