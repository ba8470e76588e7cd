-- Five fields.
use borrow.Author.Rules.{rules}
use native.Mathlib.Omega.{arith}
use Rattle.text.proofs.Stores.{next, within}
use Rattle.hex_digits.specs.Hex.{hex}
use Rattle.lines.specs.Lines.{cryptogram_line}
use Rattle.lines.proofs.put_cryptogram.Goals as goal

pub returns : goal.returns
unfolding cryptogram_line hex
returns c =
    let iad = c in
    let to-atc = iad in
    let atc = to-atc in
    let to-cid = atc in
    let cid = to-cid in
    let to-done = cid in
    let done = to-done in
    let to_number = done in
    let number = to_number in
    let bytes = number in
    let told = next cid.put_hex-at.ensures (next atc.put_decimal-at-2.ensures iad.put_hex.ensures) in
    let size = bytes.bytes_of-bytes.ensures.1 in
    rw (← bytes.bytes_of-bytes.ensures.0)
    (within (next number.put_decimal-at.ensures (next done.put_done-at.ensures told)) (omega (arith, size)))
