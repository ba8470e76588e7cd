-- Three parts, each where its switch is on.
use native.Mathlib.Omega.{arith}
use Rattle.text.proofs.Stores.{next, within}
use Rattle.log_values.specs.LogValues.{answer_text}
use Rattle.log_values.proofs.Octets.{one-octet, two-octets}
use Rattle.log_values.proofs.store_answer.Goals as goal

pub returns : goal.returns
unfolding answer_text
returns c =
    let cid = c in
    let cid-byte = cid in
    let atc = cid-byte in
    let low_byte = atc in
    let high_byte = low_byte in
    let to-atc = high_byte in
    let cvr = to-atc in
    let five = cvr in
    rw (
      two-octets,
      one-octet,
      ← five.five_bytes-cvr.ensures.0,
      ← high_byte.low_byte.ensures,
      ← low_byte.low_byte-2.ensures,
      ← cid-byte.low_byte-3.ensures,
    )
    (within (next cvr.store_hex_if-at.ensures (next atc.store_hex_if-at-2.ensures cid.store_hex_if.ensures))
    (omega (arith, five.five_bytes-cvr.ensures.1)))
