-- Amount, currency, date.
use native.Mathlib.Omega.{arith}
use Rattle.text.proofs.Stores.{next, within}
use Rattle.log_values.specs.LogValues.{purchase_text}
use Rattle.log_values.proofs.store_purchase.Goals as goal

pub returns : goal.returns
unfolding purchase_text
returns c =
    let date = c in
    let date-bytes = date in
    let to-currency = date-bytes in
    let currency = to-currency in
    let low_byte = currency in
    let high_byte = low_byte in
    let amount = high_byte in
    let digits = amount in
    rw (
      ← digits.u64_at.ensures,
      ← digits.twelve_digits-amount.ensures.0,
      ← high_byte.byte_at.ensures,
      ← low_byte.byte_at-2.ensures,
      ← date-bytes.date_of.ensures.0,
    )
    (within (next amount.store_hex-at.ensures (next currency.store_hex-at-2.ensures date.store_hex.ensures))
    (omega (arith, digits.twelve_digits-amount.ensures.1, date-bytes.date_of.ensures.1)))
