use native.Mathlib.Omega.{arith}
use Rattle.text.proofs.Stores.{next}
use Rattle.log_values.proofs.Stores.{stored}
use Rattle.log_lines.specs.LogLines.{values_text}
use Rattle.log_lines.proofs.Stores.{same_size}
use Rattle.log_lines.proofs.put_values.Goals as goal

pub returns : goal.returns
unfolding values_text
returns c =
    let fields = c in
    let to-answer = fields in
    let answer = to-answer in
    let switches = answer in
    let to-purchase = switches in
    let purchase = to-purchase in
    let first = purchase in
    let known = first in
    let pre = known.requires in
    let one = stored purchase.put_purchase-at.ensures (omega (arith, pre)) in
    let two = stored answer.put_answer-at.ensures (omega (arith, pre, one.short, same_size one)) in
    rw (← first.first_data-first.ensures.0, ← switches.switches.ensures) (next one (next two fields.put_fields.ensures))
