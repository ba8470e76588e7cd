-- The fields of a record that is taken over, and of one that is refused.
use mathlib.Core.Path.{sym, ap, ◌∙◌}
use native.Mathlib.Omega.{arith}
use Rattle.hex_digits.specs.Hex.{hex}
use Rattle.text.proofs.Stores.{next}
use Rattle.imports.proofs.Told.{told, done, refused}
use Rattle.imports.proofs.put_line.Goals as goal

pub returns-in-Ok : goal.returns-in-Ok
returns-in-Ok c =
    let a = c.args in
    let text = c.hex_of.ensures in
    let new = c.import_record-answer.ensures in
    let stored = next c.put_number-at.ensures (next c.put_text-at.ensures (next c.put_text-at-in-Ok.ensures c.put_text.ensures)) in
    told stored (done a.number a.old.now _ (sym new.0 ∙ c.in-Ok.is) (text.0 ∙ ap hex new.1)) (omega (arith, text.1))

pub returns-in-Err : goal.returns-in-Err
returns-in-Err c =
    let a = c.args in
    let new = c.import_record-answer.ensures in
    let stored = next c.put_number-at.ensures (next c.put_text-at-in-Err.ensures (next c.put_number-at-in-Err.ensures c.put_text-in-Err.ensures)) in
    told stored (refused a.number a.old.now _ _ (sym new.0 ∙ c.in-Err.is) c.number.ensures) (omega arith)
