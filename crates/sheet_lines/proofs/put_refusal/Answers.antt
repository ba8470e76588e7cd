use native.Mathlib.Omega.{arith}
use Rattle.text.proofs.Stores.{next, within}
use mathlib.Core.Path.{refl, sym, ◌∙◌}
use Rattle.sheet_lines.specs.SheetLines.{refusal_row}
use Rattle.sheet_lines.proofs.put_refusal.Goals as goal

pub returns-then-not-is_shown : goal.returns-then-not-is_shown
unfolding refusal_row
returns-then-not-is_shown c =
    let hidden = sym c.is_shown.ensures ∙ c.if-not-is_shown.true in
    simp hidden (record { is = refl; behind = omega arith; short = omega arith })

pub returns : goal.returns
unfolding refusal_row
returns c =
    let last = c in
    let to_last = last in
    let head = to_last in
    let tested = head in
    let shown = sym tested.is_shown.ensures ∙ tested.if-not-is_shown.false in
    simp shown (within (next head.put_head-at.ensures last.put_last.ensures) (omega arith))
