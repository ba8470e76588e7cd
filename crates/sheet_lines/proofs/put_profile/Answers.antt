use native.Mathlib.Omega.{arith}
use Rattle.text.proofs.Stores.{next, within}
use mathlib.Core.Path.{refl, sym, ◌∙◌}
use mathlib.Core.Bool.{true, false}
use Rattle.sheet_lines.proofs.Padded.{profile-by}
use Rattle.sheet_lines.proofs.put_profile.Goals as goal

pub returns-then-not-is_shown : goal.returns-then-not-is_shown
returns-then-not-is_shown c =
    let hidden = sym c.is_shown.ensures ∙ c.if-not-is_shown.true in
    let known = c in
    let a = known.args in
    rw (profile-by a.form a.sheet.now a.number false hidden) (record { is = refl; behind = omega arith; short = omega arith })

pub returns : goal.returns
returns c =
    let kinds = c in
    let to-kinds = kinds in
    let head = to-kinds in
    let tested = head in
    let shown = sym tested.is_shown.ensures ∙ tested.if-not-is_shown.false in
    let known = tested in
    let a = known.args in
    rw (profile-by a.form a.sheet.now a.number true shown) (within (next head.put_head-at.ensures kinds.put_kinds.ensures) (omega arith))
