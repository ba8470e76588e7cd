use borrow.Author.Rules.{rules}
use mathlib.Core.Path.{◌≡◌, refl, ap}
use native.Mathlib.Numerals.{add-one}
use native.Mathlib.Omega.{arith}
use lib.ListN.{length}
use Rattle.text.proofs.Stores.{next, within}
use Rattle.log_values.proofs.Stores.{stored}
use Rattle.log_fields.specs.LogFields.{field_count}
use Rattle.log_fields.proofs.Lengths.{field-short}
use Rattle.log_lines.specs.LogLines.{field_texts, fields_text}
use Rattle.log_lines.proofs.put_fields.Goals as goal

pub loop-i-init : goal.loop-i-init
unfolding field_texts
loop-i-init c = (record { is = refl; behind = omega arith; short = omega arith }, omega arith, c.field_count-i-end.ensures, refl)

pub loop-i-preserved : goal.loop-i-preserved
unfolding field_texts
loop-i-preserved c =
    let put = c in
    let found = put in
    let at-loop = found in
    let known = at-loop in
    let a = known.args in
    let i = at-loop.loop-i.i in
    let few = field-short a.paper.now a.tail.now a.form a.kept i in
    let size = ap length found.field_at.ensures.0 in
    let inv = at-loop.loop-i.invariant in
    let there = stored put.put_hex-end.ensures (omega (arith, few, size, inv.0.short, inv.3, known.requires)) in
    let more = next inv.0 there in (
      rw (add-one, ← found.field_at.ensures.0) (within more (omega (arith, few, size))),
      omega arith,
      inv.2,
      search rules,
    )

pub returns : goal.returns
unfolding fields_text
returns c =
    let at-loop = c in
    let known = at-loop in
    let a = known.args in
    let all : at-loop.loop-i.i ≡ field_count a.tail.now a.form a.kept = omega (arith, c.loop-i-test.false, at-loop.loop-i.invariant.1, at-loop.loop-i.invariant.2) in
    rw (← all) (within at-loop.loop-i.invariant.0 (omega arith))
