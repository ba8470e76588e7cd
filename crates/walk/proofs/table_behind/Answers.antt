use mathlib.Core.Path.{◌≡◌, refl, sym, ap, ◌∙◌}
use mathlib.Core.Bool.{true, false}
use native.Mathlib.Omega.{arith}
use Rattle.lexing.specs.Places.{lines_at}
use Rattle.walk.specs.Walk.{past_rows, ends_table}
use Rattle.walk.proofs.Tables.{in_table, next-moves, past-on, ends-here}
use Rattle.walk.proofs.table_behind.Goals as goal

pub loop-row-smaller : goal.loop-row-smaller
loop-row-smaller c =
    let next = c.next_line-row.ensures in
    let g = c.args.grammar.now in
    let row = c.loop-row.row in
    let on : ends_table g row ≡ false = sym c.ends_table.ensures ∙ c.loop-row-test.true in
    let (inside, _) = in_table g row on in
    let moves = next-moves g row inside in
    omega arith

pub loop-row-preserved : goal.loop-row-preserved
loop-row-preserved c =
    let next = c.next_line-row.ensures in
    let g = c.args.grammar.now in
    let row = c.loop-row.row in
    let on : ends_table g row ≡ false = sym c.ends_table.ensures ∙ c.loop-row-test.true in
    c.loop-row.invariant ∙ past-on g row on ∙ ap (λ t. past_rows (lines_at g t)) (sym next)

pub returns : goal.returns
returns c =
    let g = c.args.grammar.now in
    let row = c.loop-row.row in
    let end : ends_table g row ≡ true = sym c.ends_table.ensures ∙ c.loop-row-test.false in
    sym (c.loop-row.invariant ∙ (ends-here g row end).past)

pub loop-row-init : goal.loop-row-init
loop-row-init c = refl
