use mathlib.Core.List.{[], ◌∷◌}
use mathlib.Core.Path.{refl, ap, ◌∙◌}
use native.Mathlib.Omega.{arith}
use native.Mathlib.Numerals.{add-one}
use lib.ListN.{length, take, get_or}
use lib.Seq.{length-sets, length-take-le, take-suc, take_all}
use Rattle.text.proofs.Laws.{sets_on}
use Rattle.card_cells.proofs.put.Goals as goal

pub loop-i-init : goal.loop-i-init
loop-i-init c = (omega arith, refl)

pub overflow_add-cells : goal.overflow_add-cells
overflow_add-cells c = omega (arith, c.requires)

pub bounds-cells-at : goal.bounds-cells-at
bounds-cells-at c =
    let a = c.args in
    let size = ap length c.loop-i.invariant.1 ∙ length-sets a.cells.now a.at (take c.loop-i.i a.part.now) in
    omega (arith, size, c.requires)

-- one cell more
pub loop-i-preserved : goal.loop-i-preserved
loop-i-preserved c =
    let a = c.args in
    let part = a.part.now in
    let i = c.loop-i.i in
    let on = sets_on a.cells.now (take i part) (get_or part i 0 ∷ []) a.at in
    let size = length-take-le i part (omega arith) in
    let more = take-suc part i 0 (omega arith) in
    (omega arith, rw (c.loop-i.invariant.1, add-one, more, ← on, size))

pub shape_of-cells : goal.shape_of-cells
shape_of-cells c =
    let a = c.args in
    ap length c.loop-i.invariant.1 ∙ length-sets a.cells.now a.at (take c.loop-i.i a.part.now)

pub returns : goal.returns
returns c =
    let all = take_all c.loop-i.i c.args.part.now (omega arith) in
    rw (← all) c.loop-i.invariant.1
