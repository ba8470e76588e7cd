-- Too many currencies already; one that is there; no place left for a new one, and a place for it.
use mathlib.Core.Path.{refl, ap, ◌∙◌}
use native.Mathlib.Omega.{arith}
use lib.ListN.{set}
use Rattle.sums.specs.Sums.{sum_cell}
use Rattle.sums.proofs.Sums.{too_many, added, full, pushed}
use Rattle.sums.proofs.add_sale.Goals as goal
use Rattle.sums.proofs.add_sale.Goals.{then-at-places+else-sheet-at, else-at-places}

pub returns-then-count-gt-MOST : goal.returns-then-count-gt-MOST
returns-then-count-gt-MOST c = let a = c.args in too_many a.currency a.amount a.sheet.now c.if-count-gt-MOST.true

pub returns-then-sheet-at : goal.returns-then-sheet-at
returns-then-sheet-at c =
    let there = c in
    let inside = there in
    let placed = inside in
    let counted = placed in
    let a = counted.args in
    let sale = added a.currency a.amount a.sheet.now _ placed.place_of-at.result refl placed.place_of-at.ensures.0
    counted.if-count-gt-MOST.false inside.if-at-places.true there.if-sheet-at.true in
    (sale.0, ap (λ n. set a.sheet.now (sum_cell placed.place_of-at.result) n) c.plus.ensures ∙ sale.1)

pub returns-then-count-eq-MOST : goal.returns-then-count-eq-MOST
returns-then-count-eq-MOST c =
    let joined = c in
    let placed = joined in
    let counted = placed in
    let a = counted.args in
    full a.currency a.amount a.sheet.now _ placed.place_of-at.result refl placed.place_of-at.ensures.0
    (λ l e. elim joined.if-at-places.branch [ then-at-places+else-sheet-at w ↦ w.if-sheet-at.false e | else-at-places w ↦ omega arith ]) c.if-count-eq-MOST.true

pub returns : goal.returns
returns c =
    let tested = c in
    let joined = tested in
    let placed = joined in
    let counted = placed in
    let a = counted.args in
    pushed a.currency a.amount a.sheet.now _ placed.place_of-at.result refl placed.place_of-at.ensures.0
    (λ l e. elim joined.if-at-places.branch [ then-at-places+else-sheet-at w ↦ w.if-sheet-at.false e | else-at-places w ↦ omega arith ]) (omega arith) c.push.ensures
