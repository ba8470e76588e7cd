use mathlib.Core.Path.{sym, ◌∙◌}
use native.Mathlib.Omega.{arith}
use Rattle.pages.proofs.Front.{done, at_hand, paged}
use Rattle.pages.proofs.turn.Goals as goal

pub slice_bounds-put_page-count : goal.slice_bounds-put_page-count
slice_bounds-put_page-count c =
    let a = c.args in
    let told = sym c.take_front.ensures.0 ∙ c.in-Paper.is in
    omega (arith, (at_hand a.words.now a.room.now a.input.now a.to a.skip told).2)

pub slice_bounds-put_page-start : goal.slice_bounds-put_page-start
slice_bounds-put_page-start c =
    let a = c.args in
    let told = sym c.take_front.ensures.0 ∙ c.in-Paper.is in
    omega (arith, (at_hand a.words.now a.room.now a.input.now a.to a.skip told).2)

pub slice_bounds-put_page-end : goal.slice_bounds-put_page-end
slice_bounds-put_page-end c =
    let a = c.args in
    let told = sym c.take_front.ensures.0 ∙ c.in-Paper.is in
    (at_hand a.words.now a.room.now a.input.now a.to a.skip told).3

pub returns-in-Done : goal.returns-in-Done
returns-in-Done c =
    let a = c.args in
    let e = c.take_front.ensures in
    let is = done a.words.now a.room.now a.input.now a.to a.skip (sym e.0 ∙ c.in-Done.is) in
    (is.0, e.1 ∙ is.1, is.2)

pub returns-in-Paper : goal.returns-in-Paper
returns-in-Paper c =
    let a = c.args in
    let e = c.take_front.ensures in
    let p = c.put_page.ensures in
    paged a.words.now a.input.now a.room.now a.to a.skip (sym e.0 ∙ c.in-Paper.is) e.1 p.0 p.1 p.2
    c.turn_over.ensures
