use mathlib.Core.Path.{sym, ◌∙◌}
use native.Mathlib.Omega.{arith}
use Rattle.pages.proofs.Told.{ends_in, no_page, page, after_length}
use Rattle.pages.proofs.put_page.Goals as goal

pub returns-in_err-end : goal.returns-in_err-end
returns-in_err-end c =
    let a = c.args in
    let e = c.put_text.ensures in
    let no = no_page a.words.now a.paper.now a.room.now a.at (sym e.0 ∙ c.in_err-end.was) in
    (c.from_residual.ensures ∙ no.0, e.1 ∙ no.1, e.2)

pub bounds-room-end : goal.bounds-room-end
bounds-room-end c =
    let a = c.args in
    let e = c.put_text.ensures in
    rw e.1 (page a.words.now a.paper.now a.room.now a.at _ (sym e.0 ∙ c.in_ok-end.was)
    (ends_in a.at _ _ _ e.3 c.in_ok-end.was)).0

pub overflow_add-result : goal.overflow_add-result
overflow_add-result c =
    let a = c.args in
    let e = c.put_text.ensures in
    let p = page a.words.now a.paper.now a.room.now a.at _ (sym e.0 ∙ c.in_ok-end.was)
    (ends_in a.at _ _ _ e.3 c.in_ok-end.was) in
    omega (arith, p.3, c.well_formed)

pub shape_of-room : goal.shape_of-room
shape_of-room c =
    let a = c.args in
    rw c.put_text.ensures.1 (after_length a.words.now a.paper.now a.room.now a.at _ 10)

pub returns : goal.returns
returns c =
    let a = c.args in
    let e = c.put_text.ensures in
    let p = page a.words.now a.paper.now a.room.now a.at _ (sym e.0 ∙ c.in_ok-end.was)
    (ends_in a.at _ _ _ e.3 c.in_ok-end.was) in
    (p.1, rw e.1 p.2, e.2)
