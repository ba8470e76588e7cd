use borrow.Author.Tests.{eq-eqb, ne_eqb}
use mathlib.Core.Path.{refl, sym, ◌∙◌}
use native.Mathlib.Omega.{arith}
use Rattle.lexing.specs.Places.{line_end}
use Rattle.lexing.proofs.Steps.{run_out, ends-past, ends-here, line-more, line_stops}
use Rattle.lexing.proofs.line_end.Goals as goal

pub loop-end-init : goal.loop-end-init
loop-end-init c = refl

pub returns-then-text-end-eq10 : goal.returns-then-text-end-eq10
returns-then-text-end-eq10 c =
    let ends = ends-here _ c.loop-end.end (omega arith) ∙ eq-eqb _ _ c.if-text-end-eq10.true in
    sym (c.loop-end.invariant ∙ line_stops _ c.loop-end.end ends)

pub loop-end-preserved : goal.loop-end-preserved
loop-end-preserved c =
    let on = ends-here _ c.loop-end.end (omega arith) ∙ ne_eqb _ _ c.if-text-end-eq10.false in
    c.loop-end.invariant ∙ line-more _ c.loop-end.end on

pub returns : goal.returns
returns c =
    run_out (line_end c.args.text.now) _ _ c.loop-end.end _ (λ k h. line_stops _ k (ends-past _ k h)) c.loop-end.invariant c.max.ensures c.loop-end-test.false c.loop-end.auto.end-end
