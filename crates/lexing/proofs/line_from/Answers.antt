use mathlib.Core.Path.{refl, sym, ap, ◌∙◌}
use Prim.Native.Nat.{◌<◌}
use native.Mathlib.Omega.{arith}
use lib.ListN.{length}
use Rattle.lexing.specs.Places.{ends_line, below_line, line_from}
use Rattle.lexing.proofs.Laws.{below-moves, line_on, line-here, stays}
use Rattle.lexing.proofs.line_from.Goals as goal

pub loop-line-init : goal.loop-line-init
loop-line-init c = refl

pub returns-then-not-ends_line : goal.returns-then-not-ends_line
returns-then-not-ends_line c =
    let text = c.args.text.now in
    let word = ap (ends_line text) (sym c.next_word-word.ensures) ∙ sym c.ends_line.ensures ∙ c.if-not-ends_line.true in
    sym (c.loop-line.invariant ∙ line-here text c.loop-line.line word)

pub loop-line-smaller : goal.loop-line-smaller
loop-line-smaller c =
    let text = c.args.text.now in
    let below = c.below_line-line.ensures ∙ ap (below_line text) c.next_word-word.ensures in
    let there : c.loop-line.line < length text = omega arith in
    omega (arith, below, below-moves text c.loop-line.line there)

pub loop-line-preserved : goal.loop-line-preserved
loop-line-preserved c =
    let text = c.args.text.now in
    let below = c.below_line-line.ensures ∙ ap (below_line text) c.next_word-word.ensures in
    let none = ap (ends_line text) (sym c.next_word-word.ensures) ∙ sym c.ends_line.ensures ∙ c.if-not-ends_line.false in
    c.loop-line.invariant ∙ line_on text c.loop-line.line none ∙ ap (line_from (length text) text) (sym below)

pub returns : goal.returns
returns c = sym (c.loop-line.invariant ∙ stays _ _ c.loop-line.line (omega arith))
