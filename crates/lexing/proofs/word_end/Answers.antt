use mathlib.Core.Path.{refl, sym, ◌∙◌}
use native.Mathlib.Omega.{arith}
use Rattle.lexing.specs.Places.{word_end}
use Rattle.lexing.proofs.Steps.{run_out, word_more, word_stops, word-past}
use Rattle.lexing.proofs.word_end.Goals as goal

pub loop-end-init : goal.loop-end-init
loop-end-init c = refl

pub returns-then-not-is_plain : goal.returns-then-not-is_plain
returns-then-not-is_plain c =
    sym (c.loop-end.invariant ∙ word_stops _ c.loop-end.end (omega arith) (sym c.is_plain.ensures ∙ c.if-not-is_plain.true))

pub loop-end-preserved : goal.loop-end-preserved
loop-end-preserved c =
    c.loop-end.invariant ∙ word_more _ c.loop-end.end (omega arith) (sym c.is_plain.ensures ∙ c.if-not-is_plain.false)

pub returns : goal.returns
returns c =
    run_out (word_end c.args.text.now) _ _ c.loop-end.end _ (word-past c.args.text.now) c.loop-end.invariant c.max.ensures c.loop-end-test.false c.loop-end.auto.end-end
