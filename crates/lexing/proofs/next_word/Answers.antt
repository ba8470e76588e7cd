use borrow.Author.Tests.{ne_eqb}
use mathlib.Core.Path.{refl, sym, ◌∙◌}
use native.Mathlib.Omega.{arith}
use Rattle.lexing.specs.Places.{next_word}
use Rattle.lexing.proofs.Steps.{run_out, gap_comment, gap_more, gap_stops, gap-past}
use Rattle.lexing.proofs.next_word.Goals as goal

pub loop-word-init : goal.loop-word-init
loop-word-init c = refl

pub returns-then-text-word-eq35 : goal.returns-then-text-word-eq35
returns-then-text-word-eq35 c =
    c.line_end.ensures ∙ sym (c.loop-word.invariant ∙ gap_comment _ c.loop-word.word (omega arith) c.if-text-word-eq35.true)

pub returns-then-not-is_blank : goal.returns-then-not-is_blank
returns-then-not-is_blank c =
    let other = sym c.is_blank.ensures ∙ c.if-not-is_blank.true in
    sym (c.loop-word.invariant ∙ gap_stops _ c.loop-word.word (omega arith) (ne_eqb _ _ c.if-text-word-eq35.false) other)

pub loop-word-preserved : goal.loop-word-preserved
loop-word-preserved c =
    let blank = sym c.is_blank.ensures ∙ c.if-not-is_blank.false in
    c.loop-word.invariant ∙ gap_more _ c.loop-word.word (omega arith) (ne_eqb _ _ c.if-text-word-eq35.false) blank

pub returns : goal.returns
returns c =
    run_out (next_word c.args.text.now) _ _ c.loop-word.word _ (gap-past c.args.text.now) c.loop-word.invariant c.max.ensures c.loop-word-test.false c.loop-word.auto.word-end
