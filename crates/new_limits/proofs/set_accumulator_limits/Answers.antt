use borrow.Author.Rules.{rules}
use borrow.Author.Tests.{lt-ltb, le-ltb}
use mathlib.Core.Path.{◌≡◌, sym, ap, ◌∙◌}
use lib.ListN.{length}
use Rattle.rules.specs.Rules.{rules_of}
use Rattle.rules.specs.Limits.{accumulator_limits_put}
use Rattle.rules.specs.Word.{word_count}
use Rattle.rules.proofs.Limits.{words-whole, accumulator_limited}
use Rattle.new_limits.proofs.Put.{accumulator-limits}
use Rattle.new_limits.proofs.set_accumulator_limits.Goals as goal

pub returns-then-i-lt4 : goal.returns-then-i-lt4
unfolding accumulator_limits_put
returns-then-i-lt4 c =
    let a = c.args in
    let w = a.words.now in
    let size : length w ≡ word_count = search rules in
    let put : c.put_limits_in_all.new.words ≡ accumulator_limits_put w a.i a.lower a.upper =
    simp (c.put_limits_in_all.ensures, lt-ltb _ _ c.if-i-lt4.true) in
    (put, ap rules_of put ∙ accumulator-limits w size a.i a.lower a.upper)

pub returns-else-i-lt4 : goal.returns-else-i-lt4
unfolding accumulator_limits_put
returns-else-i-lt4 c =
    let a = c.args in
    let w = a.words.now in
    (simp (le-ltb _ _ c.if-i-lt4.false), sym ((accumulator_limited (rules_of w) a.i a.lower a.upper).none (words-whole w) c.if-i-lt4.false))
