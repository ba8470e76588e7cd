use borrow.Author.Rules.{rules}
use borrow.Author.Tests.{tests, ne_eqb}
use mathlib.Core.Path.{◌∙◌}
use Rattle.std.proofs.lemmas.Iterator.{YieldsList-from_slice}
use Rattle.std.proofs.lemmas.Iterator.Search.{all_from_yields_List}
use Rattle.words.specs.Words.{is_hex_digit}
use Rattle.words.proofs.Said.{all-hex, odd-hex}
use Rattle.words.proofs.is_hex.Goals as goal

pub returns-then-word-eq0 : goal.returns-then-word-eq0
returns-then-word-eq0 c =
    let w = c.args.word.now in
    all_from_yields_List is_hex_digit _ _ c.all.result c.all.ensures.ran (YieldsList-from_slice w cc) (λ x b q k. search (rules, tests)) ∙ all-hex w c.if-word-eq0.true

pub returns-else-word-eq0 : goal.returns-else-word-eq0
returns-else-word-eq0 c = rw (odd-hex c.args.word.now c.if-word-eq0.false) (ne_eqb _ _ c.if-word-eq0.false)
