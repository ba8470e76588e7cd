use native.Mathlib.Omega.{arith}
use Rattle.layout.specs.Layout.{cyclic_rule_from}
use Rattle.rules.specs.Word as word
use Rattle.load_parts.specs.LoadParts.{cyclic_rule_words, cyclic_rules_words}
use Rattle.load_parts.proofs.Sizes.{cyclic-rule-size}
use Rattle.load_parts.proofs.Stores.{two-rows}
use borrow.Author.Rules.{rules}
use Rattle.load_parts.proofs.load_cyclic_rules.Goals as goal

pub returns : goal.returns
unfolding cyclic_rules_words
returns c =
    let first = c in
    let a = first.args in
    let t = a.t.now in
    let at = cyclic_rule_from a.j in
    two-rows a.words.now (word.cyclic_rule_from a.j 0) 2 (λ i. cyclic_rule_words t (at i)) (λ i. cyclic-rule-size t (at i))
    (word.cyclic_rule_from a.j 1)
    first.load_cyclic_rule.ensures
    c.load_cyclic_rule-2.ensures
    (omega arith)
