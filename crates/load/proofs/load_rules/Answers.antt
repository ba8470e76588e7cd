use borrow.Author.Rules.{rules}
use Rattle.layout.specs.Layout.{rule_length}
use Rattle.load.specs.Load.{onward, rule_words, rules_words}
use Rattle.load_parts.proofs.Sizes.{rule-size}
use Rattle.load_parts.proofs.Stores.{four-rows}
use Rattle.load.proofs.load_rules.Goals as goal

pub returns : goal.returns
unfolding rules_words
returns c =
    let third = c in
    let second = third in
    let first = second in
    let a = first.args in
    let s = a.s.now in
    let at = onward (rule_length a.width) a.at in
    four-rows a.words.now a.to 3 (λ j. rule_words s (at j) a.width) (λ j. rule-size s (at j) a.width) first.load_rule.ensures
    second.load_rule-2.ensures
    third.load_rule-3.ensures
    c.load_rule-4.ensures
