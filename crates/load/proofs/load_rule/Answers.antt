use native.Mathlib.Omega.{arith}
use borrow.Author.Rules.{rules}
use mathlib.Core.Path.{refl}
use Prim.Native.Nat.{◌+◌}
use Rattle.load.specs.Load.{rule_words}
use Rattle.load_parts.proofs.Stores.{first, next_word_lem}
use Rattle.load.proofs.load_rule.Goals as goal

pub returns : goal.returns
unfolding rule_words
returns c =
    let start = c in
    let a = start.args in
    let to = a.to in
    let word1 = first a.words.now to start.byte_at.ensures in
    let word2 = next_word_lem (to + 1) word1 c.limit.ensures refl in
    (next_word_lem (to + 2) word2 c.limit-2.ensures refl).is

pub bounds-words-to : goal.bounds-words-to
bounds-words-to c = omega arith

pub bounds-words-to-2 : goal.bounds-words-to-2
bounds-words-to-2 c = omega arith

pub bounds-words-to-3 : goal.bounds-words-to-3
bounds-words-to-3 c = omega arith
