use native.Mathlib.Omega.{arith}
use mathlib.Core.Path.{refl}
use Prim.Native.Nat.{◌+◌}
use Rattle.load_parts.specs.LoadParts.{cyclic_rule_words}
use Rattle.rules.specs.Word as word
use borrow.Author.Rules.{rules}
use Rattle.load_parts.proofs.Stores.{first, next_word_lem}
use Rattle.load_parts.proofs.load_cyclic_rule.Goals as goal

pub returns : goal.returns
unfolding cyclic_rule_words
returns c =
    let a = c.args in
    let to = word.cyclic_rule_from a.j a.i in
    let word1 = first a.words.now to c.byte_at.ensures in
    (next_word_lem (to + 1) word1 c.u64_at.ensures refl).is

pub bounds-words-to : goal.bounds-words-to
bounds-words-to c = omega arith

pub bounds-words-to-2 : goal.bounds-words-to-2
bounds-words-to-2 c = omega arith
