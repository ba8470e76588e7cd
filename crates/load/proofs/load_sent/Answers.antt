use borrow.Author.Rules.{rules}
use Prim.Native.Nat.{◌+◌}
use native.Mathlib.Omega.{arith}
use Rattle.load.specs.Load.{sent_words}
use Rattle.rules.specs.Word as word
use Rattle.load_parts.proofs.Stores.{first, next_word_lem}
use Rattle.load.proofs.load_sent.Goals as goal

pub returns : goal.returns
unfolding sent_words
returns c =
    let start = c in
    let a = start.args in
    let to = a.to in
    let word1 = first a.words.now (to + word.accumulator_sent) start.byte_at.ensures in
    let word2 = next_word_lem (to + word.first_sent) word1 c.byte_at-2.ensures (omega arith) in
    (next_word_lem (to + word.second_sent) word2 c.byte_at-3.ensures (omega arith)).is

pub bounds-words-to : goal.bounds-words-to
bounds-words-to c = omega arith

pub bounds-words-to-2 : goal.bounds-words-to-2
bounds-words-to-2 c = omega arith

pub bounds-words-to-3 : goal.bounds-words-to-3
bounds-words-to-3 c = omega arith
