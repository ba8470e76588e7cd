use native.Mathlib.Omega.{arith}
use mathlib.Core.Path.{refl}
use Prim.Native.Nat.{◌+◌}
use Rattle.load_parts.specs.LoadParts.{cycle_words}
use Rattle.rules.specs.Word as word
use borrow.Author.Rules.{rules}
use Rattle.load_parts.proofs.Stores.{first, next_word_lem}
use Rattle.load_parts.proofs.load_cycle.Goals as goal

pub returns : goal.returns
unfolding cycle_words
returns c =
    let currency = c in
    let a = currency.args in
    let to = word.cycle_from a.i in
    let word1 = first a.words.now to currency.u16_at.ensures in
    let word2 = next_word_lem (to + 1) word1 c.byte_at.ensures refl in
    (next_word_lem (to + 2) word2 c.byte_at-2.ensures refl).is

pub bounds-words-to : goal.bounds-words-to
bounds-words-to c = omega arith

pub bounds-words-to-2 : goal.bounds-words-to-2
bounds-words-to-2 c = omega arith

pub bounds-words-to-3 : goal.bounds-words-to-3
bounds-words-to-3 c = omega arith
