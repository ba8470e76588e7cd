use native.Mathlib.Omega.{arith}
use borrow.Author.Rules.{rules}
use mathlib.Core.Path.{refl, ap, ◌∙◌}
use Prim.Native.Nat.{◌+◌}
use lib.Seq.{sets}
use Rattle.load_parts.specs.LoadParts.{rate_words}
use Rattle.rules.specs.Word as word
use Rattle.load_parts.proofs.Stores.{first, next_word_lem}
use Rattle.load_parts.proofs.load_rate.Goals as goal

pub returns : goal.returns
unfolding rate_words
returns c =
    let from = c in
    let placed = from in
    let a = placed.args in
    let to = word.rate_from a.i in
    let word1 = first a.words.now to from.u16_at.ensures in
    let word2 = next_word_lem (to + 1) word1 c.u16_at-2.ensures refl in
    let word3 = next_word_lem (to + 2) word2 c.u16_at-3.ensures refl in
    let word4 = next_word_lem (to + 3) word3 c.byte_at.ensures refl in
    word4.is ∙ ap (λ at. sets a.words.now to (rate_words a.s.now at)) placed.conversion_place-at.ensures.0

pub bounds-words-to : goal.bounds-words-to
bounds-words-to c = omega arith

pub bounds-words-to-2 : goal.bounds-words-to-2
bounds-words-to-2 c = omega arith

pub bounds-words-to-3 : goal.bounds-words-to-3
bounds-words-to-3 c = omega arith

pub bounds-words-to-4 : goal.bounds-words-to-4
bounds-words-to-4 c = omega arith
