use native.Mathlib.Omega.{arith}
use borrow.Author.Rules.{rules}
use mathlib.Core.Path.{refl}
use Prim.Native.Nat.{◌+◌}
use Rattle.load.specs.Load.{profile_head_words}
use Rattle.load_parts.proofs.Stores.{first, next_word_lem}
use Rattle.load.proofs.load_profile_head.Goals as goal

pub returns : goal.returns
unfolding profile_head_words
returns c =
    let masks = c in
    let number = masks in
    let a = number.args in
    let to = a.to in
    let word1 = first a.words.now to number.byte_at.ensures in
    let word2 = next_word_lem (to + 1) word1 masks.u32_at.ensures refl in
    let word3 = next_word_lem (to + 2) word2 masks.u32_at-2.ensures refl in
    let word4 = next_word_lem (to + 3) word3 masks.u32_at-3.ensures refl in
    let word5 = next_word_lem (to + 4) word4 c.byte_at-2.ensures refl in
    let word6 = next_word_lem (to + 5) word5 c.u16_at.ensures refl in
    (next_word_lem (to + 6) word6 c.u64_at.ensures refl).is

pub bounds-words-to : goal.bounds-words-to
bounds-words-to c = omega arith

pub bounds-words-to-2 : goal.bounds-words-to-2
bounds-words-to-2 c = omega arith

pub bounds-words-to-3 : goal.bounds-words-to-3
bounds-words-to-3 c = omega arith

pub bounds-words-to-4 : goal.bounds-words-to-4
bounds-words-to-4 c = omega arith

pub bounds-words-to-5 : goal.bounds-words-to-5
bounds-words-to-5 c = omega arith

pub bounds-words-to-6 : goal.bounds-words-to-6
bounds-words-to-6 c = omega arith

pub bounds-words-to-7 : goal.bounds-words-to-7
bounds-words-to-7 c = omega arith
