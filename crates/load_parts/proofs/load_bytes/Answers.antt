use native.Mathlib.Omega.{arith}
use mathlib.Core.Path.{refl, ap, sym, ◌∙◌}
use Prim.Native.Nat.{◌+◌}
use native.Mathlib.Nat.{add-zero}
use borrow.Author.Rules.{rules}
use Rattle.wire.specs.Wire.{byte}
use Rattle.load_parts.proofs.Stores.{first, next_word_lem}
use Rattle.load_parts.proofs.load_bytes.Goals as goal

pub returns : goal.returns
returns c =
    let second = c in
    let a = second.args in
    let to = a.to in
    let here = second.byte_at.ensures ∙ ap (byte a.f.now) (sym (add-zero a.at)) in
    let word1 = first a.words.now to here in
    let word2 = next_word_lem (to + 1) word1 second.byte_at-2.ensures refl in
    let word3 = next_word_lem (to + 2) word2 c.byte_at-3.ensures refl in
    (next_word_lem (to + 3) word3 c.byte_at-4.ensures refl).is

pub bounds-words-to : goal.bounds-words-to
bounds-words-to c = omega arith

pub bounds-words-to-2 : goal.bounds-words-to-2
bounds-words-to-2 c = omega arith

pub bounds-words-to-3 : goal.bounds-words-to-3
bounds-words-to-3 c = omega arith

pub bounds-words-to-4 : goal.bounds-words-to-4
bounds-words-to-4 c = omega arith
