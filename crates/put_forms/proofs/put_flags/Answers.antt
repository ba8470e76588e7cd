use mathlib.Core.Path.{◌≡◌, sym, ap, ◌∙◌}
use mathlib.Core.Bool.{true, false}
use Prim.Native.Nat.{ℕ, ◌^◌}
use lib.Dec.{ltb}
use lib.ListN.{length}
use Rattle.wire.specs.Wire.{number as number_at}
use Rattle.words.specs.Words.{word, up_to}
use Rattle.words.proofs.Puts.{next}
use Rattle.lexing.specs.Places.{words_at}
use Rattle.put_forms.proofs.Laws.{bits-named, bits_not}
use Rattle.put_forms.proofs.put_flags.Goals as goal

pub returns-then-are_named : goal.returns-then-are_named
returns-then-are_named c =
    let a = c.args in
    let s = a.bytes.now in
    let names = up_to (word "}") (words_at a.grammar.now a.t) in
    let value = c.number_in-bits.ensures in
    let is : ltb (number_at s 0 a.count) (2 ^ length names) ≡ true = ap (λ (n : ℕ). ltb n (2 ^ length names)) (sym value) ∙ sym c.are_named.ensures ∙ c.if-are_named.true in
    rw (bits-named s a.count names is, ← value) c.put_names.ensures

pub returns : goal.returns
returns c =
    let a = c.args in
    let s = a.bytes.now in
    let names = up_to (word "}") (words_at a.grammar.now a.t) in
    let value = c.number_in-bits.ensures in
    let is : ltb (number_at s 0 a.count) (2 ^ length names) ≡ false = ap (λ (n : ℕ). ltb n (2 ^ length names)) (sym value) ∙ sym c.are_named.ensures ∙ c.if-are_named.false in
    rw (bits_not s a.count names is) (next c.put_word-end.ensures c.put_bytes.ensures)
