-- "bits" and the bytes, or names.
use Rattle.std.proofs.Common.{sym, ap, ◌∙◌}
use Rattle.read_forms.specs.Reads.{Piece}
use Rattle.words.specs.Words.{begins}
use Rattle.lexing.specs.Places.{words_at}
use Rattle.read_forms.proofs.Laws.{after-begins}
use Rattle.read_forms.proofs.Parts.{bits-word, bits_then, names_then}
use Rattle.read_forms.proofs.read_flags.Goals as goal

pub returns-then-goes_on : goal.returns-then-goes_on
returns-then-goes_on c =
    let a = c.args in
    let text = a.text.now in
    let yes-bits = ap (λ v. begins v (words_at text a.at)) (sym bits-word) ∙ sym c.goes_on.ensures ∙ c.if-goes_on.true in
    λ fine few want. bits_then a.count _ text a.at _ _ _ _ _ yes-bits (rw c.behind_word-behind.ensures at (c.read_word.ensures fine want))

pub read_names-flags-requires : goal.read_names-flags-requires
read_names-flags-requires c =
    let a = c.args in
    rw c.after_word.ensures (after-begins a.grammar.now a.t)

pub returns : goal.returns
unfolding Piece
returns c =
    let a = c.args in
    let text = a.text.now in
    let no_bits = ap (λ v. begins v (words_at text a.at)) (sym bits-word) ∙ sym c.goes_on.ensures ∙ c.if-goes_on.false in
    λ fine few want.
    names_then a.count _ text a.at _ _ _ _ _ _ few no_bits (rw c.after_word.ensures at c.read_names-flags.ensures) c.put_number.ensures
