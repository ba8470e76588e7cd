-- A word is missing, or it says the part, or not.
use Rattle.std.proofs.Common.{sym, ap, ◌∙◌}
use Rattle.read_forms.specs.Reads.{Piece}
use Rattle.read_words.specs.Told.{Told}
use Rattle.lexing.specs.Places.{word_end, ends_line}
use Rattle.read_forms.proofs.Laws.{no_word, a_word}
use Rattle.read_forms.proofs.Parts.{word-missing, word_wrong, word_read}
use Rattle.read_forms.proofs.read_word.Goals as goal

pub returns-then-ends_line : goal.returns-then-ends_line
unfolding Piece
returns-then-ends_line c =
    let a = c.args in
    let text = a.text.now in
    let none = no_word text a.at (ap (ends_line text) (sym c.next_word-word.ensures) ∙ sym c.ends_line.ensures ∙ c.if-ends_line.true) in
    λ fine want. word-missing _ text a.at _ a.t none want

pub returns-in-None : goal.returns-in-None
unfolding Piece Told
returns-in-None c =
    let a = c.args in
    let text = a.text.now in
    let here = c.next_word-word.ensures in
    let there = a_word text a.at (ap (ends_line text) (sym here) ∙ sym c.ends_line.ensures ∙ c.if-ends_line.false) in
    λ fine want.
    let said = rw (c.in-None.is, c.word_at.ensures.0, here) at (c.read_part.ensures fine) in
    rw here (word_wrong _ text a.at _ _ there a.t said.0 want)

pub returns-in-Some : goal.returns-in-Some
unfolding Piece Told
returns-in-Some c =
    let a = c.args in
    let text = a.text.now in
    let here = c.next_word-word.ensures in
    let there = a_word text a.at (ap (ends_line text) (sym here) ∙ sym c.ends_line.ensures ∙ c.if-ends_line.false) in
    λ fine want.
    let said = rw (c.in-Some.is, c.word_at.ensures.0, here) at (c.read_part.ensures fine) in
    rw (c.word_end.ensures ∙ ap (word_end text) here) (word_read _ text a.at _ there said.0 said.1)
