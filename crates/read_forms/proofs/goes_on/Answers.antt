-- No word, or the next one compared.
use Rattle.std.proofs.Common.{sym, ap, ◌∙◌, ap₂}
use Rattle.words.specs.Words.{same}
use Rattle.lexing.specs.Places.{word_at, ends_line}
use Rattle.read_forms.proofs.Laws.{no_word, a_word}
use Rattle.read_forms.proofs.goes_on.Goals as goal

pub returns-then-ends_line : goal.returns-then-ends_line
returns-then-ends_line c =
    let a = c.args in
    let text = a.text.now in
    rw (no_word text a.at (ap (ends_line text) (sym c.next_word-word.ensures) ∙ sym c.ends_line.ensures ∙ c.if-ends_line.true))

pub returns : goal.returns
returns c =
    let a = c.args in
    let text = a.text.now in
    rw (a_word text a.at (ap (ends_line text) (sym c.next_word-word.ensures) ∙ sym c.ends_line.ensures ∙ c.if-ends_line.false))
    (c.same_word.ensures ∙ ap₂ same (c.word_at.ensures.0 ∙ ap (word_at text) c.next_word-word.ensures) c.word_at-2.ensures.0)
