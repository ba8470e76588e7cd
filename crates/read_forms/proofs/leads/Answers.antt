-- The first word of the next line, compared.
use Rattle.std.proofs.Common.{◌∙◌, ap₂}
use Rattle.words.specs.Words.{begins}
use Rattle.lexing.specs.Places.{word_at, words_at, next_word}
use Rattle.read_forms.proofs.Lines.{leads-is}
use Rattle.read_forms.proofs.leads.Goals as goal

pub returns : goal.returns
returns c =
    let a = c.args in
    let g = a.grammar.now in
    let text = a.text.now in
    c.goes_on.ensures
    ∙ ap₂ (λ t l. begins (word_at g t) (words_at text l)) c.next_word-key.ensures c.next_line-line.ensures
    ∙ leads-is text a.at (word_at g (next_word g a.row))
