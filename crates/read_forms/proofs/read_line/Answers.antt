-- The line is there, and is read from behind its first word.
use Rattle.std.proofs.Common.{ap, ◌∙◌}
use Rattle.lexing.specs.Places.{word_at, words_at, next_word, next_line, after_word}
use Rattle.read_forms.specs.Places.{behind_word}
use Rattle.read_forms.specs.Reads.{is_row, form_at, want_at}
use Rattle.read_forms.proofs.Laws.{begun-word}
use Rattle.read_forms.proofs.Lines.{leads-is, line-met}
use Rattle.read_forms.proofs.read_line.Goals as goal

pub returns : goal.returns
returns c =
    let a = c.args in
    let g = a.grammar.now in
    let text = a.text.now in
    let next = c.after_word-part.ensures ∙ ap (after_word g) c.next_word.ensures in
    let place = c.behind_word-behind.ensures ∙ ap (behind_word text) c.next_line.ensures in
    λ leads r.
    let there = begun-word text (next_line text a.at) (word_at g (next_word g a.row)) (leads-is text a.at (word_at g (next_word g a.row)) ∙ leads) in
    line-met text (form_at g (after_word g (next_word g a.row))) a.at _ (want_at g) _ a.to _ _ there
    (rw (next, place) at (c.read_form.ensures (ap (λ n. is_row (words_at g n)) next ∙ r)))
