use mathlib.Core.Path.{◌≡◌, ap, ◌∙◌}
use Rattle.words.proofs.Puts.{next}
use Rattle.lexing.specs.Places.{next_word, after_word}
use Rattle.put_forms.proofs.Lines.{line_at}
use Rattle.put_forms.proofs.put_line.Goals as goal

pub returns : goal.returns
returns c =
    let a = c.args in
    let g = a.grammar.now in
    let behind : c.after_word.result ≡ after_word g (next_word g a.row) = c.after_word.ensures ∙ ap (after_word g) c.next_word-key.ensures in
    rw (line_at g a.row a.indent a.bytes.now, ← behind, ← c.next_word-key.ensures)
    (next c.put_times-end.ensures (next c.put_same-end.ensures c.put_form.ensures))
