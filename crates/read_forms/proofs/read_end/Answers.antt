-- No word is left, or the next one is wrong.
use Rattle.std.proofs.Common.{◌≡◌, true, false, sym, ap, ◌∙◌}
use Rattle.lexing.specs.Places.{ends_line, next_word}
use Rattle.read_forms.proofs.read_end.Goals as goal

pub returns-then-ends_line : goal.returns-then-ends_line
returns-then-ends_line c =
    let a = c.args in
    let end : ends_line a.text.now (next_word a.text.now a.at) ≡ true =
    ap (ends_line a.text.now) (sym c.next_word-word.ensures) ∙ sym c.ends_line.ensures ∙ c.if-ends_line.true in
    rw end

pub returns : goal.returns
returns c =
    let a = c.args in
    let end : ends_line a.text.now (next_word a.text.now a.at) ≡ false =
    ap (ends_line a.text.now) (sym c.next_word-word.ensures) ∙ sym c.ends_line.ensures ∙ c.if-ends_line.false in
    rw (end, c.next_word-word.ensures)
