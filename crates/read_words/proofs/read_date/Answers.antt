-- The digits of a date are hex digits; another word is three bytes.
use mathlib.Core.Path.{sym, ap, ◌∙◌}
use Rattle.words.specs.Words.{hex_said}
use Rattle.forms.specs.Form.{says, bytes_in}
use Rattle.read_words.specs.Told.{Told}
use Rattle.read_words.proofs.Laws.{date-hex}
use Rattle.read_words.proofs.read_date.Goals as goal

pub returns-then-is_date : goal.returns-then-is_date
unfolding says bytes_in Told
returns-then-is_date c =
    let a = c.args in
    let yes = sym c.is_date.ensures ∙ c.if-is_date.true in
    let said = ap hex_said c.date_digits-digits.ensures ∙ date-hex a.word.now yes in
    (rw yes, rw yes (rw said at c.put_hex_said.ensures))

pub returns : goal.returns
unfolding says bytes_in Told
returns c =
    rw (sym c.is_date.ensures ∙ c.if-is_date.false) c.read_bytes.ensures
