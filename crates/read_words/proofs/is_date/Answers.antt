-- Each test is that of the definition.
use mathlib.Core.Path.{ap, ◌∙◌}
use Rattle.words.specs.Words.{all, is_digit}
use Rattle.forms.specs.Form.{is_date}
use Rattle.read_words.proofs.is_date.Goals as goal

pub returns : goal.returns
unfolding is_date
returns c =
    let all_digits = c.are_digits.ensures ∙ ap (all is_digit) c.date_digits.ensures in
    rw (← c.byte_at.ensures, ← c.byte_at-2.ensures, ← c.byte_at-3.ensures, ← c.byte_at-4.ensures, ← all_digits)
