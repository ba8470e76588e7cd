-- A number of 64 bits, and then whether it fits so many bytes.
use borrow.Author.Rules.{rules}
use mathlib.Core.Path.{sym, ◌∙◌}
use Rattle.read_words.specs.Told.{Told}
use Rattle.read_words.proofs.Laws.{number_is, no_count, count-is}
use Rattle.read_words.proofs.read_number.Goals as goal

pub returns-in_err-n : goal.returns-in_err-n
unfolding Told
returns-in_err-n c =
    rw c.from_residual.ensures (no_count _ _ (sym c.number_in.ensures ∙ c.in_err-n.was), search rules)

pub returns-then-fits_bytes : goal.returns-then-fits_bytes
unfolding Told
returns-then-fits_bytes c =
    let a = c.args in
    let is = sym c.number_in.ensures ∙ c.in_ok-n.was in
    (count-is a.word.now a.count _ is ∙ sym c.fits_bytes.ensures ∙ c.if-fits_bytes.true, rw (number_is a.word.now _ is).1 c.put_number.ensures)

pub returns : goal.returns
unfolding Told
returns c =
    let is = sym c.number_in.ensures ∙ c.in_ok-n.was in
    (count-is _ _ _ is ∙ sym c.fits_bytes.ensures ∙ c.if-fits_bytes.false, search rules)
