use mathlib.Core.Path.{sym, ap, ◌∙◌}
use Prim.Native.Nat.{◌-◌, ◌<◌, ◌≤◌}
use native.Mathlib.Omega.{arith}
use Rattle.lexing.specs.Places.{words_at}
use Rattle.forms.specs.Form.{Form, fits_length}
use Rattle.forms.specs.Grammar.{form_in}
use Rattle.walk.specs.Marks.{size_of}
use Rattle.walk.proofs.Keys.{among_going}
use Rattle.walk.proofs.Places.{goes, goes_on_lem, opens-on, fits_with, fits_without, fits-few, fits_more, end_on, rest-on}
use Rattle.walk.proofs.+fits.Goals as goal

pub fits-requires : goal.fits-requires
unfolding fits_length
fits-requires t c =
    let a = c.args in
    let g = a.grammar.now in
    let mark = c.mark_at-mark.result in
    let place = c.part_behind-next.result in
    let is-mark = c.mark_at-mark.ensures.is in
    let leads = c.part_behind-next.ensures in
    let on = goes g a.t mark place is-mark leads (opens-on c.in-Opens.is) in
    (omega arith, tt)

pub returns-then-fits : goal.returns-then-fits
unfolding fits_length
returns-then-fits t c =
    let a = c.args in
    let g = a.grammar.now in
    let mark = c.mark_at-mark.result in
    let place = c.part_behind-next.result in
    let is-mark = c.mark_at-mark.ensures.is in
    let leads = c.part_behind-next.ensures in
    let yes = sym c.fits.ensures ∙ c.if-fits.true in
    sym (fits_with g a.t mark place is-mark leads a.bytes c.in-Opens.is yes)

pub fits-requires-in-Opens : goal.fits-requires-in-Opens
unfolding fits_length
fits-requires-in-Opens t c =
    let a = c.args in
    let g = a.grammar.now in
    let mark = c.mark_at-mark.result in
    let place = c.part_behind-next.result in
    let is-mark = c.mark_at-mark.ensures.is in
    let leads = c.part_behind-next.ensures in
    let on = goes g a.t mark place is-mark leads (opens-on c.in-Opens.is) in
    let past = c.behind_mark.ensures.on in
    (omega arith, tt)

pub returns-then-bytes-count : goal.returns-then-bytes-count
unfolding fits_length
returns-then-bytes-count t c =
    let a = c.args in
    let g = a.grammar.now in
    let mark = c.mark_at-mark.result in
    let place = c.part_behind-next.result in
    let is-mark = c.mark_at-mark.ensures.is in
    let leads = c.part_behind-next.ensures in
    let size = c.size-count.ensures in
    let few = c.if-bytes-count.true in
    let less : a.bytes < size_of mark = omega arith in
    sym (fits-few g a.t mark place is-mark leads a.bytes (among_going mark c.in_default.not-End c.in_default.not-Rest c.in_default.not-Opens) less)

pub fits-requires-in_default : goal.fits-requires-in_default
unfolding fits_length
fits-requires-in_default t c =
    let a = c.args in
    let g = a.grammar.now in
    let mark = c.mark_at-mark.result in
    let place = c.part_behind-next.result in
    let is-mark = c.mark_at-mark.ensures.is in
    let leads = c.part_behind-next.ensures in
    let on = goes g a.t mark place is-mark leads (goes_on_lem mark (among_going mark c.in_default.not-End c.in_default.not-Rest c.in_default.not-Opens)) in
    (omega arith, tt)

pub returns-in-End : goal.returns-in-End
unfolding fits_length
returns-in-End t c =
    let a = c.args in
    let g = a.grammar.now in
    let mark = c.mark_at-mark.result in
    let place = c.part_behind-next.result in
    let is-mark = c.mark_at-mark.ensures.is in
    let leads = c.part_behind-next.ensures in
    let end = end_on g a.t mark place is-mark leads c.in-End.is in
    sym (ap (λ (f : Form). fits_length f a.bytes) end)

pub returns-in-Rest : goal.returns-in-Rest
unfolding fits_length
returns-in-Rest t c =
    let a = c.args in
    let g = a.grammar.now in
    let mark = c.mark_at-mark.result in
    let place = c.part_behind-next.result in
    let is-mark = c.mark_at-mark.ensures.is in
    let leads = c.part_behind-next.ensures in
    let rest = rest-on g a.t mark place is-mark leads c.in-Rest.is in
    sym (ap (λ (f : Form). fits_length f a.bytes) rest)

pub returns-else-fits : goal.returns-else-fits
unfolding fits_length
returns-else-fits t c =
    let a = c.args in
    let g = a.grammar.now in
    let mark = c.mark_at-mark.result in
    let place = c.part_behind-next.result in
    let is-mark = c.mark_at-mark.ensures.is in
    let leads = c.part_behind-next.ensures in
    let no = sym c.fits.ensures ∙ c.if-fits.false in
    c.fits-in-Opens.ensures
    ∙ sym (fits_without g a.t mark place is-mark leads a.bytes c.in-Opens.is c.behind_mark.result c.behind_mark.ensures no)

pub returns-else-bytes-count : goal.returns-else-bytes-count
unfolding fits_length
returns-else-bytes-count t c =
    let a = c.args in
    let g = a.grammar.now in
    let mark = c.mark_at-mark.result in
    let place = c.part_behind-next.result in
    let is-mark = c.mark_at-mark.ensures.is in
    let leads = c.part_behind-next.ensures in
    let size = c.size-count.ensures in
    let more = c.if-bytes-count.false in
    let less : size_of mark ≤ a.bytes = omega arith in
    c.fits-in_default.ensures
    ∙ ap (λ n. fits_length (form_in (words_at g place)) (a.bytes - n)) size
    ∙ sym (fits_more g a.t mark place is-mark leads a.bytes (among_going mark c.in_default.not-End c.in_default.not-Rest c.in_default.not-Opens) less)
