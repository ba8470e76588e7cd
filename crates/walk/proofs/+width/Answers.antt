use mathlib.Core.Path.{sym, ap, ◌∙◌}
use native.Mathlib.Omega.{arith}
use Rattle.forms.specs.Form as F
use Rattle.walk.proofs.Keys.{among_going}
use Rattle.walk.proofs.Places.{goes, goes_on_lem, opens-on, size_less, width-on, end_on, rest-on, either-on}
use Rattle.walk.proofs.+width.Goals as goal

pub width-requires : goal.width-requires
width-requires t c =
    let a = c.args in
    let g = a.grammar.now in
    let mark = c.mark_at-mark.result in
    let place = c.part_behind-next.result in
    let is-mark = c.mark_at-mark.ensures.is in
    let leads = c.part_behind-next.ensures in
    let on = goes g a.t mark place is-mark leads (opens-on c.in-Opens.is) in
    let past = c.behind_mark.ensures.on in
    (omega arith, tt)

pub width-requires-in_default : goal.width-requires-in_default
width-requires-in_default t c =
    let a = c.args in
    let g = a.grammar.now in
    let mark = c.mark_at-mark.result in
    let place = c.part_behind-next.result in
    let is-mark = c.mark_at-mark.ensures.is in
    let leads = c.part_behind-next.ensures in
    let on = goes g a.t mark place is-mark leads (goes_on_lem mark (among_going mark c.in_default.not-End c.in_default.not-Rest c.in_default.not-Opens)) in
    (omega arith, tt)

pub overflow_add-result : goal.overflow_add-result
overflow_add-result t c =
    let a = c.args in
    let g = a.grammar.now in
    let mark = c.mark_at-mark.result in
    let place = c.part_behind-next.result in
    let is-mark = c.mark_at-mark.ensures.is in
    let leads = c.part_behind-next.ensures in
    let less = size_less g a.t mark place is-mark leads in
    let size = c.size.ensures in
    let small = c.width-in_default.ensures.small in
    omega arith

pub returns-in-End : goal.returns-in-End
returns-in-End t c =
    let a = c.args in
    let g = a.grammar.now in
    let mark = c.mark_at-mark.result in
    let place = c.part_behind-next.result in
    let is-mark = c.mark_at-mark.ensures.is in
    let leads = c.part_behind-next.ensures in
    let end = end_on g a.t mark place is-mark leads c.in-End.is in
    record { is = sym (ap F.width end); small = omega arith }

pub returns-in-Rest : goal.returns-in-Rest
returns-in-Rest t c =
    let a = c.args in
    let g = a.grammar.now in
    let mark = c.mark_at-mark.result in
    let place = c.part_behind-next.result in
    let is-mark = c.mark_at-mark.ensures.is in
    let leads = c.part_behind-next.ensures in
    let rest = rest-on g a.t mark place is-mark leads c.in-Rest.is in
    record { is = sym (ap F.width rest); small = omega arith }

pub returns-in-Opens : goal.returns-in-Opens
returns-in-Opens t c =
    let a = c.args in
    let g = a.grammar.now in
    let mark = c.mark_at-mark.result in
    let place = c.part_behind-next.result in
    let is-mark = c.mark_at-mark.ensures.is in
    let leads = c.part_behind-next.ensures in
    let without = either-on g a.t mark place is-mark leads c.in-Opens.is c.behind_mark.result c.behind_mark.ensures in
    let on = goes g a.t mark place is-mark leads (opens-on c.in-Opens.is) in
    let past = c.behind_mark.ensures.on in
    let small = c.width.ensures.small in
    record { is = c.width.ensures.is ∙ sym (ap F.width without); small = omega arith }

pub returns-in_default : goal.returns-in_default
returns-in_default t c =
    let a = c.args in
    let g = a.grammar.now in
    let mark = c.mark_at-mark.result in
    let place = c.part_behind-next.result in
    let is-mark = c.mark_at-mark.ensures.is in
    let leads = c.part_behind-next.ensures in
    let key = among_going mark c.in_default.not-End c.in_default.not-Rest c.in_default.not-Opens in
    let on = goes g a.t mark place is-mark leads (goes_on_lem mark key) in
    let less = size_less g a.t mark place is-mark leads in
    let whole = width-on g a.t mark place is-mark leads key in
    let size = c.size.ensures in
    let small = c.width-in_default.ensures.small in
    let more = c.width-in_default.ensures.is in
    let all = c.mark_at-mark.ensures.sized in
    record { is = omega arith; small = omega arith }
