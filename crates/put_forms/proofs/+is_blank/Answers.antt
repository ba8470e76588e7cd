use mathlib.Core.Path.{sym, ap, ◌∙◌}
use mathlib.Core.Bool.{Bool, ◌&&◌}
use mathlib.Core.List.{List}
use Prim.Native.Nat.{ℕ}
use native.Mathlib.Omega.{arith}
use lib.ListN.{drop}
use Rattle.lexing.specs.Places.{words_at}
use Rattle.forms.specs.Form.{bytes_at, said, is_blank}
use Rattle.forms.specs.Grammar.{form_in}
use Rattle.walk.specs.Marks.{size_of}
use Rattle.walk.proofs.Keys.{among_going}
use Rattle.walk.proofs.Places.{goes, goes_on_lem, opens-on}
use Rattle.put_forms.proofs.Rows.{blank-end, blank-rest, blank_with, blank_without, blank_part}
use Rattle.put_forms.proofs.+is_blank.Goals as goal

pub is_blank-requires : goal.is_blank-requires
is_blank-requires t c =
    let g = c.args.grammar.now in
    let t = c.args.t in
    let s = c.args.bytes.now in
    let mark = c.mark_at-mark.result in
    let place = c.part_behind-next.result in
    let is-mark = c.mark_at-mark.ensures.is in
    let leads = c.part_behind-next.ensures in
    let on = goes g t mark place is-mark leads (opens-on c.in-Opens.is) in
    (omega arith, tt)

pub returns-then-fits : goal.returns-then-fits
returns-then-fits t c =
    let g = c.args.grammar.now in
    let t = c.args.t in
    let s = c.args.bytes.now in
    let mark = c.mark_at-mark.result in
    let place = c.part_behind-next.result in
    let is-mark = c.mark_at-mark.ensures.is in
    let leads = c.part_behind-next.ensures in
    c.is_blank.ensures ∙ sym (blank_with g t mark place is-mark leads s c.in-Opens.is (sym c.fits.ensures ∙ c.if-fits.true))

pub is_blank-requires-in-Opens : goal.is_blank-requires-in-Opens
is_blank-requires-in-Opens t c =
    let g = c.args.grammar.now in
    let t = c.args.t in
    let s = c.args.bytes.now in
    let mark = c.mark_at-mark.result in
    let place = c.part_behind-next.result in
    let is-mark = c.mark_at-mark.ensures.is in
    let leads = c.part_behind-next.ensures in
    let on = goes g t mark place is-mark leads (opens-on c.in-Opens.is) in
    let past = c.behind_mark.ensures.on in
    (omega arith, tt)

pub returns-then-not-are_zeros : goal.returns-then-not-are_zeros
returns-then-not-are_zeros t c =
    let g = c.args.grammar.now in
    let t = c.args.t in
    let s = c.args.bytes.now in
    let mark = c.mark_at-mark.result in
    let place = c.part_behind-next.result in
    let is-mark = c.mark_at-mark.ensures.is in
    let leads = c.part_behind-next.ensures in
    let no = ap (λ (n : ℕ). is_blank (bytes_at s 0 n)) (sym c.size-count.ensures) ∙ sym c.are_zeros-in_default.ensures ∙ c.if-not-are_zeros.true in
    sym (blank_part g t mark place is-mark leads s (among_going mark c.in_default.not-End c.in_default.not-Rest c.in_default.not-Opens)
    ∙ ap (λ (b : Bool). b && is_blank (said (form_in (words_at g place)) (drop (size_of mark) s) 0)) no)

pub is_blank-requires-in_default : goal.is_blank-requires-in_default
is_blank-requires-in_default t c =
    let g = c.args.grammar.now in
    let t = c.args.t in
    let s = c.args.bytes.now in
    let mark = c.mark_at-mark.result in
    let place = c.part_behind-next.result in
    let is-mark = c.mark_at-mark.ensures.is in
    let leads = c.part_behind-next.ensures in
    let on = goes g t mark place is-mark leads (goes_on_lem mark (among_going mark c.in_default.not-End c.in_default.not-Rest c.in_default.not-Opens)) in
    (omega arith, tt)

pub returns-in-End : goal.returns-in-End
returns-in-End t c =
    let g = c.args.grammar.now in
    let t = c.args.t in
    let s = c.args.bytes.now in
    let mark = c.mark_at-mark.result in
    let place = c.part_behind-next.result in
    let is-mark = c.mark_at-mark.ensures.is in
    let leads = c.part_behind-next.ensures in
    sym (blank-end g t mark place is-mark leads s c.in-End.is)

pub returns-in-Rest : goal.returns-in-Rest
returns-in-Rest t c =
    let g = c.args.grammar.now in
    let t = c.args.t in
    let s = c.args.bytes.now in
    let mark = c.mark_at-mark.result in
    let place = c.part_behind-next.result in
    let is-mark = c.mark_at-mark.ensures.is in
    let leads = c.part_behind-next.ensures in
    c.are_zeros.ensures ∙ sym (blank-rest g t mark place is-mark leads s c.in-Rest.is)

pub returns-else-fits : goal.returns-else-fits
returns-else-fits t c =
    let g = c.args.grammar.now in
    let t = c.args.t in
    let s = c.args.bytes.now in
    let mark = c.mark_at-mark.result in
    let place = c.part_behind-next.result in
    let is-mark = c.mark_at-mark.ensures.is in
    let leads = c.part_behind-next.ensures in
    c.is_blank-in-Opens.ensures
    ∙ sym (blank_without g t mark place is-mark leads s c.in-Opens.is c.behind_mark.result c.behind_mark.ensures
    (sym c.fits.ensures ∙ c.if-fits.false))

pub returns-else-not-are_zeros : goal.returns-else-not-are_zeros
returns-else-not-are_zeros t c =
    let g = c.args.grammar.now in
    let t = c.args.t in
    let s = c.args.bytes.now in
    let mark = c.mark_at-mark.result in
    let place = c.part_behind-next.result in
    let is-mark = c.mark_at-mark.ensures.is in
    let leads = c.part_behind-next.ensures in
    let on = form_in (words_at g place) in
    let yes = ap (λ (n : ℕ). is_blank (bytes_at s 0 n)) (sym c.size-count.ensures) ∙ sym c.are_zeros-in_default.ensures ∙ c.if-not-are_zeros.false in
    let rest = c.bytes_behind.ensures ∙ ap (λ (n : ℕ). drop n s) c.size-count.ensures in
    c.is_blank-in_default.ensures
    ∙ ap (λ (b : List ℕ). is_blank (said on b 0)) rest
    ∙ sym (blank_part g t mark place is-mark leads s (among_going mark c.in_default.not-End c.in_default.not-Rest c.in_default.not-Opens)
    ∙ ap (λ (b : Bool). b && is_blank (said on (drop (size_of mark) s) 0)) yes)
