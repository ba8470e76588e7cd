use mathlib.Core.Path.{sym, ap, ◌∙◌}
use Prim.Native.Nat.{ℕ}
use native.Mathlib.Omega.{arith}
use lib.Dec.{eqb}
use lib.ListN.{drop}
use Rattle.words.proofs.Puts.{next as on}
use Rattle.walk.specs.declared.Mark.{Mark as Kind}
use Rattle.walk.proofs.Keys.{tag}
use Rattle.walk.proofs.Places.{goes, size_less}
use Rattle.put_forms.proofs.Rows.{among_parts, parts_on, print_end, print_rest_lem, print_over, print_may, print_silent, print_with, print_without, print_flags, print_part}
use Rattle.put_forms.proofs.+put_form.Goals as goal

pub returns-then-is_blank : goal.returns-then-is_blank
returns-then-is_blank t c =
    let g = c.args.grammar.now in
    let t = c.args.t in
    let s = c.args.bytes.now in
    let mark = c.mark_at-mark.result in
    let place = c.part_behind-next.result in
    let is-mark = c.mark_at-mark.ensures.is in
    let leads = c.part_behind-next.ensures in
    rw (print_over g t mark place is-mark leads s c.in-MayEnd.is (sym c.is_blank.ensures ∙ c.if-is_blank.true)) c.put_byte-then-is_blank.ensures

pub put_form-requires : goal.put_form-requires
put_form-requires t c =
    let g = c.args.grammar.now in
    let t = c.args.t in
    let s = c.args.bytes.now in
    let mark = c.mark_at-mark.result in
    let place = c.part_behind-next.result in
    let is-mark = c.mark_at-mark.ensures.is in
    let leads = c.part_behind-next.ensures in
    let moves = goes g t mark place is-mark leads (ap (λ (k : Kind). eqb (tag k) 0) c.in-MayEnd.is) in
    (omega arith, tt)

pub put_form-requires-then-fits : goal.put_form-requires-then-fits
put_form-requires-then-fits t c =
    let g = c.args.grammar.now in
    let t = c.args.t in
    let s = c.args.bytes.now in
    let mark = c.mark_at-mark.result in
    let place = c.part_behind-next.result in
    let is-mark = c.mark_at-mark.ensures.is in
    let leads = c.part_behind-next.ensures in
    let moves = goes g t mark place is-mark leads (ap (λ (k : Kind). eqb (tag k) 0) c.in-Opens.is) in
    (omega arith, tt)

pub returns-then-fits : goal.returns-then-fits
returns-then-fits t c =
    let g = c.args.grammar.now in
    let t = c.args.t in
    let s = c.args.bytes.now in
    let mark = c.mark_at-mark.result in
    let place = c.part_behind-next.result in
    let is-mark = c.mark_at-mark.ensures.is in
    let leads = c.part_behind-next.ensures in
    rw (print_with g t mark place is-mark leads s c.in-Opens.is (sym c.fits.ensures ∙ c.if-fits.true)) c.put_form-then-fits.ensures

pub put_form-requires-in-Opens : goal.put_form-requires-in-Opens
put_form-requires-in-Opens t c =
    let g = c.args.grammar.now in
    let t = c.args.t in
    let s = c.args.bytes.now in
    let mark = c.mark_at-mark.result in
    let place = c.part_behind-next.result in
    let is-mark = c.mark_at-mark.ensures.is in
    let leads = c.part_behind-next.ensures in
    let moves = goes g t mark place is-mark leads (ap (λ (k : Kind). eqb (tag k) 0) c.in-Opens.is) in
    let past = c.behind_mark.ensures.on in
    (omega arith, tt)

pub put_form-requires-in-Silent : goal.put_form-requires-in-Silent
put_form-requires-in-Silent t c =
    let g = c.args.grammar.now in
    let t = c.args.t in
    let s = c.args.bytes.now in
    let mark = c.mark_at-mark.result in
    let place = c.part_behind-next.result in
    let is-mark = c.mark_at-mark.ensures.is in
    let leads = c.part_behind-next.ensures in
    let moves = goes g t mark place is-mark leads (ap (λ (k : Kind). eqb (tag k) 0) c.in-Silent.is) in
    (omega arith, tt)

pub put_flags-end-requires : goal.put_flags-end-requires
put_flags-end-requires t c =
    let g = c.args.grammar.now in
    let t = c.args.t in
    let s = c.args.bytes.now in
    let mark = c.mark_at-mark.result in
    let place = c.part_behind-next.result in
    let is-mark = c.mark_at-mark.ensures.is in
    let leads = c.part_behind-next.ensures in
    rw c.in-Flags.is at (size_less g t mark place is-mark leads)

pub put_form-requires-in-Flags : goal.put_form-requires-in-Flags
put_form-requires-in-Flags t c =
    let g = c.args.grammar.now in
    let t = c.args.t in
    let s = c.args.bytes.now in
    let mark = c.mark_at-mark.result in
    let place = c.part_behind-next.result in
    let is-mark = c.mark_at-mark.ensures.is in
    let leads = c.part_behind-next.ensures in
    let moves = goes g t mark place is-mark leads (ap (λ (k : Kind). eqb (tag k) 0) c.in-Flags.is) in
    (omega arith, tt)

pub put_part-end-requires : goal.put_part-end-requires
put_part-end-requires t c =
    let g = c.args.grammar.now in
    let t = c.args.t in
    let s = c.args.bytes.now in
    let mark = c.mark_at-mark.result in
    let place = c.part_behind-next.result in
    let is-mark = c.mark_at-mark.ensures.is in
    let leads = c.part_behind-next.ensures in
    size_less g t mark place is-mark leads

pub put_form-requires-in_default : goal.put_form-requires-in_default
put_form-requires-in_default t c =
    let g = c.args.grammar.now in
    let t = c.args.t in
    let s = c.args.bytes.now in
    let mark = c.mark_at-mark.result in
    let place = c.part_behind-next.result in
    let is-mark = c.mark_at-mark.ensures.is in
    let leads = c.part_behind-next.ensures in
    let d = c.in_default in
    let moves = goes g t mark place is-mark leads (parts_on mark (among_parts mark d.not-End d.not-Rest d.not-MayEnd d.not-Opens d.not-Silent d.not-Flags)) in
    (omega arith, tt)

pub returns-in-End : goal.returns-in-End
returns-in-End t c =
    let g = c.args.grammar.now in
    let t = c.args.t in
    let s = c.args.bytes.now in
    let mark = c.mark_at-mark.result in
    let place = c.part_behind-next.result in
    let is-mark = c.mark_at-mark.ensures.is in
    let leads = c.part_behind-next.ensures in
    rw (print_end g t mark place is-mark leads s c.in-End.is) c.put_byte.ensures

pub returns-in-Rest : goal.returns-in-Rest
returns-in-Rest t c =
    let g = c.args.grammar.now in
    let t = c.args.t in
    let s = c.args.bytes.now in
    let mark = c.mark_at-mark.result in
    let place = c.part_behind-next.result in
    let is-mark = c.mark_at-mark.ensures.is in
    let leads = c.part_behind-next.ensures in
    rw (print_rest_lem g t mark place is-mark leads s c.in-Rest.is) (on c.put_rest-end.ensures c.put_byte-in-Rest.ensures)

pub returns-else-is_blank : goal.returns-else-is_blank
returns-else-is_blank t c =
    let g = c.args.grammar.now in
    let t = c.args.t in
    let s = c.args.bytes.now in
    let mark = c.mark_at-mark.result in
    let place = c.part_behind-next.result in
    let is-mark = c.mark_at-mark.ensures.is in
    let leads = c.part_behind-next.ensures in
    rw (print_may g t mark place is-mark leads s c.in-MayEnd.is (sym c.is_blank.ensures ∙ c.if-is_blank.false)) c.put_form.ensures

pub returns-else-fits : goal.returns-else-fits
returns-else-fits t c =
    let g = c.args.grammar.now in
    let t = c.args.t in
    let s = c.args.bytes.now in
    let mark = c.mark_at-mark.result in
    let place = c.part_behind-next.result in
    let is-mark = c.mark_at-mark.ensures.is in
    let leads = c.part_behind-next.ensures in
    rw (print_without g t mark place is-mark leads s c.in-Opens.is c.behind_mark.result c.behind_mark.ensures
    (sym c.fits.ensures ∙ c.if-fits.false)) c.put_form-in-Opens.ensures

pub returns-in-Silent : goal.returns-in-Silent
returns-in-Silent t c =
    let g = c.args.grammar.now in
    let t = c.args.t in
    let s = c.args.bytes.now in
    let mark = c.mark_at-mark.result in
    let place = c.part_behind-next.result in
    let is-mark = c.mark_at-mark.ensures.is in
    let leads = c.part_behind-next.ensures in
    rw (print_silent g t mark place is-mark leads s c.in-Silent.is) c.put_form-in-Silent.ensures

pub returns-in-Flags : goal.returns-in-Flags
returns-in-Flags t c =
    let g = c.args.grammar.now in
    let t = c.args.t in
    let s = c.args.bytes.now in
    let mark = c.mark_at-mark.result in
    let place = c.part_behind-next.result in
    let is-mark = c.mark_at-mark.ensures.is in
    let leads = c.part_behind-next.ensures in
    rw (print_flags g t mark place is-mark leads s c.in-Flags.count c.in-Flags.is, ← c.after_word.ensures, ← c.bytes_behind.ensures)
    (on c.put_flags-end.ensures c.put_form-in-Flags.ensures)

pub returns-in_default : goal.returns-in_default
returns-in_default t c =
    let g = c.args.grammar.now in
    let t = c.args.t in
    let s = c.args.bytes.now in
    let mark = c.mark_at-mark.result in
    let place = c.part_behind-next.result in
    let is-mark = c.mark_at-mark.ensures.is in
    let leads = c.part_behind-next.ensures in
    let d = c.in_default in
    let rest = c.bytes_behind-in_default.ensures ∙ ap (λ (n : ℕ). drop n s) c.size.ensures in
    rw (print_part g t mark place is-mark leads s (among_parts mark d.not-End d.not-Rest d.not-MayEnd d.not-Opens d.not-Silent d.not-Flags), ← rest)
    (on c.put_byte-end.ensures (on c.put_part-end.ensures c.put_form-in_default.ensures))
