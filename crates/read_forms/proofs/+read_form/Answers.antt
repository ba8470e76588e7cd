use Rattle.std.proofs.Common.{◌≡◌, true, false, sym, refl, ap, ◌∙◌, arith}
use Rattle.std.proofs.lemmas.Result.{err_from_is_err_and}
use Rattle.words.specs.Words.{begins}
use Rattle.lexing.specs.Places.{word_at, words_at, ends_line, after_word}
use Rattle.forms.specs.Form.{width}
use Rattle.walk.specs.declared.Mark.TheVariants.{End, Rest, MayEnd, Opens, Silent}
use Rattle.walk.specs.Marks.{mark_at}
use Rattle.read_forms.specs.Reads.{is_row, form_at, want_of, want_at}
use Rattle.read_forms.proofs.Rows.{end-heard, zeros-heard, may-on, row, is-row, among_wordy, wordy_moving, ahead, row-may, row_silent, row_with, row_without}
use Rattle.read_forms.proofs.Rows.{row-flags, row-part, form-is, flags-behind, flags-fine, flags-few, part-is, part-fine, done-is, rest-is, may-is, silent_is, clause_is}
use Rattle.read_forms.proofs.Rows.{flags-is, word-is, piece_stopped, piece_passed}
use Rattle.read_forms.proofs.+read_form.Goals as goal

pub returns-then-ends_line : goal.returns-then-ends_line
returns-then-ends_line t c =
    let a = c.args in
    let g = a.grammar.now in
    let text = a.text.now in
    let e : MayEnd ≡ mark_at g a.t = sym c.in-MayEnd.is ∙ c.mark_at-mark.ensures.is in
    let next = c.after_word-next.ensures in
    let line = ap (ends_line text) (sym c.next_word.ensures) ∙ sym c.ends_line.ensures ∙ c.if-ends_line.true in
    let put_all_lem = rw (c.width.ensures.is ∙ ap (λ n. width (form_at g n)) next) at c.put_times.ensures in
    λ r. rw (may-is g a.t (words_at text a.at) e) (zeros-heard text a.at (want_at g) _ a.to (form_at g (after_word g a.t)) _ _ line put_all_lem)

pub read_form-requires : goal.read_form-requires
read_form-requires t c =
    let a = c.args in
    let g = a.grammar.now in
    let text = a.text.now in
    let e : MayEnd ≡ mark_at g a.t = sym c.in-MayEnd.is ∙ c.mark_at-mark.ensures.is in
    let next = c.after_word-next.ensures in
    let go = ahead g a.t MayEnd e refl in
    (omega (arith, c.decreases, go.0, go.1), tt)

pub read_form-requires-then-goes_on : goal.read_form-requires-then-goes_on
read_form-requires-then-goes_on t c =
    let a = c.args in
    let g = a.grammar.now in
    let text = a.text.now in
    let e : Opens ≡ mark_at g a.t = sym c.in-Opens.is ∙ c.mark_at-mark.ensures.is in
    let next = c.after_word-with.ensures in
    let go = ahead g a.t Opens e refl in
    (omega (arith, c.decreases, go.0, go.1), tt)

pub returns-then-goes_on : goal.returns-then-goes_on
returns-then-goes_on t c =
    let a = c.args in
    let g = a.grammar.now in
    let text = a.text.now in
    let e : Opens ≡ mark_at g a.t = sym c.in-Opens.is ∙ c.mark_at-mark.ensures.is in
    let next = c.after_word-with.ensures in
    let there = ap (λ n. begins (word_at g n) (words_at text a.at)) (sym next) ∙ sym c.goes_on.ensures ∙ c.if-goes_on.true in
    λ r.
    let known = row (words_at g a.t) r in
    let more = ap (λ n. is_row (words_at g n)) next ∙ is-row (row_with g a.t e known) in
    rw (clause_is g a.t (words_at text a.at) e known true there) (rw next at (c.read_form-then-goes_on.ensures more))

pub read_form-requires-in-Opens : goal.read_form-requires-in-Opens
read_form-requires-in-Opens t c =
    let a = c.args in
    let g = a.grammar.now in
    let text = a.text.now in
    let e : Opens ≡ mark_at g a.t = sym c.in-Opens.is ∙ c.mark_at-mark.ensures.is in
    let next = c.after_word-with.ensures in
    let on = c.behind_mark-without.ensures.on in
    let go = ahead g a.t Opens e refl in
    (omega (arith, c.decreases, go.0, go.1), tt)

pub read_form-requires-in-Silent : goal.read_form-requires-in-Silent
read_form-requires-in-Silent t c =
    let a = c.args in
    let g = a.grammar.now in
    let text = a.text.now in
    let e : Silent ≡ mark_at g a.t = sym c.in-Silent.is ∙ c.mark_at-mark.ensures.is in
    let next = c.after_word.ensures in
    let go = ahead g a.t Silent e refl in
    (omega (arith, c.decreases, go.0, go.1), tt)

pub returns-in_err-read-in-Flags : goal.returns-in_err-read-in-Flags
returns-in_err-read-in-Flags t c =
    let a = c.args in
    let g = a.grammar.now in
    let text = a.text.now in
    let e = sym c.in-Flags.is ∙ c.mark_at-mark.ensures.is in
    λ r.
    let known = row (words_at g a.t) r in
    let said = c.read_flags.ensures (flags-fine g a.t _ e known) (flags-few g a.t _ e known) (ap want_of (form-is g a.t _ e)) in
    let p = err_from_is_err_and c.from_residual.result c.from_residual.ensures.1 in
    rw (p.1, p.2)
    (piece_stopped text a.at _ _ _ (flags-is g a.t (words_at text a.at) _ e) (want_at g) _ a.to _ _ _ c.in_err-read-in-Flags.was said)

pub read_form-requires-in-Flags : goal.read_form-requires-in-Flags
read_form-requires-in-Flags t c =
    let a = c.args in
    let g = a.grammar.now in
    let text = a.text.now in
    let e = sym c.in-Flags.is ∙ c.mark_at-mark.ensures.is in
    let on = c.part_behind-next.ensures.on in
    let go = ahead g a.t _ e refl in
    (omega (arith, c.decreases, go.0, go.1), tt)

pub returns-in_err-read-in_default : goal.returns-in_err-read-in_default
returns-in_err-read-in_default t c =
    let a = c.args in
    let g = a.grammar.now in
    let text = a.text.now in
    let e = c.mark_at-mark.ensures.is in
    let d = c.in_default in
    let one_word = among_wordy _ d.not-End d.not-Rest d.not-MayEnd d.not-Opens d.not-Silent d.not-Flags in
    λ r.
    let known = row (words_at g a.t) r in
    let said = c.read_word.ensures (part-fine g a.t _ one_word e known) (ap want_of (part-is g a.t _ one_word e known)) in
    let p = err_from_is_err_and c.from_residual-in_err-read-in_default.result c.from_residual-in_err-read-in_default.ensures.1 in
    rw (p.1, p.2)
    (piece_stopped text a.at _ _ _ (word-is g a.t (words_at text a.at) _ one_word e known) (want_at g) _ a.to _ _ _ c.in_err-read-in_default.was said)

pub read_form-requires-in_default : goal.read_form-requires-in_default
read_form-requires-in_default t c =
    let a = c.args in
    let g = a.grammar.now in
    let text = a.text.now in
    let e = c.mark_at-mark.ensures.is in
    let d = c.in_default in
    let one_word = among_wordy _ d.not-End d.not-Rest d.not-MayEnd d.not-Opens d.not-Silent d.not-Flags in
    let on = c.part_behind-next-in_default.ensures.on in
    let go = ahead g a.t _ e (wordy_moving c.mark_at-mark.result one_word) in
    (omega (arith, c.decreases, go.0, go.1), tt)

pub returns-in-End : goal.returns-in-End
returns-in-End t c =
    let a = c.args in
    let g = a.grammar.now in
    let text = a.text.now in
    let e : End ≡ mark_at g a.t = sym c.in-End.is ∙ c.mark_at-mark.ensures.is in
    λ r. rw (done-is g a.t (words_at text a.at) e, c.read_end.ensures) (end-heard text a.at (want_at g) _ a.to a.t (ap want_of (form-is g a.t End e)))

pub returns-in-Rest : goal.returns-in-Rest
returns-in-Rest t c =
    let a = c.args in
    let g = a.grammar.now in
    let text = a.text.now in
    let e : Rest ≡ mark_at g a.t = sym c.in-Rest.is ∙ c.mark_at-mark.ensures.is in
    λ r. rw (rest-is g a.t (words_at text a.at) e) (c.read_rest.ensures (want_at g) (ap want_of (form-is g a.t Rest e)))

pub returns-else-ends_line : goal.returns-else-ends_line
returns-else-ends_line t c =
    let a = c.args in
    let g = a.grammar.now in
    let text = a.text.now in
    let e : MayEnd ≡ mark_at g a.t = sym c.in-MayEnd.is ∙ c.mark_at-mark.ensures.is in
    let next = c.after_word-next.ensures in
    let line = ap (ends_line text) (sym c.next_word.ensures) ∙ sym c.ends_line.ensures ∙ c.if-ends_line.false in
    λ r.
    let more = ap (λ n. is_row (words_at g n)) next ∙ is-row (row-may g a.t e (row (words_at g a.t) r)) in
    rw (may-is g a.t (words_at text a.at) e, may-on text a.at (form_at g (after_word g a.t)) line) (rw next at (c.read_form.ensures more))

pub returns-else-goes_on : goal.returns-else-goes_on
returns-else-goes_on t c =
    let a = c.args in
    let g = a.grammar.now in
    let text = a.text.now in
    let e : Opens ≡ mark_at g a.t = sym c.in-Opens.is ∙ c.mark_at-mark.ensures.is in
    let next = c.after_word-with.ensures in
    let there = ap (λ n. begins (word_at g n) (words_at text a.at)) (sym next) ∙ sym c.goes_on.ensures ∙ c.if-goes_on.false in
    let says = rw next at c.behind_mark-without.ensures.says in
    λ r.
    let known = row (words_at g a.t) r in
    let more = ap is_row says ∙ is-row (row_without g a.t e known) in
    rw (clause_is g a.t (words_at text a.at) e known false there) (rw says at (c.read_form-in-Opens.ensures more))

pub returns-in-Silent : goal.returns-in-Silent
returns-in-Silent t c =
    let a = c.args in
    let g = a.grammar.now in
    let text = a.text.now in
    let e : Silent ≡ mark_at g a.t = sym c.in-Silent.is ∙ c.mark_at-mark.ensures.is in
    let next = c.after_word.ensures in
    λ r.
    let more = ap (λ n. is_row (words_at g n)) next ∙ is-row (row_silent g a.t e (row (words_at g a.t) r)) in
    rw (silent_is g a.t (words_at text a.at) e) (rw next at (c.read_form-in-Silent.ensures more))

pub returns-in_ok-read-in-Flags : goal.returns-in_ok-read-in-Flags
returns-in_ok-read-in-Flags t c =
    let a = c.args in
    let g = a.grammar.now in
    let text = a.text.now in
    let e = sym c.in-Flags.is ∙ c.mark_at-mark.ensures.is in
    λ r.
    let known = row (words_at g a.t) r in
    let said = c.read_flags.ensures (flags-fine g a.t _ e known) (flags-few g a.t _ e known) (ap want_of (form-is g a.t _ e)) in
    let says = c.part_behind-next.ensures.says ∙ flags-behind _ (words_at g (after_word g a.t)) in
    let more = ap is_row says ∙ is-row (row-flags g a.t _ e known) in
    piece_passed text a.at _ _ _ (flags-is g a.t (words_at text a.at) _ e) (want_at g) _ a.to _ _ _ c.in_ok-read-in-Flags.was said _ _
    (rw says at (c.read_form-in-Flags.ensures more))

pub returns-in_ok-read-in_default : goal.returns-in_ok-read-in_default
returns-in_ok-read-in_default t c =
    let a = c.args in
    let g = a.grammar.now in
    let text = a.text.now in
    let e = c.mark_at-mark.ensures.is in
    let d = c.in_default in
    let one_word = among_wordy _ d.not-End d.not-Rest d.not-MayEnd d.not-Opens d.not-Silent d.not-Flags in
    λ r.
    let known = row (words_at g a.t) r in
    let said = c.read_word.ensures (part-fine g a.t _ one_word e known) (ap want_of (part-is g a.t _ one_word e known)) in
    let says = c.part_behind-next-in_default.ensures.says in
    let more = ap is_row says ∙ is-row (row-part g a.t _ one_word e known) in
    piece_passed text a.at _ _ _ (word-is g a.t (words_at text a.at) _ one_word e known) (want_at g) _ a.to _ _ _ c.in_ok-read-in_default.was said _ _
    (rw says at (c.read_form-in_default.ensures more))
