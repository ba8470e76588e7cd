use Rattle.std.proofs.Common.{◌+◌, ◌%◌, ◌^◌, ◌||◌, sym, ap, ◌∙◌, ap₂, arith}
use Rattle.lexing.proofs.Steps.{in_line_lem}
use Rattle.walk.proofs.Places.{moves}
use Rattle.read_forms.proofs.Laws.{after-begins, names-end, names-on, gathered_one, gathered_none, gathered_end}
use Rattle.read_forms.proofs.+read_names.Goals as goal

pub returns-then-is_mark-ends_line : goal.returns-then-is_mark-ends_line
returns-then-is_mark-ends_line t c =
    let a = c.args in
    rw (names-end a.grammar.now a.name 125 c.requires
    (ap₂ ◌||◌ (sym c.is_mark.ensures) (sym c.ends_line.ensures) ∙ c.if-is_mark-ends_line.true))
    (gathered_end a.text.now a.at)

pub read_names-above-requires : goal.read_names-above-requires
read_names-above-requires t c =
    let a = c.args in
    let g = a.grammar.now in
    let more = names-on g a.name 125 c.requires (ap₂ ◌||◌ (sym c.is_mark.ensures) (sym c.ends_line.ensures) ∙ c.if-is_mark-ends_line.false) in
    let behind = c.after_word-next.ensures in
    let on = moves g a.name more.0 in
    let inside = in_line_lem g a.name more.0 in
    (omega arith, rw behind (after-begins g a.name))

pub returns-then-goes_on : goal.returns-then-goes_on
returns-then-goes_on t c =
    let a = c.args in
    let g = a.grammar.now in
    let more = names-on g a.name 125 c.requires (ap₂ ◌||◌ (sym c.is_mark.ensures) (sym c.ends_line.ensures) ∙ c.if-is_mark-ends_line.false) in
    let said = sym c.goes_on.ensures ∙ c.if-goes_on.true in
    let bits = c.wrapping_add_u64.ensures.value ∙ ap (λ n. (n + 1) % 2 ^ 64) c.wrapping_add_u64-doubled.ensures.value in
    rw (more.1, bits)
    (gathered_one a.text.now a.at _ _ _ _ said (rw (c.behind_word.ensures, c.after_word-next.ensures) at c.read_names-above.ensures))

pub read_names-above-requires-2 : goal.read_names-above-requires-2
read_names-above-requires-2 t c =
    let a = c.args in
    let g = a.grammar.now in
    let more = names-on g a.name 125 c.requires (ap₂ ◌||◌ (sym c.is_mark.ensures) (sym c.ends_line.ensures) ∙ c.if-is_mark-ends_line.false) in
    let behind = c.after_word-next.ensures in
    let on = moves g a.name more.0 in
    let inside = in_line_lem g a.name more.0 in
    (omega arith, rw behind (after-begins g a.name))

pub returns : goal.returns
returns t c =
    let a = c.args in
    let g = a.grammar.now in
    let more = names-on g a.name 125 c.requires (ap₂ ◌||◌ (sym c.is_mark.ensures) (sym c.ends_line.ensures) ∙ c.if-is_mark-ends_line.false) in
    let said = sym c.goes_on.ensures ∙ c.if-goes_on.false in
    rw (more.1, c.wrapping_add_u64-2.ensures.value)
    (gathered_none a.text.now a.at _ _ _ _ said (rw c.after_word-next.ensures at c.read_names-above-2.ensures))
