use mathlib.Core.Path.{sym, ap, ◌∙◌}
use Prim.Native.Nat.{◌-◌}
use Rattle.walk.proofs.Places.{end_more, same-one, same-other}
use Rattle.walk.proofs.is_mark.Goals as goal

pub overflow_sub-word_end : goal.overflow_sub-word_end
overflow_sub-word_end c = let a = c.args in rw c.word_end.ensures (end_more a.grammar.now a.t)

pub returns-then-word_end-t-ne1 : goal.returns-then-word_end-t-ne1
returns-then-word_end-t-ne1 c =
    let a = c.args in
    sym (same-other a.grammar.now a.t a.mark (λ e. c.if-word_end-t-ne1.true (ap (λ n. n - a.t) c.word_end.ensures ∙ e)))

pub returns : goal.returns
returns c =
    let a = c.args in
    rw c.byte_at.ensures (sym (same-one a.grammar.now a.t a.mark (ap (λ n. n - a.t) (sym c.word_end.ensures) ∙ c.if-word_end-t-ne1.false)))
