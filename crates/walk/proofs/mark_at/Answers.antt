use mathlib.Core.Path.{◌≡◌, sym, ap, ap₂, ◌∙◌}
use mathlib.Core.Bool.{false}
use mathlib.Core.List.{[], ◌∷◌}
use Prim.Native.Nat.{◌-◌, ◌≤◌}
use native.Mathlib.Omega.{arith}
use Rattle.lexing.specs.Places.{ends_line}
use Rattle.walk.specs.Marks.{mark_of}
use Rattle.walk.proofs.Places.{end_more, mark_end, mark_none, mark_one, mark_two, mark_more}
use Rattle.walk.proofs.mark_at.Goals as goal

pub returns-then-ends_line : goal.returns-then-ends_line
returns-then-ends_line c =
    let a = c.args in
    record { is = sym (mark_end a.grammar.now a.t (sym c.ends_line.ensures ∙ c.if-ends_line.true)); sized = omega arith }

pub overflow_sub-word_end : goal.overflow_sub-word_end
overflow_sub-word_end c =
    let a = c.args in
    rw c.word_end.ensures (end_more a.grammar.now a.t)

pub returns-in-0 : goal.returns-in-0
returns-in-0 c =
    let a = c.args in
    let line : ends_line a.grammar.now a.t ≡ false = sym c.ends_line.ensures ∙ c.if-ends_line.false in
    let size = ap (λ n. n - a.t) (sym c.word_end.ensures) in
    record { is = sym (mark_none a.grammar.now a.t line (size ∙ c.in-0.is)); sized = omega arith }

pub returns-in-1 : goal.returns-in-1
returns-in-1 c =
    let a = c.args in
    let line : ends_line a.grammar.now a.t ≡ false = sym c.ends_line.ensures ∙ c.if-ends_line.false in
    let size = ap (λ n. n - a.t) (sym c.word_end.ensures) in
    let is = c.letter_mark.ensures
    ∙ ap (λ b. mark_of (b ∷ [])) c.byte_at-first.ensures
    ∙ sym (mark_one a.grammar.now a.t line (size ∙ c.in-1.is)) in
    record { is = is; sized = omega arith }

pub returns-in-2 : goal.returns-in-2
returns-in-2 c =
    let a = c.args in
    let line : ends_line a.grammar.now a.t ≡ false = sym c.ends_line.ensures ∙ c.if-ends_line.false in
    let size = ap (λ n. n - a.t) (sym c.word_end.ensures) in
    let is = c.sized_mark.ensures
    ∙ ap₂ (λ b d. mark_of (b ∷ d ∷ [])) c.byte_at-first.ensures c.byte_at.ensures
    ∙ sym (mark_two a.grammar.now a.t line (size ∙ c.in-2.is)) in
    record { is = is; sized = omega arith }

pub returns-in_default : goal.returns-in_default
returns-in_default c =
    let a = c.args in
    let line : ends_line a.grammar.now a.t ≡ false = sym c.ends_line.ensures ∙ c.if-ends_line.false in
    let more : 3 ≤ c.word_end.result - a.t = omega arith in
    record { is = sym (mark_more a.grammar.now a.t line (rw c.word_end.ensures at more)); sized = omega arith }
