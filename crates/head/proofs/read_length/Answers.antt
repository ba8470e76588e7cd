use native.Mathlib.Omega.{arith}
use mathlib.Core.Path.{sym, ap, ◌∙◌}
use Prim.Native.Nat.{◌+◌}
use Rattle.head.specs.Head.{head_within}
use Rattle.head.proofs.Heads.{plain_length_lem, length_81, length_82, other_length}
use Rattle.head.proofs.read_length.Goals as goal

pub returns-then-lead-lt128 : goal.returns-then-lead-lt128
returns-then-lead-lt128 c =
    let a = c.args in
    let e = c.byte_at-lead.ensures in
    let s = a.s.now in
    c.head_within.ensures ∙ ap (head_within s (a.at + 1)) e ∙ sym (plain_length_lem s a.at (omega (arith, c.if-lead-lt128.true)))

pub returns-then-lead : goal.returns-then-lead
returns-then-lead c =
    let a = c.args in
    let s = a.s.now in
    c.head_within-then-lead.ensures ∙ ap (head_within s (a.at + 2)) c.byte_at.ensures ∙ sym (length_81 s a.at (sym c.byte_at-lead.ensures ∙ c.if-lead.true))

pub returns-then-lead-2 : goal.returns-then-lead-2
returns-then-lead-2 c =
    let a = c.args in
    let s = a.s.now in
    c.head_within-then-lead-2.ensures ∙ ap (head_within s (a.at + 3)) c.u16_at.ensures ∙ sym (length_82 s a.at (sym c.byte_at-lead.ensures ∙ c.if-lead-2.true))

pub returns : goal.returns
returns c =
    let a = c.args in
    let e = c.byte_at-lead.ensures in
    let h = c.if-lead-lt128.false in
    sym (other_length a.s.now a.at (λ z. omega arith) (λ z. c.if-lead.false (e ∙ z)) (λ z. c.if-lead-2.false (e ∙ z)))
