use borrow.Author.Rules.{rules}
use borrow.Author.Tests.{eq-eqb, ne_eqb}
use mathlib.Core.Path.{sym, ◌∙◌}
use Rattle.second.specs.Second.{second_performed}
use Rattle.second.proofs.perform.Goals as goal

pub returns-then-is_unable : goal.returns-then-is_unable
unfolding second_performed
returns-then-is_unable c = simp (sym c.is_unable.ensures ∙ c.if-is_unable.true, c.unable.ensures)

pub returns-then-second-eq1 : goal.returns-then-second-eq1
unfolding second_performed
returns-then-second-eq1 c =
    let able = c in
    simp (sym able.is_unable.ensures ∙ able.if-is_unable.false, eq-eqb _ _ c.if-second-eq1.true, c.verified.ensures)

pub returns-then-second-eq2 : goal.returns-then-second-eq2
unfolding second_performed
returns-then-second-eq2 c =
    let unverified = c in
    let able = unverified in
    simp (
      sym able.is_unable.ensures ∙ able.if-is_unable.false,
      ne_eqb _ _ unverified.if-second-eq1.false,
      eq-eqb _ _ c.if-second-eq2.true,
      c.failed.ensures,
    )

pub returns : goal.returns
unfolding second_performed
returns c =
    let unverified = c in
    let able = unverified in
    simp (
      sym able.is_unable.ensures ∙ able.if-is_unable.false,
      ne_eqb _ _ unverified.if-second-eq1.false,
      ne_eqb _ _ c.if-second-eq2.false,
      c.absent.ensures,
    )
