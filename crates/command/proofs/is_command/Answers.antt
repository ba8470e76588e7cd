use borrow.Author.Tests.{eq-eqb, ne_eqb}
use mathlib.Core.Path.{sym, ◌∙◌}
use Rattle.command.proofs.is_command.Goals as goal

pub returns-then-selects : goal.returns-then-selects
returns-then-selects c =
    let tested = c in
    simp (sym tested.selects.ensures ∙ c.if-selects.true, c.is_cpace.ensures)

pub returns-then-kind-eq-START : goal.returns-then-kind-eq-START
returns-then-kind-eq-START c =
    let start = c in
    let tested = start in
    simp (sym tested.selects.ensures ∙ start.if-selects.false, eq-eqb _ _ start.if-kind-eq-START.true, c.start_length.ensures)

pub returns-then-kind-eq-FIRST : goal.returns-then-kind-eq-FIRST
returns-then-kind-eq-FIRST c =
    let first = c in
    let start = first in
    let tested = start in
    simp (
      sym tested.selects.ensures ∙ start.if-selects.false,
      ne_eqb _ _ start.if-kind-eq-START.false,
      eq-eqb _ _ first.if-kind-eq-FIRST.true,
      c.first_length.ensures,
    )

pub returns : goal.returns
returns c =
    let start = c in
    let tested = start in
    simp (sym tested.selects.ensures ∙ start.if-selects.false, ne_eqb _ _ start.if-kind-eq-START.false, ne_eqb _ _ c.if-kind-eq-FIRST.false)
