use borrow.Author.Rules.{rules}
use borrow.Author.Tests.{eq-eqb, ne_eqb}
use mathlib.Core.Path.{sym, ◌∙◌}
use Rattle.decision.specs.Decision.{decision}
use Rattle.decision.proofs.decide.Goals as goal

pub returns-then-requested-eq0 : goal.returns-then-requested-eq0
unfolding decision
returns-then-requested-eq0 c = simp (eq-eqb _ _ c.if-requested-eq0.true)

pub returns-then-meets : goal.returns-then-meets
unfolding decision
returns-then-meets c = simp (ne_eqb _ _ c.if-requested-eq0.false, sym c.meets.ensures ∙ c.if-meets.true)

pub returns-then-requested-eq2 : goal.returns-then-requested-eq2
unfolding decision
returns-then-requested-eq2 c =
    let decline = c in
    simp (ne_eqb _ _ decline.if-requested-eq0.false, sym decline.meets.ensures ∙ c.if-meets.false, eq-eqb _ _ c.if-requested-eq2.true)

pub returns-then-meets-2 : goal.returns-then-meets-2
unfolding decision
returns-then-meets-2 c =
    let terminal = c in
    let requested = terminal in
    let decline = requested in
    simp (
      ne_eqb _ _ decline.if-requested-eq0.false,
      sym decline.meets.ensures ∙ requested.if-meets.false,
      ne_eqb _ _ requested.if-requested-eq2.false,
      sym terminal.is_offline_only.ensures ∙ terminal.if-is_offline_only.true,
      sym c.meets-then-is_offline_only.ensures ∙ c.if-meets-2.true,
    )

pub returns-then-is_offline_only : goal.returns-then-is_offline_only
unfolding decision
returns-then-is_offline_only c =
    let terminal = c in
    let requested = terminal in
    let decline = requested in
    simp (
      ne_eqb _ _ decline.if-requested-eq0.false,
      sym decline.meets.ensures ∙ requested.if-meets.false,
      ne_eqb _ _ requested.if-requested-eq2.false,
      sym terminal.is_offline_only.ensures ∙ terminal.if-is_offline_only.true,
      sym c.meets-then-is_offline_only.ensures ∙ c.if-meets-2.false,
    )

pub returns-then-meets-3 : goal.returns-then-meets-3
unfolding decision
returns-then-meets-3 c =
    let terminal = c in
    let requested = terminal in
    let decline = requested in
    simp (
      ne_eqb _ _ decline.if-requested-eq0.false,
      sym decline.meets.ensures ∙ requested.if-meets.false,
      ne_eqb _ _ requested.if-requested-eq2.false,
      sym terminal.is_offline_only.ensures ∙ terminal.if-is_offline_only.false,
      sym c.meets-2.ensures ∙ c.if-meets-3.true,
    )

pub returns : goal.returns
unfolding decision
returns c =
    let terminal = c in
    let requested = terminal in
    let decline = requested in
    simp (
      ne_eqb _ _ decline.if-requested-eq0.false,
      sym decline.meets.ensures ∙ requested.if-meets.false,
      ne_eqb _ _ requested.if-requested-eq2.false,
      sym terminal.is_offline_only.ensures ∙ terminal.if-is_offline_only.false,
      sym c.meets-2.ensures ∙ c.if-meets-3.false,
    )
