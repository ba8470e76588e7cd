use Rattle.cycles.specs.Cycles.{timing_of}
use Rattle.cycles.proofs.timing_of.Goals as goal

pub returns-in_default : goal.returns-in_default
unfolding timing_of
returns-in_default c = simp c.in_default.is

pub returns-then-is_before : goal.returns-then-is_before
unfolding timing_of
returns-then-is_before c =
    let told = c in
    simp (told.in-Some.is, ← c.is_before.ensures, c.if-is_before.true)

pub returns : goal.returns
unfolding timing_of
returns c =
    let told = c in
    simp (told.in-Some.is, ← c.is_before.ensures, c.if-is_before.false)
