use Rattle.cycles.specs.Cycles.{dated}
use Rattle.cycles.proofs.take_date.Goals as goal

pub returns-in_default : goal.returns-in_default
unfolding dated
returns-in_default c = simp c.in_default.is

pub returns-then-is_before : goal.returns-then-is_before
unfolding dated
returns-then-is_before c =
    let asked = c in
    let told = asked in
    simp (told.in-Some.is, ← asked.is_before.ensures, c.if-is_before.true)

pub returns : goal.returns
unfolding dated
returns c =
    let asked = c in
    let told = asked in
    simp (told.in-Some.is, ← asked.is_before.ensures, c.if-is_before.false, c.advance.ensures)
