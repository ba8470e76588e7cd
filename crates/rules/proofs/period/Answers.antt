use Rattle.rules.proofs.period.Goals as goal

pub returns-in-1 : goal.returns-in-1
returns-in-1 c = simp c.in-1.is

pub returns-in-2 : goal.returns-in-2
returns-in-2 c = simp c.in-2.is
