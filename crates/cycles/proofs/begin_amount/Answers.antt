use Rattle.cycles.proofs.begin_amount.Goals as goal

pub returns-then-begins : goal.returns-then-begins
returns-then-begins c = simp (← c.cycle_of-cycle.ensures, ← c.begins.ensures, c.if-begins.true)

pub returns : goal.returns
returns c = simp (← c.cycle_of-cycle.ensures, ← c.begins.ensures, c.if-begins.false)
