use Rattle.meters.proofs.Change.offline.Goals as goal

pub returns-then-approves : goal.returns-then-approves
returns-then-approves c = simp c.if-approves.true

pub returns-else-approves : goal.returns-else-approves
returns-else-approves c = simp c.if-approves.false
