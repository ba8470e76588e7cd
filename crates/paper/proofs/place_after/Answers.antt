-- What `next_at` found says where to go on.
use Rattle.paper.specs.Paper.{place_after}
use Rattle.paper.proofs.place_after.Goals as goal

pub returns-in-Record : goal.returns-in-Record
unfolding place_after
returns-in-Record c = rw (← c.next_at.ensures) (simp c.in-Record.is)

pub returns-in-Fault : goal.returns-in-Fault
unfolding place_after
returns-in-Fault c = rw (← c.next_at.ensures) (simp c.in-Fault.is)

pub returns-in-End : goal.returns-in-End
unfolding place_after
returns-in-End c = rw (← c.next_at.ensures) (simp c.in-End.is)
