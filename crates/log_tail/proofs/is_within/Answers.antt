use Rattle.log_tail.specs.LogTail.{is_within}
use Rattle.log_tail.proofs.is_within.Goals as goal

pub returns : goal.returns
unfolding is_within
returns c =
    let first = c in
    simp (c.are_within-2.ensures, c.second_table.ensures.0, first.are_within.ensures, first.first_table.ensures.0)

pub are_within-requires : goal.are_within-requires
are_within-requires c = c.first_table.ensures.1

pub are_within-requires-2 : goal.are_within-requires-2
are_within-requires-2 c = c.second_table.ensures.1
