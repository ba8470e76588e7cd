use Rattle.log_tail.specs.LogTail.{is_in_range}
use Rattle.log_tail.proofs.is_in_range.Goals as goal

pub returns : goal.returns
unfolding is_in_range
returns c =
    let first = c in
    let flags = first in
    let switches = flags in
    simp (
      c.are_sources-2.ensures,
      c.second_table.ensures.0,
      first.are_sources.ensures,
      first.first_table.ensures.0,
      flags.are_flags.ensures,
      switches.byte_at-2.ensures,
      switches.byte_at.ensures,
    )

pub are_sources-requires : goal.are_sources-requires
are_sources-requires c = c.first_table.ensures.1

pub are_sources-requires-2 : goal.are_sources-requires-2
are_sources-requires-2 c = c.second_table.ensures.1
