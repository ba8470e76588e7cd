use Rattle.ranges.proofs.is_counter_rule.Goals as goal

pub returns : goal.returns
returns c = simp c.byte_at.ensures
