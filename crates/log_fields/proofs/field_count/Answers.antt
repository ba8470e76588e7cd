use Rattle.log_fields.proofs.field_count.Goals as goal

pub returns : goal.returns
returns c = simp (c.entry_count.ensures, c.is_of_second.ensures)
