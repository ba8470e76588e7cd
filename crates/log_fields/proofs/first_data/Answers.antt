use Rattle.log_fields.proofs.first_data.Goals as goal

pub returns : goal.returns
returns c = simp (← c.first_length.ensures.0) c.part.ensures
