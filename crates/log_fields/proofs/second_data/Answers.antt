use Rattle.log_fields.proofs.second_data.Goals as goal

pub returns : goal.returns
returns c =
    let sized = c in
    simp (← sized.is_of_second.ensures, ← sized.bytes_if.ensures.0) c.part.ensures
