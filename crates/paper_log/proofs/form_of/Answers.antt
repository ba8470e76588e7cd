use Rattle.paper_log.proofs.form_of.Goals as goal

pub returns : goal.returns
returns c =
    let dated = c in
    simp (c.is_cpace.ensures, dated.is_dated.ensures, dated.byte_at.ensures)
