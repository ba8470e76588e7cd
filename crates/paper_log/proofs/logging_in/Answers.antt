use Rattle.paper_log.proofs.logging_in.Goals as goal

pub returns : goal.returns
returns c =
    let third = c in
    let fourth = third in
    let second = fourth in
    let first = second in
    simp (
      c.logs-4.ensures,
      c.logs-3.ensures,
      c.logs-2.ensures,
      third.logs.ensures,
      fourth.profile_number-4.ensures,
      fourth.profile_number-3.ensures,
      second.profile_number-2.ensures,
      first.profile_number.ensures,
      first.switches.ensures,
      first.size.ensures,
    )
