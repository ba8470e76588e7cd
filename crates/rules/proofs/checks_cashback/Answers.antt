use Rattle.rules.proofs.Places.{cashback_at_lem}
use Rattle.rules.proofs.checks_cashback.Goals as goal

pub returns : goal.returns
returns c =
    let read = c in
    let a = read.args in
    simp (read.index.ensures.0, cashback_at_lem a.words.now a.place)
