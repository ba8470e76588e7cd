use Rattle.rules.specs.Rules.{rules_of}
use Rattle.rules.proofs.rates.Goals as goal

pub returns : goal.returns
unfolding rules_of
returns c =
    let five = c in
    let two = five in
    simp (five.rate-5.ensures, five.rate-4.ensures, five.rate-3.ensures, two.rate-2.ensures, two.rate.ensures)
