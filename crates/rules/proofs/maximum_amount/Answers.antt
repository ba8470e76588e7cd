use native.Mathlib.Omega.{arith}
use Rattle.rules.specs.Rules.{profile_of}
use Rattle.rules.proofs.Places.{part_at}
use Rattle.rules.proofs.maximum_amount.Goals as goal

pub returns : goal.returns
unfolding profile_of
returns c =
    let based = c in
    let a = based.args in
    part_at (λ p. p.maximum) a.words.now a.place _ based.base-at.ensures.0

pub bounds-words-at : goal.bounds-words-at
bounds-words-at c = omega arith

pub bounds-words-at-2 : goal.bounds-words-at-2
bounds-words-at-2 c = omega arith

pub bounds-words-at-3 : goal.bounds-words-at-3
bounds-words-at-3 c = omega arith
