use Rattle.rules.specs.Rules.{profile_of}
use Rattle.rules.proofs.Places.{part_at}
use Rattle.rules.proofs.profile_number.Goals as goal

pub returns : goal.returns
unfolding profile_of
returns c = let a = c.args in part_at (λ p. p.number) a.words.now a.place _ c.base-at.ensures.0
