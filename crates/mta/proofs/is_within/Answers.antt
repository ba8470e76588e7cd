use Rattle.std.proofs.Common.{refl}
use lib.Ieee.{of_bits, neg}
use Rattle.mta.specs.Mta.{is_within}
use Rattle.mta.proofs.is_within.Goals as goal

pub returns : goal.returns
unfolding of_bits neg is_within
returns c = refl
