-- The cast back tells a fraction, and one divided by it -0.
use Rattle.std.proofs.Common.{T, sym, subst}
use lib.Ieee.{of_bits, fits, binary64}
use Rattle.mta.proofs.Tests.{exact}
use Rattle.mta.proofs.is_whole.Goals as goal

pub returns : goal.returns
unfolding of_bits
returns c =
    -- the format holds every `f64`
    let held : T (fits binary64 c.args.mta) = subst T (sym c.well_formed.0.1) tt in
    exact c.args.mta c.args.amount held c.requires.1 c.requires.0
