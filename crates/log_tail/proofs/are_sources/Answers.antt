use Rattle.std.proofs.Common.{◌≡◌, ℕ, arith, true, false, rules}
use Rattle.std.proofs.lemmas.Iterator.{cases_from_all, YieldsList-from_range}
use lib.Dec.{leb}
use Rattle.wire.specs.Wire.{byte}
use Rattle.log_tail.specs.LogTail.{entry_in, are_sources}
use Rattle.log_tail.proofs.All.{decided}
use Rattle.log_tail.proofs.are_sources.Goals as goal

pub returns : goal.returns
unfolding are_sources
returns c =
    let n = byte c.args.tail.now c.args.table in
    let test = λ (i : ℕ). leb (entry_in c.args.tail.now c.args.table i).source c.args.highest in
    decided n test c.all.result
    (cases_from_all _ _ _ (λ i. test i ≡ true) (λ i. test i ≡ false) c.all.ensures.ran (YieldsList-from_range 0 n n (cc) (omega arith)) (λ x q k. search rules) (λ x q k. search rules))
