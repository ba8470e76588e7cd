use Rattle.std.proofs.Common.{◌≡◌, ℕ, arith, true, false, rules}
use Rattle.std.proofs.lemmas.Iterator.{cases_from_all, YieldsList-from_range}
use lib.Dec.{leb}
use Rattle.log_tail.specs.LogTail.{flag_in, are_flags}
use Rattle.log_tail.proofs.All.{decided}
use Rattle.log_tail.proofs.are_flags.Goals as goal

pub returns : goal.returns
unfolding are_flags
returns c =
    let n = c.args.profiles in
    let test = λ (i : ℕ). leb (flag_in c.args.tail.now i) 1 in
    decided n test c.all.result
    (cases_from_all _ _ _ (λ i. test i ≡ true) (λ i. test i ≡ false) c.all.ensures.ran (YieldsList-from_range 0 n n (cc) (omega arith)) (λ x q k. search rules) (λ x q k. search rules))
