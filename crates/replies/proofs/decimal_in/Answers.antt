use mathlib.Core.Path.{◌∙◌}
use native.Mathlib.Numerals.{add-one}
use native.Mathlib.Omega.{arith}
use lib.ListN.{drop_of_length-le}
use lib.Seq.{drop-cons}
use Rattle.replies.specs.Replies.{decimal_from}
use Rattle.replies.proofs.decimal_in.Goals as goal

pub loop-digit-preserved : goal.loop-digit-preserved
unfolding decimal_from
loop-digit-preserved c =
    let one = drop-cons c.args.digits.now c.loop-digit.digit-index 0 (omega arith) in
    (omega arith, rw add-one (c.loop-digit.invariant.1 ∙ rw one))

pub returns : goal.returns
unfolding decimal_from
returns c =
    let all = drop_of_length-le c.args.digits.now {i = c.loop-digit.digit-index} (omega arith) in
    rw (c.loop-digit.invariant.1, all)
