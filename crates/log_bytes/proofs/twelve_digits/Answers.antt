use mathlib.Core.Path.{refl}
use Rattle.iad.specs.Iad.{pairs_of}
use Rattle.log_bytes.proofs.twelve_digits.Goals as goal

pub returns : goal.returns
unfolding pairs_of
returns c =
    let fifth = c in
    let fourth = fifth in
    let third = fourth in
    let second = third in (
      simp (
        c.pair_of-6.ensures,
        fifth.pair_of-5.ensures,
        fourth.pair_of-4.ensures,
        third.pair_of-3.ensures,
        second.pair_of-2.ensures,
        second.pair_of.ensures,
      ),
      refl,
    )
