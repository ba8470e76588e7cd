use mathlib.Core.Path.{refl}
use Rattle.log_bytes.specs.LogBytes.{octets}
use Rattle.log_bytes.proofs.five_bytes.Goals as goal

pub returns : goal.returns
unfolding octets
returns c =
    let fourth = c in
    let third = fourth in
    let second = third in (
      simp (c.low_byte-5.ensures, fourth.low_byte-4.ensures, third.low_byte-3.ensures, second.low_byte-2.ensures, second.low_byte.ensures),
      refl,
    )
