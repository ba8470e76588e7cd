use borrow.Author.Rules.{rules}
use Rattle.checks.proofs.Bits.{bits-apart}
use Rattle.second.specs.Second.{unable_performed}
use Rattle.second.proofs.unable.Goals as goal

pub returns : goal.returns
unfolding unable_performed
returns c =
    let moved = c in
    let met = moved in
    let bits = met in
    let adr = simp (bits.history_bits.ensures.0, bits-apart) at bits.decision_bits-adr.ensures in
    simp (
      c.close.ensures,
      c.with_unable-2.ensures,
      moved.apply-values.ensures,
      moved.offline-change.ensures,
      met.meets.ensures,
      met.profile_masks-masks.ensures,
      adr,
      bits.with_unable.ensures,
    )
