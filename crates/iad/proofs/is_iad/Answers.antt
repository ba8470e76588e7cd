-- Another length is refused by itself; behind it the code's tests are the definition's.
use borrow.Author.Tests.{eq-eqb, ne_eqb}
use Rattle.iad.specs.Iad.{is_iad}
use Rattle.iad.proofs.is_iad.Goals as goal

pub returns-then-s-ne-LENGTH : goal.returns-then-s-ne-LENGTH
unfolding is_iad
returns-then-s-ne-LENGTH c = simp (ne_eqb _ _ c.if-s-ne-LENGTH.true)

pub returns : goal.returns
unfolding is_iad
returns c =
    let cvr = c in
    simp (
      eq-eqb _ _ cvr.if-s-ne-LENGTH.false,
      c.is_profile.ensures,
      c.byte_at.ensures,
      c.are_pairs.ensures,
      cvr.is_cvr.ensures,
      cvr.cvr_of.ensures,
      cvr.has_fixed_bytes.ensures,
    )
