use borrow.Author.Rules.{rules}
use Rattle.frame.specs.Frame.{is_secured}
use Rattle.frame.proofs.is_secured.Goals as goal

pub returns : goal.returns
unfolding is_secured
returns c =
    simp (
      c.byte_at-4.ensures,
      c.byte_at-3.ensures,
      c.is_length.ensures,
      c.byte_at-2.ensures,
      c.byte_at.ensures,
      c.mac_place-mac.ensures.0,
    )
