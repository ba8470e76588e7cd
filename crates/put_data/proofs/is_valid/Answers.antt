use borrow.Author.Rules.{rules}
use Rattle.put_data.specs.PutData.{writes_of, is_valid}
use Rattle.put_data.proofs.is_valid.Goals as goal

pub returns-then-is_put_data-is_secured : goal.returns-then-is_put_data-is_secured
unfolding is_valid writes_of
returns-then-is_put_data-is_secured c =
    simp (
      rw (c.is_secured.ensures, c.is_put_data.ensures) at c.if-is_put_data-is_secured.true,
      c.are_elements.ensures,
      c.elements.ensures,
      c.u16_at.ensures,
    )

pub returns : goal.returns
unfolding is_valid writes_of
returns c = simp (rw (c.is_secured.ensures, c.is_put_data.ensures) at c.if-is_put_data-is_secured.false)
