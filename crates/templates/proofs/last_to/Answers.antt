-- What comes next ends behind the place, and among the elements.
use Rattle.std.proofs.Common.{◌≡◌, sym, ◌∙◌, List, ℕ, ◌<◌, ◌≤◌, arith, length}
use Rattle.element.specs.declared.Write.{Write}
use Rattle.put_data.specs.declared.Next.TheVariants.{Element}
use Rattle.put_data.specs.PutData.{object_of, elements_of, next_write}
use Rattle.put_data.proofs.Cursor.{left_by_lem}
use Rattle.templates.proofs.last_to.Goals as goal

later : (c : List ℕ) (at : ℕ) (w : Write) (end : ℕ) → next_write c at ≡ Element w end → (at < end) × (end ≤ length (elements_of c))
unfolding next_write
later c at w end e = (left_by_lem (object_of c) (elements_of c) at (Element w end) e).within

pub loop-write-smaller-then-is_to : goal.loop-write-smaller-then-is_to
loop-write-smaller-then-is_to c =
    let further = later c.args.command.now c.loop-write.at _ _ (sym c.next_write.ensures ∙ c.in-Element.is) in
    omega (arith, further)

pub loop-write-smaller : goal.loop-write-smaller
loop-write-smaller c =
    let further = later c.args.command.now c.loop-write.at _ _ (sym c.next_write.ensures ∙ c.in-Element.is) in
    omega (arith, further)
