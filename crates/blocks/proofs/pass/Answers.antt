use borrow.Author.Tests.{lt-ltb, le-ltb}
use mathlib.Core.List.{[]}
use mathlib.Core.Path.{ap, ◌∙◌}
use lib.ListN.{length}
use Rattle.blocks.specs.Blocks.{too_long, turned_over}
use Rattle.blocks.proofs.Texts.{text-said}
use Rattle.blocks.proofs.pass.Goals as goal

pub returns-then-left-skip : goal.returns-then-left-skip
returns-then-left-skip c = let few = lt-ltb _ _ c.if-left-skip.true in (rw few c.wait.ensures, rw few)

pub returns : goal.returns
returns c =
    let put = c in
    let asked = put in
    let a = asked.args in
    let enough = le-ltb _ _ asked.if-left-skip.false in
    let said = text-said (length a.room.now) a.to a.skip a.skip too_long [] in (
      rw enough (c.turn_over.ensures ∙ ap (turned_over a.skip a.skip a.to) put.place_text.ensures.0 ∙ said),
      rw enough put.place_text.ensures.1,
    )
