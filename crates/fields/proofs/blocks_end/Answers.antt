use borrow.Author.Rules.{rules}
use mathlib.Core.Path.{ap, ◌∙◌}
use Rattle.fields.specs.Fields.{block_place}
use Rattle.fields.proofs.blocks_end.Goals as goal

pub returns : goal.returns
returns c =
    let e = c.args.entry.now in
    (c.block_place.ensures.0 ∙ ap (block_place e) c.byte_at.ensures, c.block_place.ensures.1)
