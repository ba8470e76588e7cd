use borrow.Author.Rules.{rules}
use mathlib.Core.Path.{ap, ◌∙◌}
use Rattle.wire.specs.Wire.{byte}
use Rattle.fields.proofs.check_type.Goals as goal

pub returns : goal.returns
returns c = c.byte_at.ensures ∙ ap (byte c.args.entry.now) c.blocks_end.ensures.0
