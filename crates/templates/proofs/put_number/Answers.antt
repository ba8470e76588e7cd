-- A u64 has at most 20 digits.
use Rattle.numerals.proofs.Numerals.{fitted}
use Rattle.templates.proofs.put_number.Goals as goal

pub returns : goal.returns
returns c = (fitted c.args.room.now c.args.at c.args.n c.requires c.put_number.ensures.0 c.put_number.ensures.1).0.short
