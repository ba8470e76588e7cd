-- The digits are the numeral's.
use Rattle.imports.proofs.Numerals.{spelt}
use Rattle.imports.proofs.put_number.Goals as goal

pub returns : goal.returns
returns c = spelt c.args.n c.requires c.put_number.ensures.0 c.put_number.ensures.1
