-- The six bytes, each of its place.
use Rattle.read_words.proofs.date_digits.Goals as goal

pub returns : goal.returns
returns c = cc
