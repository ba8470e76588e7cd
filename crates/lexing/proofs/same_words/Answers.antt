-- Both words, compared.
use Rattle.lexing.proofs.same_words.Goals as goal

pub returns : goal.returns
returns c = simp (c.same_word.ensures, c.word_at-2.ensures.0, c.word_at.ensures.0)
