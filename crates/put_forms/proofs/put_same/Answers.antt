use Rattle.put_forms.proofs.put_same.Goals as goal

pub returns : goal.returns
returns c =
    rw (← c.word_at.ensures.0) c.put_word.ensures
