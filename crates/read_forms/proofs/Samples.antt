-- Rows of the grammar are rows that the code reads: computed. Assumes nothing.
use Rattle.std.proofs.Common.{◌≡◌, true, refl}
use Rattle.words.specs.Words.{is_in, all, is_number, distinct, up_to}
use Rattle.words.specs.Lex.{lines_of, step, lex, is_word, are_words}
use Rattle.forms.specs.Form.{no_numbers, fine_part, closed, solid, parted, fine}
use Rattle.forms.specs.Grammar.{past, is_sized, part_in, form_from, form_in, words_in}
use Rattle.read_forms.specs.Reads.{is_row}

pub first-row : is_row (words_in "[ AAC TC ARQC ] N8 in H2 at H1 ( on D ) ( cvm H3 cashback H6 )") ≡ true
unfolding is_row words_in lines_of step lex form_in form_from part_in is_sized past up_to is_in all is_number distinct is_word are_words no_numbers fine_part closed solid parted fine
first-row = refl

pub second-row : is_row (words_in "[ AAC TC ARQC ] C ? [ absent verified failed ] ? H4") ≡ true
unfolding is_row words_in lines_of step lex form_in form_from part_in is_sized past up_to is_in all is_number distinct is_word are_words no_numbers fine_part closed solid parted fine
second-row = refl

pub rule-row : is_row (words_in "{1 active allow include } lower N8 upper N8") ≡ true
unfolding is_row words_in lines_of step lex form_in form_from part_in is_sized past up_to is_in all is_number distinct is_word are_words no_numbers fine_part closed solid parted fine
rule-row = refl
