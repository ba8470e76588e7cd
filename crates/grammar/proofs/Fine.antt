-- The tables of the paper are fine: computed. Assumes nothing.
use mathlib.Core.Path.{◌≡◌, refl}
use mathlib.Core.Bool.{true}
use Rattle.words.specs.Words.{is_in, all, is_number, distinct, up_to}
use Rattle.words.specs.Lex.{lines_of, step, lex, is_word, are_words}
use Rattle.forms.specs.Form.{no_numbers, fine_part, closed, solid, parted, fine}
use Rattle.forms.specs.Grammar.{past, is_sized, part_in, form_from, form_in, words_in}
use Rattle.forms.specs.Table.{fine_field, fine_fields, fine_group, apart}
use Rattle.forms.specs.Tail.{fine_items, fine_tails}
use Rattle.forms.specs.Row.{fine_rows}
use Rattle.grammar.specs.Rows.{paper, setup, first, second, profile, conversion, tails, records, any_record, raw}

pub setup-fine : fine_field setup ≡ true
unfolding setup words_in lines_of step lex form_in form_from all is_word closed fine
setup-fine = refl

pub paper-fine : fine_field paper ≡ true
unfolding paper words_in lines_of step lex form_in form_from part_in is_sized all is_word fine_part closed fine
paper-fine = refl

pub raw-fine : (is_word raw.key ≡ true) × (fine raw.form ≡ true)
unfolding raw words_in lines_of step lex form_in form_from is_sized all is_word fine
raw-fine = (refl, refl)

pub first_fine : fine_fields first ≡ true
unfolding fine_fields first words_in lines_of step lex form_in form_from part_in is_sized past up_to is_in all is_number distinct is_word are_words no_numbers fine_part closed solid parted fine
first_fine = refl

pub second-fine : fine_fields second ≡ true
unfolding fine_fields second words_in lines_of step lex form_in form_from part_in is_sized past up_to is_in all is_number distinct is_word are_words no_numbers fine_part closed solid parted fine
second-fine = refl

pub profile-fine : fine_group profile ≡ true
unfolding fine_group fine_fields profile words_in lines_of step lex form_in form_from part_in is_sized past up_to is_in all is_number distinct is_word
    are_words no_numbers fine_part closed solid parted fine
profile-fine = refl

pub conversion-fine : fine_group conversion ≡ true
unfolding fine_group fine_fields conversion words_in lines_of step lex form_in form_from part_in is_sized past up_to is_in all is_number distinct
    is_word are_words no_numbers fine_part closed solid parted fine
conversion-fine = refl

pub tails-fine : fine_tails tails ≡ true
unfolding tails words_in lines_of step lex form_in form_from part_in is_sized past up_to is_in all is_number distinct is_word are_words no_numbers fine_part closed parted fine
tails-fine = unfold fine_tails fine_items fine_group fine_fields apart in refl

pub records-fine : fine_rows records any_record ≡ true
unfolding fine_rows records any_record words_in lines_of step lex form_in form_from part_in is_sized past up_to is_in all is_number distinct is_word
    are_words no_numbers fine_part closed solid parted fine
records-fine = refl
