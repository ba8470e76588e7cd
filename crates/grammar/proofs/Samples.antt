-- Texts and papers, computed. Assumes nothing.
use mathlib.Core.Path.{◌≡◌, refl}
use mathlib.Core.List.{[], ◌∷◌}
use Rattle.wire.specs.Wire.{number}
use Rattle.numerals.specs.Numeral.{digits_of, numeral}
use Rattle.hex_digits.specs.Hex.{hex}
use Rattle.paper.specs.Paper.{next_at, place_after}
use Rattle.paper.specs.Walk.{met_in, place_in}
use Rattle.words.specs.Words.{word, is_in, all, is_number, value_from, is_hex, hex_bytes, name_of, up_to}
use Rattle.words.specs.Words as Words
use Rattle.words.specs.Lex.{line_text, text_of, lines_of, step, lex}
use Rattle.forms.specs.Form.{count, code, fits_length, bytes_at, big_endian, is_blank, is_date, word_of, print_form, says, bytes_in, a_part, read_rest, read_form}
use Rattle.forms.specs.Grammar.{past, is_sized, part_in, form_from, form_in, words_in}
use Rattle.forms.specs.Row.{starts_with, print_by, read_by}
use Rattle.grammar.specs.Rows.{paper, setup, records, any_record, raw}
use Rattle.grammar.specs.Text.{is_worded, print_record, print_records, print_lines, printed, read_record, read_records, read_lines, Taken, Refused, place_of, read_text}

pub reads : read_text (word "# a paper\npaper 04\n start 1   # go\nfirst TC 5000 in 0978 at 22 on 2026-11-18\nsecond AAC Y3\n")
    ≡ Taken (4 ∷ 0 ∷ 2 ∷ 2 ∷ 1
    ∷ 0 ∷ 16 ∷ 3 ∷ 1 ∷ 0 ∷ 0 ∷ 0 ∷ 0 ∷ 0 ∷ 0 ∷ 19 ∷ 136 ∷ 9 ∷ 120 ∷ 34 ∷ 38 ∷ 17 ∷ 24
    ∷ 0 ∷ 9 ∷ 4 ∷ 0 ∷ 89 ∷ 51 ∷ 0 ∷ 0 ∷ 0 ∷ 0 ∷ 0 ∷ [])
unfolding read_text read_lines read_records read_record read_by paper setup raw records words_in lines_of step lex form_in form_from part_in is_sized past up_to
reads = unfold read_form says bytes_in is_date big_endian read_rest is_in all is_number value_from is_hex hex_bytes Words.place_in in refl

pub offence : read_text (word "paper 01\n start 1   # go\nfirst TC 50x0 in 0978 at 22\n") ≡ Refused 3 10 (a_part (count 8))
unfolding read_text read_lines read_records read_record read_by paper setup raw records words_in lines_of step lex form_in form_from part_in is_sized past up_to
offence = unfold place_of read_form says bytes_in big_endian read_rest is_in all is_number value_from is_hex hex_bytes Words.place_in in refl

pub ends : read_text (word "paper 01\n\n second TC  # code?\nstart 1") ≡ Refused 3 11 (a_part code)
unfolding read_text read_lines read_records read_record read_by paper setup raw records words_in lines_of step lex form_in form_from part_in is_sized past up_to
ends = unfold place_of read_form says bytes_in big_endian read_rest is_in all is_number value_from is_hex hex_bytes Words.place_in in refl

pub prints : printed (4 ∷ 0 ∷ 2 ∷ 2 ∷ 1
    ∷ 0 ∷ 25 ∷ 3 ∷ 1 ∷ 0 ∷ 0 ∷ 0 ∷ 0 ∷ 0 ∷ 0 ∷ 19 ∷ 136 ∷ 9 ∷ 120 ∷ 34 ∷ 38 ∷ 17 ∷ 24 ∷ 30 ∷ 3 ∷ 0 ∷ 0 ∷ 0 ∷ 0 ∷ 0 ∷ 5 ∷ 0
    ∷ 0 ∷ 3 ∷ 7 ∷ 171 ∷ 9 ∷ 0 ∷ 0 ∷ 5 ∷ [])
    ≡ word "paper 04\nstart 1\nfirst TC 5000 in 0978 at 22 on 2026-11-18 cvm 1E0300 cashback 000000000500\nrecord 07 AB09\nbytes 000005\n"
unfolding printed print_lines print_records print_record print_by is_worded paper raw records any_record words_in lines_of step lex form_in form_from part_in is_sized past up_to hex_bytes
prints = unfold starts_with fits_length print_form word_of bytes_at is_blank number numeral digits_of hex name_of all text_of line_text met_in place_in next_at place_after in refl
