-- The lengths of the tails, as docs/PAPERS.md has them, and the lines of the head's first fields written out. Assumes nothing.
use mathlib.Core.Path.{◌≡◌, refl}
use mathlib.Core.Bool.{cond}
use mathlib.Core.List.{List, [], ◌∷◌, ◌++◌}
use Prim.Native.Nat.{ℕ, ◌+◌, ◌*◌}
use native.Mathlib.Omega.{arith}
use borrow.Author.Tests.{eq-eqb}
use lib.Dec.{eqb}
use Rattle.wire.specs.Wire.{byte, number}
use Rattle.numerals.specs.Numeral.{numeral}
use Rattle.hex_digits.specs.Hex.{hex}
use Rattle.layout.specs.Layout.{key_index, pin_tries, required}
use Rattle.words.specs.Words.{word, name_of, up_to}
use Rattle.words.specs.Lex.{Line, lines_of, step, lex}
use Rattle.forms.specs.Form.{bytes_at, is_blank, word_of, print_form}
use Rattle.forms.specs.Grammar.{past, is_sized, part_in, form_from, form_in, words_in}
use Rattle.forms.specs.Table.{print_fields}
use Rattle.forms.specs.Tail.{Tail, items_size, tail_size}
use Rattle.grammar.specs.Rows.{first, tails}

-- what the tail of a version has
abbrev size_of : ℕ → List Tail → ℕ → List ℕ → ℕ → ℕ
size_of v [] p s at = 0
size_of v (t ∷ ts) p s at = cond (eqb t.version v) (tail_size p t s at) (size_of v ts p s at)

module _ (p : ℕ) (s : List ℕ) (at : ℕ) where
  pub syllabus-size : (size_of 3 tails p s at ≡ 1) × (size_of 6 tails p s at ≡ 1)
  unfolding tail_size items_size tails words_in lines_of step lex form_in form_from part_in is_sized past up_to
  syllabus-size = (refl, refl)

  module _ (on : byte s at ≡ 1) where
    pub dated-size : size_of 4 tails p s at ≡ 28 + 18 * p
    unfolding tail_size items_size tails words_in lines_of step lex form_in form_from part_in is_sized past up_to
    dated-size = rw (eq-eqb (byte s at) 1 on) (omega arith)

    pub cpace-size : size_of 5 tails p s at ≡ 9 + p
    unfolding tail_size items_size tails words_in lines_of step lex form_in form_from part_in is_sized past up_to
    cpace-size = rw (eq-eqb (byte s at) 1 on) (omega arith)

    -- n entries of First's table, and m of Second's
    pub log-size : (n m : ℕ) → byte s (at + 1 + 2 + p * 1) ≡ n → byte s (at + 1 + 2 + p * 1 + (1 + byte s (at + 1 + 2 + p * 1) * 3)) ≡ m
        → size_of 7 tails p s at ≡ 5 + p + 3 * n + 3 * m
    unfolding tail_size items_size tails words_in lines_of step lex form_in form_from part_in is_sized past up_to
    log-size n m e f = rw (eq-eqb (byte s at) 1 on) (omega (arith, e, f))

-- a field's line, and none where it is zeros
abbrev line_at : List ℕ → List ℕ → ℕ → List ℕ → List Line
line_at key s at said = cond (is_blank (bytes_at s at 1)) [] (record { indent = 2; words = key ∷ said ∷ [] } ∷ [])

pub first-lines : (s : List ℕ)
    → print_fields 2 first s 0
    ≡ line_at (word "key") s key_index (hex (bytes_at s key_index 1))
    ++ (line_at (word "pin") s pin_tries (numeral (number s pin_tries 1))
    ++ (line_at (word "authentication") s required (name_of (word "off" ∷ word "required" ∷ []) (byte s required) (numeral (byte s required))) ++ []))
unfolding print_fields print_form word_of bytes_at first words_in lines_of step lex form_in form_from part_in is_sized past up_to
first-lines s = refl
