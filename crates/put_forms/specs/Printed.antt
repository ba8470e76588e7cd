-- What is put of a part, and of a table.
use Rattle.std.specs.Prelude.{◌≡◌, cond, List, [], ◌∷◌, ◌++◌, ℕ, ◌≤◌}
use Rattle.words.specs.Words.{word, up_to}
use Rattle.words.specs.Lex.{Line, text_of}
use Rattle.words.specs.Put.{Put}
use Rattle.forms.specs.Form.{Part, say, count, bytes, named, date, code, said, is_blank}
use Rattle.forms.specs.Table.{Field, field_line}
use Rattle.walk.specs.declared.Mark.{Mark as Kind}
use Rattle.walk.specs.declared.Mark.TheVariants.{End, Rest, MayEnd, Opens, Silent, Names, Flags, Number, Bytes, Date, Code, Word}
use Rattle.put_forms.specs.declared.Step.{Step as Reached}

-- words, a space in front of each
abbrev pub led : List (List ℕ) → List ℕ
led [] = []
led (w ∷ ws) = 32 ∷ w ++ led ws

-- the part of a mark, by its word and the words behind it
unfoldable pub part_of : Kind → List ℕ → List (List ℕ) → Part
part_of End w ws = say w
part_of Rest w ws = say w
part_of MayEnd w ws = say w
part_of Opens w ws = say w
part_of Silent w ws = say w
part_of Names w ws = named (up_to (word "]") ws)
part_of (Flags n) w ws = say w
part_of (Number n) w ws = count n
part_of (Bytes n) w ws = bytes n
part_of Date w ws = date
part_of Code w ws = code
part_of Word w ws = say w

-- a field of zeros has no line
abbrev pub field_lines : ℕ → Field → List ℕ → List Line
field_lines indent f s = cond (is_blank (said f.form s 0)) [] (field_line indent f s 0 ∷ [])

-- lines are put, and so many bytes are said, at most so many
pub record Printed (room : List ℕ) (at : ℕ) (lines : List Line) (size most : ℕ) (step : Reached) (after : List ℕ) : Type 0 where
  pub put : Put room at (text_of lines) step.end after
  pub taken : step.taken ≡ size
  pub small : step.taken ≤ most
