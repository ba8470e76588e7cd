-- What a word of a row of the grammar marks.
use Rattle.std.specs.Prelude.{cond, List, ℕ}
use Rattle.words.specs.Words.{word, same, is_empty}
use Rattle.lexing.specs.Places.{word_at, ends_line}
use Rattle.forms.specs.Grammar.{is_sized, size_in, past}
use Rattle.walk.specs.declared.Mark.{Mark as Kind}
use Rattle.walk.specs.declared.Mark.TheVariants.{End, Rest, MayEnd, Opens, Silent, Names, Flags, Number, Bytes, Date, Code, Word}

-- 123 is "{", 78 is "N", 72 is "H"
unfoldable pub mark_of : List ℕ → Kind
mark_of w =
    cond (same w (word "[")) Names
    (cond (is_sized 123 w) (Flags (size_in w))
    (cond (same w (word "(")) Opens
    (cond (same w (word ")")) Silent
    (cond (same w (word "?")) MayEnd
    (cond (same w (word "R")) Rest
    (cond (is_sized 78 w) (Number (size_in w))
    (cond (is_sized 72 w) (Bytes (size_in w))
    (cond (same w (word "D")) Date
    (cond (same w (word "C")) Code
    Word)))))))))

-- a place where no word begins says nothing
unfoldable pub mark_at : List ℕ → ℕ → Kind
mark_at text t = cond (ends_line text t) End (cond (is_empty (word_at text t)) Silent (mark_of (word_at text t)))

-- so many bytes does a mark stand for
abbrev pub size_of : Kind → ℕ
size_of End = 0
size_of Rest = 0
size_of MayEnd = 0
size_of Opens = 0
size_of Silent = 0
size_of Names = 1
size_of (Flags n) = n
size_of (Number n) = n
size_of (Bytes n) = n
size_of Date = 3
size_of Code = 2
size_of Word = 0

-- the words behind a part, of those behind its first word
unfoldable pub behind_part : Kind → List (List ℕ) → List (List ℕ)
behind_part End ws = ws
behind_part Rest ws = ws
behind_part MayEnd ws = ws
behind_part Opens ws = ws
behind_part Silent ws = ws
behind_part Names ws = past (word "]") ws
behind_part (Flags n) ws = past (word "}") ws
behind_part (Number n) ws = ws
behind_part (Bytes n) ws = ws
behind_part Date ws = ws
behind_part Code ws = ws
behind_part Word ws = ws
