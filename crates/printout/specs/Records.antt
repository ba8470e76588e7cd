-- Old records, one after the other, and what is printed of them (document 02, request Two), read from the text: a line for each, numbered from
-- 1; behind the number 0 and the new record's bytes in hex, or the refusal.
use Rattle.std.specs.Prelude.{◌≡◌, Bool, cond, ◌&&◌, List, [], ◌∷◌, ◌++◌, ℕ, ◌+◌, ◌<◌, eqb, length, replicate, Err, Ok, Result}
use Rattle.refusal.specs.Refusal.{refusal_number}
use Rattle.import.specs.Import.{import_record, imported}
use Rattle.text.proofs.Each.{Each}
use Rattle.readback.specs.Fields.{Line, Words, NoLine, words_in, is_decimal, value_in, is_hex, bytes_in}
use Rattle.refusal.specs.declared.Refusal.{Refusal}

-- a record has 20 bytes; the last may be cut short
abbrev pub Whole : (old : List ℕ) → Type 0
Whole old = length old ≡ 20

unfoldable pub records_with : (olds : List (List ℕ)) → List ℕ
records_with [] = []
records_with (old ∷ more) = old ++ records_with more

abbrev pub last_of : (rest : List ℕ) → List (List ℕ)
last_of [] = []
last_of (b ∷ rest) = (b ∷ rest) ∷ []

pub record Recorded (input : List ℕ) : Type 0 where
  pub olds : List (List ℕ)
  pub whole : Each Whole olds
  pub rest : List ℕ
  pub short : length rest < 20
  pub is : input ≡ records_with olds ++ rest

-- ---- what a line tells, by its words
pub data Told : Type 0 where
  taken : (number : ℕ) (new : List ℕ) → Told
  refused : (number refusal : ℕ) → Told
  other : Told

abbrev pub is_zero : List ℕ → Bool
is_zero w = is_decimal w && eqb (value_in w) 0

abbrev pub told_of : Line → Told
told_of NoLine = other
told_of (Words []) = other
told_of (Words (n ∷ [])) = other
told_of (Words (n ∷ r ∷ [])) = cond (is_decimal n && is_decimal r) (refused (value_in n) (value_in r)) other
told_of (Words (n ∷ z ∷ h ∷ [])) = cond (is_decimal n && is_zero z && is_hex h) (taken (value_in n) (bytes_in h)) other
told_of (Words (n ∷ z ∷ h ∷ w ∷ ws)) = other

unfoldable pub told_in : (line : List ℕ) → Told
told_in line = told_of (words_in line)

unfoldable pub all_told : (lines : List (List ℕ)) → List Told
all_told [] = []
all_told (line ∷ more) = told_in line ∷ all_told more

-- ---- what is to be told of a record, into 15 zeros, and of all
abbrev pub tells : (number : ℕ) → Result Unit Refusal → (new : List ℕ) → Told
tells number (Ok done) new = taken number new
tells number (Err refusal) new = refused number (refusal_number refusal)

abbrev pub tells_of : (number : ℕ) (old : List ℕ) → Told
tells_of number old = tells number (import_record old (replicate 15 0)) (imported old (replicate 15 0))

unfoldable pub all_tell : (number : ℕ) (olds : List (List ℕ)) → List Told
all_tell number [] = []
all_tell number (old ∷ more) = tells_of number old ∷ all_tell (number + 1) more
