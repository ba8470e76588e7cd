-- The sums of a class's sheet (document 02, Ten: "currencies of those approvals, zero amounts too, go in ascending order, at most 32").
use Rattle.std.specs.Prelude.{ℕ, zero, suc, ◌+◌, Bool, cond, List, [], ◌∷◌, eqb, ltb, leb, length, get_or, set}
use Rattle.sheet.specs.Sheet.{stopped}

-- a currency, and the sum of what was approved in it
pub record Sum : Type 0 where
  pub currency : ℕ
  pub total : ℕ

abbrev pub new : (currency amount : ℕ) → Sum
new currency amount = record { currency = currency; total = amount }

-- AN AMOUNT ADDED to the sum of its currency; one that is not there yet stands before the first that is larger
abbrev pub raised : (amount : ℕ) → Sum → Sum
raised amount sum = record { currency = sum.currency; total = stopped (sum.total + amount) }

unfoldable pub sold : (currency amount : ℕ) → List Sum → List Sum
sold currency amount [] = new currency amount ∷ []
sold currency amount (sum ∷ more) =
    cond (ltb sum.currency currency) (sum ∷ sold currency amount more)
    (cond (eqb sum.currency currency) (raised amount sum ∷ more) (new currency amount ∷ sum ∷ more))

-- how many of the first are smaller
unfoldable pub place_of : (currency : ℕ) → List Sum → ℕ
place_of currency [] = 0
place_of currency (sum ∷ more) = cond (ltb sum.currency currency) (suc (place_of currency more)) 0

-- THE CELLS: how many currencies there are, and for each place its code and its sum
abbrev pub count_cell : ℕ
count_cell = 393

abbrev pub code_cell : (at : ℕ) → ℕ
code_cell at = 394 + at

abbrev pub sum_cell : (at : ℕ) → ℕ
sum_cell at = 426 + at

abbrev pub most : ℕ
most = 32

-- so many sums of a sheet, from a place on
abbrev pub sum_at : (sheet : List ℕ) (at : ℕ) → Sum
sum_at sheet at = record { currency = get_or sheet (code_cell at) 0; total = get_or sheet (sum_cell at) 0 }

unfoldable pub sums_from : (count at : ℕ) (sheet : List ℕ) → List Sum
sums_from zero at sheet = []
sums_from (suc count) at sheet = sum_at sheet at ∷ sums_from count (at + 1) sheet

unfoldable pub sums_of : (sheet : List ℕ) → List Sum
sums_of sheet = sums_from (get_or sheet count_cell 0) 0 sheet

-- sums put into a sheet, from a place on; all else stays
abbrev pub sum_put : (sheet : List ℕ) (at : ℕ) → Sum → List ℕ
sum_put sheet at sum = set (set sheet (code_cell at) sum.currency) (sum_cell at) sum.total

unfoldable pub written : (at : ℕ) → List Sum → (sheet : List ℕ) → List ℕ
written at [] sheet = sheet
written at (sum ∷ more) sheet = written (at + 1) more (sum_put sheet at sum)

unfoldable pub with_sums : (sheet : List ℕ) → List Sum → List ℕ
with_sums sheet sums = set (written 0 sums sheet) count_cell (length sums)

-- A SALE: an amount approved offline in a currency. There is room for it where it is not a thirty-third currency; else the sheet stays
unfoldable pub fits_sale : (sheet : List ℕ) (currency amount : ℕ) → Bool
fits_sale sheet currency amount = leb (length (sold currency amount (sums_of sheet))) most

unfoldable pub sale_added : (sheet : List ℕ) (currency amount : ℕ) → List ℕ
sale_added sheet currency amount =
    cond (fits_sale sheet currency amount) (with_sums sheet (sold currency amount (sums_of sheet))) sheet
