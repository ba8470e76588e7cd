-- The sheet of a class as a list of cells (document 02, Ten).
use Rattle.std.specs.Prelude.{ℕ, ◌+◌, ◌*◌, ◌-◌, Bool, cond, ◌||◌, List, eqb, ltb, get_or, set, replicate}

abbrev pub blank_sheet : List ℕ
blank_sheet = replicate 458 0

-- the cells: how many papers, how many answers of a kind (0 TC, 1 AAC, 2 ARQC) of a profile, how often a refusal was given
abbrev pub papers : ℕ
papers = 0

abbrev pub answer_cell : (profile kind : ℕ) → ℕ
answer_cell profile kind = profile * 3 - 2 + kind

abbrev pub refusal_cell : (number : ℕ) → ℕ
refusal_cell number = 373 + number

-- the largest number of a cell, at which every count and every sum stops
abbrev pub largest : ℕ
largest = 18_446_744_073_709_551_615

abbrev pub stopped : ℕ → ℕ
stopped n = cond (ltb largest n) largest n

-- one more in a cell
unfoldable pub counted : (sheet : List ℕ) (cell : ℕ) → List ℕ
counted sheet cell = set sheet cell (stopped (get_or sheet cell 0 + 1))

-- profiles are numbered 1 to 124, kinds 0 to 2 and refusals 1 to 19; other numbers count nowhere
abbrev pub no_answer : (profile kind : ℕ) → Bool
no_answer profile kind = eqb profile 0 || ltb 124 profile || ltb 2 kind

unfoldable pub answer_counted : (sheet : List ℕ) (profile kind : ℕ) → List ℕ
answer_counted sheet profile kind = cond (no_answer profile kind) sheet (counted sheet (answer_cell profile kind))

abbrev pub no_refusal : (number : ℕ) → Bool
no_refusal number = eqb number 0 || ltb 19 number

unfoldable pub refusal_counted : (sheet : List ℕ) (number : ℕ) → List ℕ
refusal_counted sheet number = cond (no_refusal number) sheet (counted sheet (refusal_cell number))
