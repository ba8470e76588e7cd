-- Amounts and their conversion (document 01, "Numbers").
use Rattle.std.specs.Prelude.{ℕ, zero, suc, ◌+◌, ◌-◌, ◌*◌, ◌/◌, ◌^◌, Bool, cond, ◌&&◌, List, get_or, ltb, leb, eqb}
use Rattle.money.specs.declared.TransactionAmount.{TransactionAmount}
use Rattle.money.specs.declared.Rate.{Rate}
use Rattle.money.specs.declared.Rates.{Rates}
use Rattle.money.specs.declared.Converted.{Converted}
use Rattle.money.specs.declared.Converted.TheVariants.{Amount, Over, NoEntry}

abbrev pub max : ℕ
max = 999999999999

-- MAX if larger
abbrev pub stopped : ℕ → ℕ
stopped n = cond (ltb max n) max n

-- what an absent entry reads as: digits 0 are no rate
abbrev pub blank : Rate
blank = record { from = 0; to = 0; digits = 0; shift = 0 }

abbrev pub is_for : Rate → ℕ → ℕ → Bool
is_for rate from to = eqb rate.from from && eqb rate.to to

-- the first entry for the pair among n from place i on, blank where there is none
unfoldable pub rate_for : List Rate → ℕ → ℕ → ℕ → ℕ → Rate
rate_for entries from to i zero = blank
rate_for entries from to i (suc n) =
    cond (is_for (get_or entries i blank) from to) (get_or entries i blank) (rate_for entries from to (suc i) n)

-- digits 1 to 9,999, shift -9 to 3 (the paper's byte is s + 9)
abbrev pub is_rate : Rate → Bool
is_rate rate = leb 1 rate.digits && leb rate.digits 9999 && leb rate.shift 12

-- n / k, its fraction dropped (syllabus 0) or rounded up to a whole unit (syllabus 1, request Nine)
unfoldable pub rounded : (up : Bool) (n k : ℕ) → ℕ
rounded up n k = (n + cond up (k - 1) 0) / k

-- amount x d x 10^s, its fraction dropped or rounded up
unfoldable pub scaled : (up : Bool) → ℕ → Rate → ℕ
scaled up amount rate = rounded up (amount * rate.digits * 10 ^ rate.shift) (10 ^ 9)

abbrev pub amount_of : ℕ → Converted
amount_of n = Amount (record { 0 = n })

-- over if larger than MAX (request Four), whatever was rounded
abbrev pub amount_or_over : ℕ → Converted
amount_or_over n = cond (ltb max n) Over (amount_of n)

-- same currency: the amount itself; else by the entry for that pair; with no entry the amount doesn't count
unfoldable pub convert_of : TransactionAmount → ℕ → ℕ → Rates → Converted
convert_of amount from to rates =
    let spent = stopped amount.0 in
    let rate = rate_for rates.entries from to 0 5 in
    cond (eqb from to) (amount_of spent) (cond (is_rate rate) (amount_or_over (scaled rates.up spent rate)) NoEntry)
