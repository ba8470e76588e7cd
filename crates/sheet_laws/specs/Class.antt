-- A class as document 02 (Ten) defines it, from what the answers of its papers add, and how a sheet's cells say it: no cell is filled here.
use Rattle.std.specs.Prelude.{◌≡◌, Bool, false, cond, ◌&&◌, ◌||◌, List, [], ◌∷◌, ◌++◌, ℕ, ◌+◌, ◌≤◌, ◌<◌, eqb, ltb, length, get_or}
use Rattle.sheet.specs.Sheet.{answer_cell, refusal_cell, papers, stopped}
use Rattle.sums.specs.Sums.{count_cell, code_cell, sum_cell, most}
use Rattle.tallies.specs.Tallies.{Tally, answered, refused, approved}

-- what one tally adds: to the answers of a kind by a profile, to a refusal, to the approvals in a currency and to the sum of them
abbrev pub answers_of : (profile kind : ℕ) → Tally → ℕ
answers_of profile kind (answered p k) = cond (eqb p profile && eqb k kind) 1 0
answers_of profile kind (refused number) = 0
answers_of profile kind (approved currency amount) = 0

abbrev pub refusals_of : (number : ℕ) → Tally → ℕ
refusals_of number (answered profile kind) = 0
refusals_of number (refused n) = cond (eqb n number) 1 0
refusals_of number (approved currency amount) = 0

abbrev pub sales_of : (currency : ℕ) → Tally → ℕ
sales_of currency (answered profile kind) = 0
sales_of currency (refused number) = 0
sales_of currency (approved c amount) = cond (eqb c currency) 1 0

abbrev pub amounts_of : (currency : ℕ) → Tally → ℕ
amounts_of currency (answered profile kind) = 0
amounts_of currency (refused number) = 0
amounts_of currency (approved c amount) = cond (eqb c currency) amount 0

unfoldable pub total : (Tally → ℕ) → List Tally → ℕ
total of [] = 0
total of (tally ∷ more) = of tally + total of more

unfoldable pub joined : List (List Tally) → List Tally
joined [] = []
joined (paper ∷ more) = paper ++ joined more

-- A CLASS: how many papers were taken; for every profile and kind (0 TC, 1 AAC, 2 ARQC) how many answers, for every refusal how many; for every
-- currency how many offline approvals and the sum of their amounts
pub record Class : Type 0 where
  pub taken : ℕ
  pub answers : (profile kind : ℕ) → ℕ
  pub refusals : (number : ℕ) → ℕ
  pub sales : (currency : ℕ) → ℕ
  pub sums : (currency : ℕ) → ℕ

abbrev pub class_of : List (List Tally) → Class
class_of taken =
    record {
      taken = length taken;
      answers = λ profile kind. total (answers_of profile kind) (joined taken);
      refusals = λ number. total (refusals_of number) (joined taken);
      sales = λ currency. total (sales_of currency) (joined taken);
      sums = λ currency. total (amounts_of currency) (joined taken);
    }

-- THE CURRENCIES in ascending order: those in which there is an approval, and no other
pub data Ascending : (low : ℕ) → List ℕ → Type 0 where
  none : {low : ℕ} → Ascending low []
  next : {low currency : ℕ} {more : List ℕ} → low ≤ currency → Ascending (currency + 1) more → Ascending low (currency ∷ more)

unfoldable pub is_in : ℕ → List ℕ → Bool
is_in n [] = false
is_in n (m ∷ more) = eqb m n || is_in n more

pub record Lists (class : Class) (currencies : List ℕ) : Type 0 where
  pub ascending : Ascending 0 currencies
  pub exactly : (currency : ℕ) → is_in currency currencies ≡ ltb 0 (class.sales currency)

-- WHAT A SHEET SAYS: all its cells, the last of which are those of the currencies; behind the last currency they hold 0
pub record Says (class : Class) (sheet : List ℕ) : Type 0 where
  pub size : length sheet ≡ 458
  pub taken_is : get_or sheet papers 0 ≡ class.taken
  pub answers-are : (profile kind : ℕ) → 1 ≤ profile → profile ≤ 124 → kind ≤ 2
      → get_or sheet (answer_cell profile kind) 0 ≡ class.answers profile kind
  pub refusals-are : (number : ℕ) → 1 ≤ number → number ≤ 19 → get_or sheet (refusal_cell number) 0 ≡ class.refusals number
  pub no_refusal_lem : get_or sheet (refusal_cell 0) 0 ≡ 0
  pub currencies : List ℕ
  pub listed : Lists class currencies
  pub few : length currencies ≤ most
  pub count-is : get_or sheet count_cell 0 ≡ length currencies
  pub codes-are : (at : ℕ) → at < length currencies → get_or sheet (code_cell at) 0 ≡ get_or currencies at 0
  pub sums-are : (at : ℕ) → at < length currencies → get_or sheet (sum_cell at) 0 ≡ class.sums (get_or currencies at 0)
  pub codes-end : (at : ℕ) → length currencies ≤ at → at < most → get_or sheet (code_cell at) 0 ≡ 0
  pub sums-end : (at : ℕ) → length currencies ≤ at → at < most → get_or sheet (sum_cell at) 0 ≡ 0

-- numbers that no cell can hold stop at the largest that it can
abbrev pub stopped_class : Class → Class
stopped_class class =
    record {
      taken = stopped class.taken;
      answers = λ profile kind. stopped (class.answers profile kind);
      refusals = λ number. stopped (class.refusals number);
      sales = class.sales;
      sums = λ currency. stopped (class.sums currency);
    }
