-- Where no number of a class is larger than a cell holds, none stops. Assumes nothing.
use mathlib.Core.Path.{◌≡◌, refl, sym, ap, ◌∙◌}
use mathlib.Core.Bool.{Bool, true, false, cond, ◌&&◌}
use mathlib.Core.List.{List, [], ◌∷◌}
use Prim.Native.Nat.{ℕ, suc, ◌+◌, ◌*◌, ◌≤◌}
use native.Mathlib.Omega.{arith}
use lib.Dec.{eqb}
use lib.ListN.{length, get_or}
use Rattle.sheet.specs.Sheet.{largest, stopped}
use Rattle.tallies.specs.Tallies.{Tally, answered, refused, approved}
use Rattle.sheet_laws.specs.Class.{answers_of, refusals_of, amounts_of, total, Class, Says, stopped_class}
use Rattle.sheet_laws.proofs.Listing.{as_is}

-- ---- counts are at most the tallies, sums at most MAX for each approval

abbrev pub approvals_of : Tally → ℕ
approvals_of (answered profile kind) = 0
approvals_of (refused number) = 0
approvals_of (approved currency amount) = 1

-- an amount is at most MAX
abbrev pub Payable : Tally → Type 0
Payable (answered profile kind) = Unit
Payable (refused number) = Unit
Payable (approved currency amount) = amount ≤ 999_999_999_999

pub data AllPayable : List Tally → Type 0 where
  none_paid : AllPayable []
  more_paid : {tally : Tally} {more : List Tally} → Payable tally → AllPayable more → AllPayable (tally ∷ more)

one_or_none : (b : Bool) → cond {A = ℕ} b 1 0 ≤ 1
one_or_none true = omega arith
one_or_none false = omega arith

all_or_none : (b : Bool) (n : ℕ) → cond b n 0 ≤ n
all_or_none true n = omega arith
all_or_none false n = omega arith

one_answer : (profile kind : ℕ) (tally : Tally) → answers_of profile kind tally ≤ 1
one_answer profile kind (answered p k) = one_or_none (eqb p profile && eqb k kind)
one_answer profile kind (refused number) = omega arith
one_answer profile kind (approved currency amount) = omega arith

one_refusal : (number : ℕ) (tally : Tally) → refusals_of number tally ≤ 1
one_refusal number (answered p k) = omega arith
one_refusal number (refused n) = one_or_none (eqb n number)
one_refusal number (approved currency amount) = omega arith

counted-most : (of : Tally → ℕ) → ((tally : Tally) → of tally ≤ 1) → (s : List Tally) → total of s ≤ length s
unfolding total
counted-most of one [] = omega arith
counted-most of one (tally ∷ s) = omega (arith, one tally, counted-most of one s)

pub answers-most : (profile kind : ℕ) (s : List Tally) → total (answers_of profile kind) s ≤ length s
answers-most profile kind = counted-most (answers_of profile kind) (one_answer profile kind)

pub refusals-most : (number : ℕ) (s : List Tally) → total (refusals_of number) s ≤ length s
refusals-most number = counted-most (refusals_of number) (one_refusal number)

one_sum : (currency : ℕ) (tally : Tally) → Payable tally → amounts_of currency tally ≤ 999_999_999_999 * approvals_of tally
one_sum currency (answered p k) paid = omega arith
one_sum currency (refused n) paid = omega arith
one_sum currency (approved c amount) paid = omega (arith, all_or_none (eqb c currency) amount)

pub sums-most : (currency : ℕ) {s : List Tally} → AllPayable s → total (amounts_of currency) s ≤ 999_999_999_999 * total approvals_of s
unfolding total
sums-most currency none_paid = omega arith
sums-most currency (more_paid {tally = tally} {more = more} paid rest) = omega (arith, one_sum currency tally paid, sums-most currency rest)

-- ---- NO STOP

pub record Fits (class : Class) : Type 0 where
  pub taken : class.taken ≤ largest
  pub answers : (profile kind : ℕ) → class.answers profile kind ≤ largest
  pub refusals : (number : ℕ) → class.refusals number ≤ largest
  pub sums : (currency : ℕ) → class.sums currency ≤ largest

pub no_stop : {class : Class} {sheet : List ℕ} → Fits class → Says (stopped_class class) sheet → Says class sheet
no_stop {class} f s =
    record {
      size = s.size;
      taken_is = s.taken_is ∙ as_is class.taken f.taken;
      answers-are = λ p k lo hi ki. s.answers-are p k lo hi ki ∙ as_is (class.answers p k) (f.answers p k);
      refusals-are = λ n lo hi. s.refusals-are n lo hi ∙ as_is (class.refusals n) (f.refusals n);
      no_refusal_lem = s.no_refusal_lem;
      currencies = s.currencies;
      listed = record { ascending = s.listed.ascending; exactly = s.listed.exactly };
      few = s.few;
      count-is = s.count-is;
      codes-are = s.codes-are;
      sums-are = λ at l. s.sums-are at l ∙ as_is (class.sums (get_or s.currencies at 0)) (f.sums (get_or s.currencies at 0));
      codes-end = s.codes-end;
      sums-end = s.sums-end;
    }
