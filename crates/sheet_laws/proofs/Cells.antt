-- The cells of a sheet: counts, and a list of sums in its places with nothing behind it. Assumes nothing.
use mathlib.Core.Path.{◌≡◌, refl, sym, ap, ap₂, subst, ◌∙◌}
use mathlib.Core.Bool.{Bool, true, false, cond}
use mathlib.Core.List.{List, [], ◌∷◌}
use Prim.Native.Nat.{ℕ, zero, suc, ◌+◌, ◌≤◌, ◌<◌}
use native.Mathlib.Nat.{zero-add}
use native.Mathlib.Omega.{arith}
use borrow.Author.Tests.{ltb-true, ltb-false, eqb-true, eqb-false, eq-eqb, ne_eqb}
use lib.Dec.{eqb, ltb}
use lib.ListN.{length, get_or, set, length-set, get_or-eq_default}
use lib.Seq.{get_or-set_same, get_or-set_other}
use Rattle.sheet.specs.Sheet.{stopped, counted}
use Rattle.sums.specs.Sums.{Sum, new, count_cell, code_cell, sum_cell, most, sum_at, sums_from, sums_of, sum_put, written, with_sums}
use Rattle.sheet_laws.proofs.Listing.{stopped_plus}

abbrev pub no_sum : Sum
no_sum = new 0 0

-- ---- sums written from a place on

put-size : (sheet : List ℕ) (at : ℕ) (sum : Sum) → length (sum_put sheet at sum) ≡ length sheet
put-size sheet at sum = simp length-set

written-size : (at : ℕ) (sums : List Sum) (sheet : List ℕ) → length (written at sums sheet) ≡ length sheet
unfolding written
written-size at [] sheet = refl
written-size at (sum ∷ more) sheet = written-size (at + 1) more (sum_put sheet at sum) ∙ put-size sheet at sum

-- no place from one on for so many has the cell
abbrev Clear : (at count cell : ℕ) → Type 0
Clear at count cell = (j : ℕ) → at ≤ j → j < at + count → (cell ≡ code_cell j → ⊥) × (cell ≡ sum_cell j → ⊥)

written_else : (at : ℕ) (sums : List Sum) (sheet : List ℕ) (cell : ℕ) → Clear at (length sums) cell
    → get_or (written at sums sheet) cell 0 ≡ get_or sheet cell 0
unfolding written
written_else at [] sheet cell clear = refl
written_else at (sum ∷ more) sheet cell clear =
    let between = set sheet (code_cell at) sum.currency in
    let here = clear at (omega arith) (omega arith) in
    written_else (at + 1) more (sum_put sheet at sum) cell (λ j l h. clear j (omega arith) (omega arith))
    ∙ get_or-set_other between (sum_cell at) cell sum.total 0 here.1
    ∙ get_or-set_other sheet (code_cell at) cell sum.currency 0 here.0

module _ (at : ℕ) (sum : Sum) (sheet : List ℕ) (size : length sheet ≡ 458) (inside : at < most) where
  put-code : get_or (sum_put sheet at sum) (code_cell at) 0 ≡ sum.currency
  put-code =
      get_or-set_other (set sheet (code_cell at) sum.currency) (sum_cell at) (code_cell at) sum.total 0 (λ e. omega arith)
      ∙ get_or-set_same sheet (code_cell at) sum.currency 0 (omega arith)

  put_sum : get_or (sum_put sheet at sum) (sum_cell at) 0 ≡ sum.total
  put_sum =
      get_or-set_same (set sheet (code_cell at) sum.currency) (sum_cell at) sum.total 0
      (omega (arith, length-set sheet (code_cell at) sum.currency))

-- what is at each place
pub record At (sheet : List ℕ) (place : ℕ) (sum : Sum) : Type 0 where
  pub code : get_or sheet (code_cell place) 0 ≡ sum.currency
  pub total : get_or sheet (sum_cell place) 0 ≡ sum.total

written_at : (at : ℕ) (sums : List Sum) (sheet : List ℕ) → length sheet ≡ 458 → at + length sums ≤ most
    → (j : ℕ) → j < length sums → At (written at sums sheet) (at + j) (get_or sums j no_sum)
unfolding written
written_at at [] sheet size few j l = absurd (let z : ⊥ = omega arith in z)
written_at at (sum ∷ more) sheet size few zero l =
    let put = sum_put sheet at sum in
    let same : at + 0 ≡ at = omega arith in
    rw same
    (record {
      code = written_else (at + 1) more put (code_cell at) (λ j l h. (λ e. omega arith, λ e. omega arith)) ∙ put-code at sum sheet size (omega arith);
      total = written_else (at + 1) more put (sum_cell at) (λ j l h. (λ e. omega arith, λ e. omega arith)) ∙ put_sum at sum sheet size (omega arith);
    })
written_at at (sum ∷ more) sheet size few (suc j) l =
    let same : at + suc j ≡ at + 1 + j = omega arith in
    rw same (written_at (at + 1) more (sum_put sheet at sum) (put-size sheet at sum ∙ size) (omega arith) j (omega arith))

-- ---- a sheet with so many in each counting cell, and these sums

pub record Holds (counts : ℕ → ℕ) (sums : List Sum) (sheet : List ℕ) : Type 0 where
  pub size : length sheet ≡ 458
  pub counts-are : (cell : ℕ) → cell < count_cell → get_or sheet cell 0 ≡ counts cell
  pub few : length sums ≤ most
  pub count-is : get_or sheet count_cell 0 ≡ length sums
  pub places : (at : ℕ) → at < most → At sheet at (get_or sums at no_sum)

read : (count at : ℕ) (sheet : List ℕ) (sums : List Sum) → length sums ≡ count → ((j : ℕ) → j < count → At sheet (at + j) (get_or sums j no_sum))
    → sums_from count at sheet ≡ sums
unfolding sums_from
read zero at sheet [] e there = refl
read zero at sheet (sum ∷ more) e there = absurd (let z : ⊥ = omega arith in z)
read (suc count) at sheet [] e there = absurd (let z : ⊥ = omega arith in z)
read (suc count) at sheet (sum ∷ more) e there =
    let here = moved at 0 sum (omega arith) (there 0 (omega arith)) in
    ap₂ (λ s l. s ∷ l) (ap₂ (λ c t. new c t) here.code here.total)
    (read count (at + 1) sheet more (omega arith) (λ j l. moved (at + 1 + j) (suc j) (get_or more j no_sum) (omega arith) (there (suc j) (omega arith))))
  where
    moved : (place j : ℕ) (s : Sum) → at + j ≡ place → At sheet (at + j) s → At sheet place s
    moved place j s z a = subst (λ i. At sheet i s) z a

pub sums-read : {counts : ℕ → ℕ} {sums : List Sum} {sheet : List ℕ} → Holds counts sums sheet → sums_of sheet ≡ sums
unfolding sums_of
sums-read {sums = sums} {sheet = sheet} h =
    ap (λ n. sums_from n 0 sheet) h.count-is
    ∙ read (length sums) 0 sheet sums refl (λ j l. rw zero-add (h.places j (omega (arith, h.few))))

module _ {counts : ℕ → ℕ} {sums : List Sum} {sheet : List ℕ} (h : Holds counts sums sheet) where
  -- one more in a counting cell
  pub one_more_lem : (then : ℕ → ℕ) (cell : ℕ) → cell < count_cell → then cell ≡ stopped (counts cell + 1) → ((i : ℕ) → (i ≡ cell → ⊥) → then i ≡ counts i)
      → Holds then sums (counted sheet cell)
  unfolding counted
  one_more_lem then cell inside here else =
      let value = stopped (get_or sheet cell 0 + 1) in
      let kept : (i : ℕ) → (i ≡ cell → ⊥) → get_or (set sheet cell value) i 0 ≡ get_or sheet i 0 = λ i. get_or-set_other sheet cell i value 0 in
      record {
        size = length-set sheet cell value ∙ h.size;
        counts-are = λ i l. by i (eqb i cell) refl l;
        few = h.few;
        count-is = kept count_cell (λ e. omega arith) ∙ h.count-is;
        places = λ at l.
            record {
              code = kept (code_cell at) (λ e. omega arith) ∙ (h.places at l).code;
              total = kept (sum_cell at) (λ e. omega arith) ∙ (h.places at l).total;
            };
      }
    where
      value : ℕ
      value = stopped (get_or sheet cell 0 + 1)

      by : (i : ℕ) (same : Bool) → eqb i cell ≡ same → i < count_cell → get_or (set sheet cell value) i 0 ≡ then i
      by i true e l =
          ap (λ j. get_or (set sheet cell value) j 0) (eqb-true i cell e)
          ∙ get_or-set_same sheet cell value 0 (omega (arith, h.size))
          ∙ ap (λ n. stopped (n + 1)) (h.counts-are cell inside)
          ∙ sym here
          ∙ ap then (sym (eqb-true i cell e))
      by i false e l =
          let other = eqb-false i cell e in
          get_or-set_other sheet cell i value 0 other ∙ h.counts-are i l ∙ sym (else i other)

  -- other sums, and not fewer
  pub with_sums_lem : (then : List Sum) → length sums ≤ length then → length then ≤ most → Holds counts then (with_sums sheet then)
  unfolding with_sums
  with_sums_lem then grown few =
      let between = written 0 then sheet in
      record {
        size = length-set between count_cell (length then) ∙ written-size 0 then sheet ∙ h.size;
        counts-are = λ i l.
            get_or-set_other between count_cell i (length then) 0 (λ e. omega arith)
            ∙ written_else 0 then sheet i (λ j m n. (λ e. omega arith, λ e. omega arith))
            ∙ h.counts-are i l;
        few = few;
        count-is = get_or-set_same between count_cell (length then) 0 (omega (arith, written-size 0 then sheet, h.size));
        places = λ at l. place at l (by at (ltb at (length then)) refl l);
      }
    where
      between : List ℕ
      between = written 0 then sheet

      place : (at : ℕ) → at < most → At between at (get_or then at no_sum) → At (set between count_cell (length then)) at (get_or then at no_sum)
      place at l a =
          record {
            code = get_or-set_other between count_cell (code_cell at) (length then) 0 (λ e. omega arith) ∙ a.code;
            total = get_or-set_other between count_cell (sum_cell at) (length then) 0 (λ e. omega arith) ∙ a.total;
          }

      by : (at : ℕ) (inside : Bool) → ltb at (length then) ≡ inside → at < most → At between at (get_or then at no_sum)
      by at true e l = rw zero-add at (written_at 0 then sheet h.size (omega arith) at (ltb-true at (length then) e))
      by at false e l =
          let beyond = ltb-false at (length then) e in
          let none : get_or then at no_sum ≡ no_sum = get_or-eq_default then no_sum beyond in
          let before : get_or sums at no_sum ≡ no_sum = get_or-eq_default sums no_sum (omega arith) in
          record {
            code = written_else 0 then sheet (code_cell at) (λ j m n. (λ e. omega arith, λ e. omega arith)) ∙ (h.places at l).code
                ∙ ap (λ s. s.currency) (before ∙ sym none);
            total = written_else 0 then sheet (sum_cell at) (λ j m n. (λ e. omega arith, λ e. omega arith)) ∙ (h.places at l).total
                ∙ ap (λ s. s.total) (before ∙ sym none);
          }
