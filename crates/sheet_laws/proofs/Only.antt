-- Two sheets that say the same are equal, cell by cell. Assumes nothing.
use mathlib.Core.Path.{◌≡◌, refl, sym, ap, ◌∙◌}
use mathlib.Core.Bool.{Bool, true, false}
use mathlib.Core.List.{List, Permᴰ}
use Prim.Native.Nat.{ℕ, suc, ◌+◌, ◌-◌, ◌*◌, ◌/◌, ◌%◌, ◌≤◌, ◌<◌}
use native.Mathlib.Omega.{arith}
use borrow.Author.Tests.{ltb-true, ltb-false}
use lib.Dec.{ltb}
use lib.ListN.{length, get_or}
use lib.Seq.{ext_get_or}
use Rattle.sheet.specs.Sheet.{stopped, papers, answer_cell, refusal_cell}
use Rattle.sums.specs.Sums.{count_cell, code_cell, sum_cell, most}
use Rattle.tallies.specs.Tallies.{Tally}
use Rattle.sheet_laws.specs.Class.{answers_of, refusals_of, sales_of, amounts_of, Class, class_of, Says, stopped_class}
use Rattle.sheet_laws.proofs.Totals.{any_order, same_length}
use Rattle.sheet_laws.proofs.Listing.{same_lists}

-- the same class, number by number
pub record Same (c d : Class) : Type 0 where
  pub taken : c.taken ≡ d.taken
  pub answers : (profile kind : ℕ) → c.answers profile kind ≡ d.answers profile kind
  pub refusals : (number : ℕ) → c.refusals number ≡ d.refusals number
  pub sales : (currency : ℕ) → c.sales currency ≡ d.sales currency
  pub sums : (currency : ℕ) → c.sums currency ≡ d.sums currency

-- what each cell is
data Cell (i : ℕ) : Type 0 where
  the_papers : i ≡ papers → Cell i
  an_answer : (profile kind : ℕ) → 1 ≤ profile → profile ≤ 124 → kind ≤ 2 → i ≡ answer_cell profile kind → Cell i
  no_refusal_lem : i ≡ refusal_cell 0 → Cell i
  a_refusal : (number : ℕ) → 1 ≤ number → number ≤ 19 → i ≡ refusal_cell number → Cell i
  the_count : i ≡ count_cell → Cell i
  a_code : (at : ℕ) → at < most → i ≡ code_cell at → Cell i
  a_sum : (at : ℕ) → at < most → i ≡ sum_cell at → Cell i

cell : (i : ℕ) → i < 458 → Cell i
cell i l =
    by (ltb i 1) refl (ltb i 373) refl (ltb i 374) refl (ltb i 393) refl (ltb i 394) refl (ltb i 426) refl where
      by : (a : Bool) → ltb i 1 ≡ a → (b : Bool) → ltb i 373 ≡ b → (c : Bool) → ltb i 374 ≡ c → (d : Bool) → ltb i 393 ≡ d
          → (e : Bool) → ltb i 394 ≡ e → (f : Bool) → ltb i 426 ≡ f → Cell i
      by true p b q c r d s e t f u = the_papers (omega (arith, ltb-true i 1 p))
      by false p true q c r d s e t f u =
          let few = ltb-true i 373 q in
          let some = ltb-false i 1 p in
          an_answer ((i + 2) / 3) ((i + 2) % 3) (omega arith) (omega arith) (omega arith) (omega arith)
      by false p false q true r d s e t f u = no_refusal_lem (omega (arith, ltb-false i 373 q, ltb-true i 374 r))
      by false p false q false r true s e t f u =
          let few = ltb-true i 393 s in
          let some = ltb-false i 374 r in
          a_refusal (i - 373) (omega arith) (omega arith) (omega arith)
      by false p false q false r false s true t f u = the_count (omega (arith, ltb-false i 393 s, ltb-true i 394 t))
      by false p false q false r false s false t true u =
          let few = ltb-true i 426 u in
          let some = ltb-false i 394 t in
          a_code (i - 394) (omega arith) (omega arith)
      by false p false q false r false s false t false u = let some = ltb-false i 426 u in a_sum (i - 426) (omega arith) (omega arith)

module _ {c d : Class} {s t : List ℕ} (a : Says c s) (b : Says d t) (same : Same c d) where
  same-currencies : a.currencies ≡ b.currencies
  same-currencies =
      same_lists a.currencies b.currencies a.listed.ascending b.listed.ascending
      (λ n. a.listed.exactly n ∙ ap (ltb 0) (same.sales n) ∙ sym (b.listed.exactly n))

  same_code : (at : ℕ) (inside : Bool) → ltb at (length a.currencies) ≡ inside → at < most → get_or s (code_cell at) 0 ≡ get_or t (code_cell at) 0
  same_code at true e l =
      let there = ltb-true at (length a.currencies) e in
      a.codes-are at there ∙ ap (λ z. get_or z at 0) same-currencies ∙ sym (b.codes-are at (omega (arith, ap length same-currencies)))
  same_code at false e l =
      let beyond = ltb-false at (length a.currencies) e in
      a.codes-end at beyond l ∙ sym (b.codes-end at (omega (arith, ap length same-currencies)) l)

  same_sum : (at : ℕ) (inside : Bool) → ltb at (length a.currencies) ≡ inside → at < most → get_or s (sum_cell at) 0 ≡ get_or t (sum_cell at) 0
  same_sum at true e l =
      let there = ltb-true at (length a.currencies) e in
      a.sums-are at there
      ∙ same.sums (get_or a.currencies at 0)
      ∙ ap (λ z. d.sums (get_or z at 0)) same-currencies
      ∙ sym (b.sums-are at (omega (arith, ap length same-currencies)))
  same_sum at false e l =
      let beyond = ltb-false at (length a.currencies) e in
      a.sums-end at beyond l ∙ sym (b.sums-end at (omega (arith, ap length same-currencies)) l)

  by_cell : {i : ℕ} → Cell i → get_or s i 0 ≡ get_or t i 0
  by_cell (the_papers e) = rw e (a.taken_is ∙ same.taken ∙ sym b.taken_is)
  by_cell (an_answer p k lo hi ki e) = rw e (a.answers-are p k lo hi ki ∙ same.answers p k ∙ sym (b.answers-are p k lo hi ki))
  by_cell (no_refusal_lem e) = rw e (a.no_refusal_lem ∙ sym b.no_refusal_lem)
  by_cell (a_refusal n lo hi e) = rw e (a.refusals-are n lo hi ∙ same.refusals n ∙ sym (b.refusals-are n lo hi))
  by_cell (the_count e) = rw e (a.count-is ∙ ap length same-currencies ∙ sym b.count-is)
  by_cell (a_code at l e) = rw e (same_code at (ltb at (length a.currencies)) refl l)
  by_cell (a_sum at l e) = rw e (same_sum at (ltb at (length a.currencies)) refl l)

  -- NO OTHER SHEET says the same
  pub only : s ≡ t
  only = ext_get_or 0 s t (a.size ∙ sym b.size) (λ i l. by_cell (cell i (omega (arith, a.size))))

-- A CLASS IN ANY ORDER of its papers
pub same_class : {ps qs : List (List Tally)} → Permᴰ ps qs → Same (stopped_class (class_of ps)) (stopped_class (class_of qs))
same_class p =
    record {
      taken = ap stopped (same_length p);
      answers = λ profile kind. ap stopped (any_order (answers_of profile kind) p);
      refusals = λ number. ap stopped (any_order (refusals_of number) p);
      sales = λ currency. any_order (sales_of currency) p;
      sums = λ currency. ap stopped (any_order (amounts_of currency) p);
    }
