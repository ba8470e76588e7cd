-- What a kept sheet says is the class of its tallies, each number stopped. Assumes nothing.
use mathlib.Core.Logic.{◌⊎◌, inl, inr}
use mathlib.Core.Path.{◌≡◌, refl, sym, ap, ap₂, ◌∙◌}
use mathlib.Core.Bool.{Bool, true, false, cond, ◌&&◌, ◌||◌}
use mathlib.Core.List.{List, [], ◌∷◌, map}
use Prim.Native.Nat.{ℕ, zero, suc, ◌+◌, ◌*◌, ◌-◌, ◌≤◌, ◌<◌}
use native.Mathlib.Omega.{arith}
use borrow.Author.Tests.{ltb-false, le-ltb, eqb-true, eqb-false, eq-eqb, ne_eqb}
use lib.Dec.{eqb, ltb}
use lib.ListN.{length, get_or, length-map, get_or-map, get_or-eq_default}
use Rattle.sheet.specs.Sheet.{papers, answer_cell, refusal_cell, stopped, no_answer, no_refusal}
use Rattle.sums.specs.Sums.{Sum, code_cell, sum_cell, most}
use Rattle.tallies.specs.Tallies.{Tally, answered, refused, approved}
use Rattle.sheet_laws.specs.Class.{answers_of, refusals_of, amounts_of, total, joined, class_of, Ascending, none, next, Lists, Says, stopped_class}
use Rattle.sheet_laws.proofs.Totals.{total-same, total-none}
use Rattle.sheet_laws.proofs.Listing.{codes, sum_in, same_lists}
use Rattle.sheet_laws.proofs.Cells.{no_sum}
use Rattle.sheet_laws.proofs.Sold.{Sells}
use Rattle.sheet_laws.proofs.Kept.{marks_in, Kept, none_of, both}

-- ---- a mark in a cell

abbrev mark : (out here : Bool) → ℕ
mark out here = cond out 0 (cond here 1 0)

never : (b : Bool) → b ≡ true → b ≡ false → ⊥
never b e f = let z : ◌≡◌ {A = Bool} true false = cc in let w : ◌≡◌ {A = ℕ} 0 1 = cc in omega arith

-- in the cell of a number it is one for that number
as_one : (out here same : Bool) → (same ≡ true → out ≡ false) → (same ≡ true → here ≡ true) → (out ≡ false → here ≡ true → same ≡ true)
    → mark out here ≡ cond same 1 0
as_one true here true in_range_lem is alone = absurd (never true refl (in_range_lem refl))
as_one true here false in_range_lem is alone = refl
as_one false true true in_range_lem is alone = refl
as_one false true false in_range_lem is alone = absurd (never false (alone refl refl) refl)
as_one false false true in_range_lem is alone = absurd (never false (is refl) refl)
as_one false false false in_range_lem is alone = refl

no_mark : (out here : Bool) → (out ≡ false → here ≡ true → ⊥) → mark out here ≡ 0
no_mark true here not = refl
no_mark false true not = absurd (not refl refl)
no_mark false false not = refl

above-none : (n : ℕ) → eqb n 0 ≡ false → 1 ≤ n
above-none zero e = absurd (eqb-false 0 0 e refl)
above-none (suc n) e = omega arith

answer_range : (p k : ℕ) → no_answer p k ≡ false → (1 ≤ p) × (p ≤ 124) × (k ≤ 2)
answer_range p k e =
    let each = none_of (eqb p 0 || ltb 124 p) (ltb 2 k) e in
    let both = none_of (eqb p 0) (ltb 124 p) each.0 in
    (above-none p both.0, ltb-false 124 p both.1, ltb-false 2 k each.1)

refusal_range : (n : ℕ) → no_refusal n ≡ false → (1 ≤ n) × (n ≤ 19)
refusal_range n e =
    let both = none_of (eqb n 0) (ltb 19 n) e in
    (above-none n both.0, ltb-false 19 n both.1)

-- ---- the cells of the counts

module _ (profile kind : ℕ) (low : 1 ≤ profile) (high : profile ≤ 124) (kinds : kind ≤ 2) where
  in_range_lem : no_answer profile kind ≡ false
  in_range_lem = rw (ne_eqb profile 0 (λ e. omega arith), le-ltb 124 profile high, le-ltb 2 kind kinds)

  given : (p k : ℕ) → eqb p profile && eqb k kind ≡ true → (p ≡ profile) × (k ≡ kind)
  given p k e = let each = both (eqb p profile) (eqb k kind) e in (eqb-true p profile each.0, eqb-true k kind each.1)

  is-answer : (tally : Tally) → marks_in (answer_cell profile kind) tally ≡ answers_of profile kind tally
  is-answer (answered p k) =
      as_one (no_answer p k) (eqb (answer_cell profile kind) (answer_cell p k)) (eqb p profile && eqb k kind)
      (λ e. ap₂ no_answer (given p k e).0 (given p k e).1 ∙ in_range_lem)
      (λ e. eq-eqb (answer_cell profile kind) (answer_cell p k) (sym (ap₂ answer_cell (given p k e).0 (given p k e).1)))
      (λ e f. alone (answer_range p k e) (eqb-true (answer_cell profile kind) (answer_cell p k) f))
    where
      alone : (1 ≤ p) × (p ≤ 124) × (k ≤ 2) → answer_cell profile kind ≡ answer_cell p k → eqb p profile && eqb k kind ≡ true
      alone r f =
          let same : p ≡ profile = omega (arith, r.0, r.2) in
          let kinds-too : k ≡ kind = omega (arith, r.0, r.2) in
          rw (eq-eqb p profile same, eq-eqb k kind kinds-too)
  is-answer (refused number) =
      no_mark (no_refusal number) (eqb (answer_cell profile kind) (refusal_cell number))
      (λ e f. let cells = eqb-true (answer_cell profile kind) (refusal_cell number) f in omega (arith, (refusal_range number e).0))
  is-answer (approved currency amount) = refl

-- an answer's cell is no other
no_answer_lem : (cell : ℕ) → cell ≡ 0 ⊎ refusal_cell 0 ≤ cell → (p k : ℕ) → marks_in cell (answered p k) ≡ 0
no_answer_lem cell outside p k =
    no_mark (no_answer p k) (eqb cell (answer_cell p k)) (λ e f. by outside (answer_range p k e) (eqb-true cell (answer_cell p k) f)) where
      by : cell ≡ 0 ⊎ refusal_cell 0 ≤ cell → (1 ≤ p) × (p ≤ 124) × (k ≤ 2) → cell ≡ answer_cell p k → ⊥
      by (inl z) r f = omega (arith, r.0)
      by (inr z) r f = omega (arith, r.0, r.1, r.2)

module _ (number : ℕ) (low : 1 ≤ number) (high : number ≤ 19) where
  is_refusal : (tally : Tally) → marks_in (refusal_cell number) tally ≡ refusals_of number tally
  is_refusal (answered p k) = no_answer_lem (refusal_cell number) (inr (omega arith)) p k
  is_refusal (refused n) =
      as_one (no_refusal n) (eqb (refusal_cell number) (refusal_cell n)) (eqb n number)
      (λ e. ap no_refusal (eqb-true n number e) ∙ in_range_too)
      (λ e. eq-eqb (refusal_cell number) (refusal_cell n) (sym (ap refusal_cell (eqb-true n number e))))
      (λ e f. eq-eqb n number (same (eqb-true (refusal_cell number) (refusal_cell n) f)))
    where
      in_range_too : no_refusal number ≡ false
      in_range_too = rw (ne_eqb number 0 (λ e. omega arith), le-ltb 19 number high)

      same : refusal_cell number ≡ refusal_cell n → n ≡ number
      same e = omega arith
  is_refusal (approved currency amount) = refl

-- nothing counts in the cell of papers, nor in that of refusal 0
nothing_in : (cell : ℕ) → cell ≡ 0 ⊎ cell ≡ refusal_cell 0 → (tally : Tally) → marks_in cell tally ≡ 0
nothing_in cell (inl e) (answered p k) = no_answer_lem cell (inl e) p k
nothing_in cell (inr e) (answered p k) = no_answer_lem cell (inr (omega arith)) p k
nothing_in cell which (refused n) =
    no_mark (no_refusal n) (eqb cell (refusal_cell n)) (λ e f. by which (refusal_range n e) (eqb-true cell (refusal_cell n) f)) where
      by : cell ≡ 0 ⊎ cell ≡ refusal_cell 0 → (1 ≤ n) × (n ≤ 19) → cell ≡ refusal_cell n → ⊥
      by (inl z) r f = omega arith
      by (inr z) r f = omega (arith, r.0)
nothing_in cell which (approved currency amount) = refl

-- ---- the cells of the sums

code-from : (at : ℕ) {low : ℕ} {l : List ℕ} → Ascending low l → at < length l → low ≤ get_or l at 0
code-from at none h = absurd (let z : ⊥ = omega arith in z)
code-from zero (next least rest) h = least
code-from (suc at) (next least rest) h = omega (arith, code-from at rest (omega arith))

sum_at_lem : (at : ℕ) {low : ℕ} (sums : List Sum) → Ascending low (codes sums) → at < length sums
    → (get_or sums at no_sum).total ≡ sum_in (get_or (codes sums) at 0) sums
unfolding sum_in
sum_at_lem at [] a h = absurd (let z : ⊥ = omega arith in z)
sum_at_lem zero (sum ∷ more) a h = rw (eq-eqb sum.currency sum.currency refl)
sum_at_lem (suc at) (sum ∷ more) (next least rest) h =
    let later = code-from at rest (omega (arith, length-map more (λ (s : Sum). s.currency))) in
    rw (ne_eqb sum.currency (get_or (codes more) at 0) (λ e. omega arith)) (sum_at_lem at more rest (omega arith))

code_at : (at : ℕ) (sums : List Sum) → (get_or sums at no_sum).currency ≡ get_or (codes sums) at 0
code_at at sums = sym (get_or-map (λ (s : Sum). s.currency) sums at no_sum)

-- ---- WHAT IT SAYS

module _ (taken : List (List Tally)) {sums : List Sum} {sheet : List ℕ} (k : Kept (length taken) (joined taken) sums sheet)
    (s : Sells (joined taken) sums) where
  abbrev many : length (codes sums) ≡ length sums
  many = length-map sums (λ (sum : Sum). sum.currency)

  count : (cell : ℕ) → cell < 393 → (cell ≡ 0 → ⊥) → (n : ℕ) → total (marks_in cell) (joined taken) ≡ n → get_or sheet cell 0 ≡ stopped n
  count cell l other n e =
      k.held.counts-are cell l
      ∙ ap (λ b. stopped (total (marks_in cell) (joined taken) + cond b (length taken) 0)) (ne_eqb cell 0 other)
      ∙ ap stopped (let z : total (marks_in cell) (joined taken) + 0 ≡ n = omega arith in z)

  alone : total (marks_in 0) (joined taken) + length taken ≡ length taken
  alone = omega (arith, total-none (marks_in 0) (nothing_in 0 (inl refl)) (joined taken))

  pub says : Says (stopped_class (class_of taken)) sheet
  says =
      record {
        size = k.held.size;
        taken_is =
            k.held.counts-are papers (omega arith)
            ∙ ap stopped alone;
        answers-are = λ p q lo hi ki.
            count (answer_cell p q) (omega arith) (λ e. omega arith) (total (answers_of p q) (joined taken))
            (total-same (marks_in (answer_cell p q)) (answers_of p q) (is-answer p q lo hi ki) (joined taken));
        refusals-are = λ n lo hi.
            count (refusal_cell n) (omega arith) (λ e. omega arith) (total (refusals_of n) (joined taken))
            (total-same (marks_in (refusal_cell n)) (refusals_of n) (is_refusal n lo hi) (joined taken));
        no_refusal_lem =
            count (refusal_cell 0) (omega arith) (λ e. omega arith) 0
            (total-none (marks_in (refusal_cell 0)) (nothing_in (refusal_cell 0) (inr refl)) (joined taken));
        currencies = codes sums;
        listed = record { ascending = s.ascends; exactly = s.listed };
        few = omega (arith, many, k.held.few);
        count-is = k.held.count-is ∙ sym many;
        codes-are = λ at l. (k.held.places at (omega (arith, many, k.held.few))).code ∙ code_at at sums;
        sums-are = λ at l.
            (k.held.places at (omega (arith, many, k.held.few))).total
            ∙ sum_at_lem at sums s.ascends (omega (arith, many))
            ∙ s.totals (get_or (codes sums) at 0);
        codes-end = λ at l m. (k.held.places at m).code ∙ ap (λ z. z.currency) (get_or-eq_default sums no_sum (omega (arith, many)));
        sums-end = λ at l m. (k.held.places at m).total ∙ ap (λ z. z.total) (get_or-eq_default sums no_sum (omega (arith, many)));
      }

-- THE CURRENCIES are as many as any such list has
pub as_many : (taken : List (List Tally)) {sums : List Sum} → Sells (joined taken) sums → (currencies : List ℕ) → Lists (class_of taken) currencies
    → length sums ≡ length currencies
as_many taken {sums} s currencies l =
    sym (length-map sums (λ (sum : Sum). sum.currency))
    ∙ ap length (same_lists (codes sums) currencies s.ascends l.ascending (λ c. s.listed c ∙ sym (l.exactly c)))
