-- ANY ORDER: where every paper of one order is taken, every paper of another is, and the sheets are equal. Assumes nothing.
use mathlib.Core.Path.{◌≡◌, refl, sym, ap, subst, ◌∙◌}
use mathlib.Core.Bool.{Bool, true, false, cond, ◌&&◌}
use mathlib.Core.List.{List, [], ◌∷◌, ◌++◌, map, append_assoc}
use mathlib.Core.List.{Permᴰ}
use Prim.Native.Nat.{ℕ, suc, ◌+◌, ◌≤◌}
use native.Mathlib.Omega.{arith}
use borrow.Author.Tests.{le-leb, lt-leb}
use lib.Dec.{leb, ltb}
use lib.ListN.{length, length-map, length-append}
use lib.Seq.{append_snoc}
use Rattle.refusal.specs.declared.Refusal.TheVariants.{TooManyCurrencies, TooManyPapers}
use Rattle.sheet.specs.Sheet.{blank_sheet, stopped}
use Rattle.sums.specs.Sums.{Sum, most}
use Rattle.tallies.specs.Tallies.{Tally}
use Rattle.class_sheet.specs.ClassSheet.{paper_tallies, taken_of, sheet_after}
use Rattle.sheet_laws.specs.Class.{joined, sales_of, amounts_of}
use Rattle.sheet_laws.proofs.Totals.{any_order as total-order, same_length}
use Rattle.sheet_laws.proofs.Kept.{both}
use Rattle.sheet_laws.proofs.Listing.{codes, same_lists}
use Rattle.sheet_laws.proofs.Sold.{AllSmall, all_none, all_more, Sells, sold_all, sells_all, all_grow}
use Rattle.class_laws.specs.Taking.{is_done, sheet_of, taken_from, all_done}
use Rattle.class_laws.proofs.Paid.{paper_paid}
use Rattle.class_laws.proofs.Taking.{all_small, Stands, sells_then, taken_is, taken-stands, blank_stands, stands, same_sheet}

two_sells : {tallies : List Tally} {a b : List Sum} → Sells tallies a → Sells tallies b → length a ≡ length b
two_sells {a = a} {b = b} s t =
    sym (length-map a (λ (sum : Sum). sum.currency))
    ∙ ap length (same_lists (codes a) (codes b) s.ascends t.ascends (λ c. s.listed c ∙ sym (t.listed c)))
    ∙ length-map b (λ (sum : Sum). sum.currency)

small_append : {s t : List Tally} → AllSmall s → AllSmall t → AllSmall (s ++ t)
small_append all_none q = q
small_append (all_more p ps) q = all_more p (small_append ps q)

papers-small : (papers : List (List ℕ)) → AllSmall (joined (map paper_tallies papers))
unfolding joined
papers-small [] = all_none
papers-small (paper ∷ more) = small_append (all_small (paper_paid paper)) (papers-small more)

joined_append : (s t : List (List Tally)) → joined (s ++ t) ≡ joined s ++ joined t
unfolding joined
joined_append [] t = refl
joined_append (first ∷ s) t = ap (λ l. first ++ l) (joined_append s t) ∙ sym (append_assoc first (joined s) (joined t))

-- every paper is taken where there are at most 200, and at most 32 currencies in all
pub all-taken : (more : List (List ℕ)) {taken : List (List Tally)} {sheet : List ℕ} → Stands taken sheet → (whole : List Sum)
    → Sells (joined (taken ++ map paper_tallies more)) whole → length whole ≤ most → length taken + length more ≤ 200 → all_done sheet more ≡ true
unfolding all_done
all-taken [] s whole w few count = refl
all-taken (paper ∷ more) {taken} {sheet} s whole w few count =
    let then = sold_all (paper_tallies paper) s.sums in
    let now = taken ++ paper_tallies paper ∷ [] in
    let same = append_snoc taken (paper_tallies paper) (map paper_tallies more) in
    let w' : Sells (joined (now ++ map paper_tallies more)) whole = rw same w in
    let rest : Sells (joined (now ++ map paper_tallies more)) (sold_all (joined (map paper_tallies more)) then) =
    rw (joined_append now (map paper_tallies more)) (sells_all (joined (map paper_tallies more)) (sells_then s paper) (papers-small more)) in
    let room : length then ≤ most = omega (arith, all_grow (joined (map paper_tallies more)) then, two_sells rest w') in
    let done : is_done (taken_of sheet paper) ≡ true =
    ap is_done (taken_is s paper) ∙ rw (lt-leb 200 (length taken) (omega arith), le-leb (length then) most room) in
    let on = taken-stands s paper done in
    rw done (all-taken more on whole w' few (omega (arith, one taken)))
  where
    one : (t : List (List Tally)) → length (t ++ paper_tallies paper ∷ []) ≡ length t + 1
    one t = length-append t (paper_tallies paper ∷ [])

-- ---- two orders

taken-all : (papers : List (List ℕ)) (sheet : List ℕ) → all_done sheet papers ≡ true → taken_from sheet papers ≡ papers
unfolding all_done taken_from
taken-all [] sheet e = refl
taken-all (paper ∷ more) sheet e =
    let each = both (is_done (taken_of sheet paper)) (all_done (sheet_after sheet paper) more) e in
    rw each.0 (ap (λ l. paper ∷ l) (taken-all more (sheet_after sheet paper) each.1))

perm_map : {ps qs : List (List ℕ)} → Permᴰ ps qs → Permᴰ (map paper_tallies ps) (map paper_tallies qs)
perm_map Permᴰ.nil = Permᴰ.nil
perm_map (Permᴰ.cons e d) = Permᴰ.cons (ap paper_tallies e) (perm_map d)
perm_map (Permᴰ.swap e f) = Permᴰ.swap (ap paper_tallies e) (ap paper_tallies f)
perm_map (Permᴰ.trans d e) = Permᴰ.trans (perm_map d) (perm_map e)

sells_perm : {ps qs : List (List Tally)} {sums : List Sum} → Permᴰ ps qs → Sells (joined ps) sums → Sells (joined qs) sums
sells_perm p s =
    record {
      ascends = s.ascends;
      listed = λ c. s.listed c ∙ ap (ltb 0) (total-order (sales_of c) p);
      totals = λ c. s.totals c ∙ ap stopped (total-order (amounts_of c) p);
    }

pub any_order : (ps qs : List (List ℕ)) → Permᴰ ps qs → all_done blank_sheet ps ≡ true
    → (all_done blank_sheet qs ≡ true) × (sheet_of blank_sheet ps ≡ sheet_of blank_sheet qs)
any_order ps qs p e =
    let all = taken-all ps blank_sheet e in
    let s : Stands (map paper_tallies ps) (sheet_of blank_sheet ps) = subst (λ l. Stands (map paper_tallies l) (sheet_of blank_sheet ps)) all (stands ps) in
    let count : length qs ≤ 200 = omega (arith, s.few, length-map ps paper_tallies, same_length p) in
    let done = all-taken qs blank_stands s.sums (sells_perm (perm_map p) s.sells) s.kept.held.few (omega arith) in
    let too = taken-all qs blank_sheet done in
    let taken = subst (λ l. Permᴰ (map paper_tallies l) (map paper_tallies (taken_from blank_sheet qs))) (sym all)
    (subst (λ l. Permᴰ (map paper_tallies ps) (map paper_tallies l)) (sym too) (perm_map p)) in
    (done, same_sheet ps qs taken)
