-- The lines of records: one more at a time, and of two inputs one behind the other. Assumes nothing.
use mathlib.Core.Path.{◌≡◌, sym, ap, ◌∙◌}
use mathlib.Core.List.{List, [], ◌∷◌, ◌++◌, append-nil, append_assoc}
use Prim.Native.Nat.{ℕ, zero, suc, ◌+◌, ◌*◌}
use native.Mathlib.Nat.{add-zero}
use native.Mathlib.Omega.{arith}
use lib.ListN.{length, take, drop, length-append, length-drop}
use lib.Seq.{drop-drop, take-append-le, drop-append-le}
use Rattle.imports.specs.Imports.{record_line, records_in, lines_in, imports_from}

pub one_more_lem : (n number : ℕ) (input : List ℕ)
    → lines_in (suc n) number input ≡ lines_in n number input ++ record_line (number + n) (take 20 (drop (20 * n) input))
unfolding lines_in
one_more_lem zero number input = rw (add-zero number) (append-nil (record_line number (take 20 input)))
one_more_lem (suc n) number input =
    let line = record_line number (take 20 input) in
    let before = lines_in n (number + 1) (drop 20 input) in
    let place : 20 + 20 * n ≡ 20 * suc n = omega arith in
    let counted : number + 1 + n ≡ number + suc n = omega arith in
    let record-at = rw (counted, drop-drop (20 * n) 20 input, place) at (one_more_lem n (number + 1) (drop 20 input)) in
    ap (λ (s : List ℕ). line ++ s) record-at ∙ sym (append_assoc line before _)

-- whole records, and what stands behind them
joined : (n m number : ℕ) (front back : List ℕ) → length front ≡ 20 * n
    → lines_in (n + m) number (front ++ back) ≡ lines_in n number front ++ lines_in m (number + n) back
unfolding lines_in
joined zero m number [] back e = let none : 0 + m ≡ m = omega arith in rw (add-zero number, none)
joined zero m number (b ∷ front) back e = absurd (let z : ⊥ = omega arith in z)
joined (suc n) m number front back e =
    let line = record_line number (take 20 front) in
    let count : suc n + m ≡ suc (n + m) = omega arith in
    let counted : number + 1 + n ≡ number + suc n = omega arith in
    let left : length (drop 20 front) ≡ 20 * n = length-drop 20 front ∙ omega arith in
    let first = take-append-le 20 front back (omega arith) in
    let rest = drop-append-le 20 front back (omega arith) in
    let more = rw counted at (joined n m (number + 1) (drop 20 front) back left) in
    ap (λ (k : ℕ). lines_in k number (front ++ back)) count
    ∙ ap (λ (s : List ℕ). record_line number s ++ lines_in (n + m) (number + 1) (drop 20 (front ++ back))) first
    ∙ ap (λ (s : List ℕ). line ++ s) (ap (λ (s : List ℕ). lines_in (n + m) (number + 1) s) rest ∙ more)
    ∙ sym (append_assoc line (lines_in n (number + 1) (drop 20 front)) (lines_in m (number + suc n) back))

-- so input that comes in pieces of whole records is answered as one
pub in_pieces : (n number : ℕ) (front back : List ℕ) → length front ≡ 20 * n
    → imports_from number (front ++ back) ≡ imports_from number front ++ imports_from (number + records_in (length front)) back
unfolding imports_from
in_pieces n number front back e =
    let whole : records_in (length front) ≡ n = rw e (omega arith) in
    let all : records_in (length (front ++ back)) ≡ n + records_in (length back) = rw (length-append front back, e) (omega arith) in
    rw (all, whole) (joined n (records_in (length back)) number front back e)
