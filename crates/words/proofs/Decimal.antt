-- Numbers in decimal are words, and read back. Assumes nothing.
use mathlib.Core.Path.{◌≡◌, refl, ap, ◌∙◌}
use mathlib.Core.Bool.{Bool, true, false, cond, not}
use mathlib.Core.List.{List, [], ◌∷◌, ◌++◌, foldl}
use Prim.Native.Nat.{ℕ, zero, suc, ◌+◌, ◌*◌, ◌-◌, ◌/◌, ◌%◌, ◌^◌, ◌<◌}
use native.Mathlib.Omega.{arith}
use borrow.Author.Tests.{le-leb, leb-true, lt-ltb, ne_eqb}
use lib.Dec.{leb, ltb}
use Rattle.numerals.specs.Numeral.{digits_of, numeral}
use Rattle.numerals.proofs.Numerals as numerals
use Rattle.words.specs.Words.{all, is_empty, is_digit, is_number, value_from, value}
use Rattle.words.specs.Lex.{is_plain, is_word}
use Rattle.words.proofs.Tests.{both, and, all_append}

last : (n : ℕ) → all is_digit ((48 + n % 10) ∷ []) ≡ true
unfolding all
last n = simp (le-leb 48 (48 + n % 10) (omega arith), le-leb (48 + n % 10) 57 (omega arith))

more-digits : (t : Bool) (s : List ℕ) → all is_digit s ≡ true → all is_digit (cond t [] s) ≡ true
more-digits true s h = unfold all in refl
more-digits false s h = h

are-digits : (k n : ℕ) → all is_digit (digits_of k n) ≡ true
unfolding digits_of
are-digits zero n = unfold all in refl
are-digits (suc k) n =
    all_append is_digit (cond (ltb n 10) [] (digits_of k (n / 10))) ((48 + n % 10) ∷ [])
    (more-digits (ltb n 10) (digits_of k (n / 10)) (are-digits k (n / 10))) (last n)

not_empty : (s : List ℕ) (c : ℕ) → is_empty (s ++ c ∷ []) ≡ false
not_empty [] c = refl
not_empty (d ∷ s) c = refl

some : (n : ℕ) → not (is_empty (numeral n)) ≡ true
unfolding numeral digits_of
some n = ap not (not_empty (cond (ltb n 10) [] (digits_of 19 (n / 10))) (48 + n % 10))

digits : (n : ℕ) → all is_digit (numeral n) ≡ true
unfolding numeral
digits n = are-digits 20 n

pub is-number : (n : ℕ) → is_number (numeral n) ≡ true
unfolding is_number
is-number n = and (not (is_empty (numeral n))) (all is_digit (numeral n)) (some n) (digits n)

folded : (n : ℕ) (s : List ℕ) → value_from n s ≡ foldl (λ n d. n * 10 + (d - 48)) n s
unfolding value_from
folded n [] = refl
folded n (d ∷ s) = folded (n * 10 + (d - 48)) s

pub reads_back : (n : ℕ) → n < 2 ^ 64 → value (numeral n) ≡ n
reads_back n h = folded 0 (numeral n) ∙ numerals.reads_back n (omega arith)

-- ---- words

-- a byte behind "#" stands in words
pub above-plain : (c : ℕ) → 35 < c → is_plain c ≡ true
above-plain c h = simp (lt-ltb 32 c (omega arith), ne_eqb c 35 (λ e. omega arith))

weaker : (s : List ℕ) → all is_digit s ≡ true → all is_plain s ≡ true
unfolding all
weaker [] h = refl
weaker (c ∷ s) h =
    let (p, q) = both (is_digit c) (all is_digit s) h in
    let (low, _) = both (leb 48 c) (leb c 57) p in
    and (is_plain c) (all is_plain s) (above-plain c (omega (arith, leb-true 48 c low))) (weaker s q)

pub number_word : (w : List ℕ) → is_number w ≡ true → is_word w ≡ true
unfolding is_number is_word
number_word w h =
    let (some, are) = both (not (is_empty w)) (all is_digit w) h in
    and (not (is_empty w)) (all is_plain w) some (weaker w are)
