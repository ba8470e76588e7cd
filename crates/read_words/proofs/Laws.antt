-- What words of each kind say. Assumes nothing.
use mathlib.Core.Path.{◌≡◌, refl, sym, ap, ◌∙◌}
use mathlib.Core.Bool.{Bool, true, false, cond, ◌&&◌}
use mathlib.Core.List.{List, [], ◌∷◌, ◌++◌}
use Prim.Native.Nat.{ℕ, zero, suc, ◌+◌, ◌*◌, ◌-◌, ◌/◌, ◌%◌, ◌^◌, ◌<◌, ◌≤◌}
use native.Mathlib.Nat.{pow-suc}
use native.Mathlib.Numerals.{unary_clauses}
use native.Mathlib.Omega.{arith}
use borrow.Author.Tests.{ltb-true, ltb-false, lt-ltb, le-ltb, eqb-true, eqb-false, eq-eqb, ne_eqb}
use lib.Dec.{ltb, eqb}
use lib.ListN.{length, get_or}
use Rattle.words.specs.Words.{all, is_digit, is_number, value, is_hex_digit, is_hex, hex_bytes, hex_said}
use Rattle.words.specs.Number.{number_in}
use Rattle.words.proofs.Tests.{both}
use Rattle.forms.specs.Form.{big_endian, is_letter, is_date, date_digits}
use Rattle.read_words.specs.Told.{is_count}
use Rattle.std.specs.Prelude.{None, Some}

pub neither : (t : Bool) → (t && false) ≡ false
neither true = refl
neither false = refl

-- ---- bytes of a number

pub no_bytes : (n v : ℕ) → n ≡ 0 → big_endian n v ≡ []
unfolding big_endian
no_bytes n v e = rw e

pub bytes-more : (n v : ℕ) → (n ≡ 0 → ⊥) → big_endian n v ≡ big_endian (n - 1) (v / 256) ++ v % 256 ∷ []
unfolding big_endian
bytes-more zero v h = absurd (h refl)
bytes-more (suc n) v h = simp unary_clauses

-- two tests of one fact
by : (a b c d : ℕ) → (a < b → c < d) → (b ≤ a → d ≤ c) → (t : Bool) → ltb a b ≡ t → t ≡ ltb c d
by a b c d f g true e = sym (lt-ltb c d (f (ltb-true a b e)))
by a b c d f g false e = sym (le-ltb c d (g (ltb-false a b e)))

fits_more : (v n : ℕ) → ltb v (256 ^ suc n) ≡ ltb (v / 256) (256 ^ n)
fits_more v n =
    let p : 256 ^ suc n ≡ 256 ^ n * 256 = pow-suc 256 n in
    by v (256 ^ suc n) (v / 256) (256 ^ n) (λ h. omega arith) (λ h. omega arith) (ltb v (256 ^ suc n)) refl

-- what is left of a number by a byte fits a byte less
pub fits-less : (v n i : ℕ) → i < n → ltb v (256 ^ (n - i)) ≡ ltb (v / 256) (256 ^ (n - (i + 1)))
fits-less v n i h =
    let e : n - i ≡ suc (n - (i + 1)) = omega arith in
    ap (λ m. ltb v (256 ^ m)) e ∙ fits_more v (n - (i + 1))

pub fits-none : (v n i : ℕ) → n ≤ i → ltb v (256 ^ (n - i)) ≡ eqb v 0
fits-none v n i h =
    let e : n - i ≡ 0 = omega arith in
    ap (λ m. ltb v (256 ^ m)) e ∙ zeroes v where
      zeroes : (v : ℕ) → ltb v 1 ≡ eqb v 0
      zeroes zero = refl
      zeroes (suc v) = le-ltb (suc v) 1 (omega arith) ∙ sym (ne_eqb (suc v) 0 (λ e. omega arith))

-- ---- numbers

number_by : (a b : Bool) (v n : ℕ) → cond (a && b) (Some v) None ≡ Some n → ((a && b) ≡ true) × (v ≡ n)
number_by true true v n e = (refl, cc)
number_by true false v n e = let z : ◌≡◌ {A = ℕ} 0 1 = cc in absurd (omega arith)
number_by false b v n e = let z : ◌≡◌ {A = ℕ} 0 1 = cc in absurd (omega arith)

number_not : (t : Bool) (v : ℕ) → cond t (Some v) None ≡ None → t ≡ false
number_not true v e = let z : ◌≡◌ {A = ℕ} 0 1 = cc in absurd (omega arith)
number_not false v e = refl

module _ (w : List ℕ) where
  pub number_is : (n : ℕ) → number_in w ≡ Some n → ((is_number w && ltb (value w) (2 ^ 64)) ≡ true) × (value w ≡ n)
  unfolding number_in
  number_is n e = number_by (is_number w) (ltb (value w) (2 ^ 64)) (value w) n e

  pub no_number : number_in w ≡ None → (is_number w && ltb (value w) (2 ^ 64)) ≡ false
  unfolding number_in
  no_number e = number_not (is_number w && ltb (value w) (2 ^ 64)) (value w) e

  pub no_count : (n : ℕ) → number_in w ≡ None → is_count n w ≡ false
  unfolding is_count
  no_count n e = rw (no_number e)

  pub count-is : (n m : ℕ) → number_in w ≡ Some m → is_count n w ≡ ltb m (256 ^ n)
  unfolding is_count
  count-is n m e = let (p, q) = number_is m e in rw (p, q)

-- ---- hex

pub even : (w : List ℕ) → is_hex w ≡ true → length w ≡ 2 * (length w / 2)
unfolding is_hex
even [] e = refl
even (c ∷ []) e = let z : ◌≡◌ {A = ℕ} 0 1 = cc in absurd (omega arith)
even (c ∷ d ∷ s) e = let r = even s (both (is_hex_digit c && is_hex_digit d) (is_hex s) e).1 in omega arith

pub pairs-are : (w : List ℕ) (n : ℕ) → (is_hex w && eqb (length w / 2) n) ≡ (is_hex w && eqb (length w) (2 * n))
pairs-are w n = go (is_hex w) refl where
  count : length w ≡ 2 * (length w / 2) → (t : Bool) → eqb (length w / 2) n ≡ t → t ≡ eqb (length w) (2 * n)
  count h true e = let k = eqb-true (length w / 2) n e in sym (eq-eqb (length w) (2 * n) (omega arith))
  count h false e = let k = eqb-false (length w / 2) n e in sym (ne_eqb (length w) (2 * n) (λ f. k (omega arith)))

  go : (t : Bool) → is_hex w ≡ t → (t && eqb (length w / 2) n) ≡ (t && eqb (length w) (2 * n))
  go true e = count (even w e) (eqb (length w / 2) n) refl
  go false e = refl

pub hex-said : (w : List ℕ) → is_hex w ≡ true → hex_said w ≡ hex_bytes w
unfolding hex_said
hex-said w e = rw e

-- ---- letters and digits

pub two_letters : (w : List ℕ) → length w ≡ 2 → all is_letter w ≡ (is_letter (get_or w 0 0) && is_letter (get_or w 1 0))
unfolding all
two_letters [] h = absurd (omega arith)
two_letters (c ∷ []) h = absurd (omega arith)
two_letters (c ∷ d ∷ []) h = end (is_letter c) (is_letter d) where
  end : (a b : Bool) → (a && (b && true)) ≡ (a && b)
  end true true = refl
  end true false = refl
  end false b = refl
two_letters (c ∷ d ∷ e ∷ s) h = absurd (omega arith)

pub digits-hex : (k : ℕ) (s : List ℕ) → length s ≡ k + k → all is_digit s ≡ true → is_hex s ≡ true
unfolding all is_hex
digits-hex k [] h e = refl
digits-hex k (c ∷ []) h e = absurd (omega arith)
digits-hex zero (c ∷ d ∷ s) h e = absurd (omega arith)
digits-hex (suc k) (c ∷ d ∷ s) h e =
    let (p, more) = both (is_digit c) (is_digit d && all is_digit s) e in
    let (q, rest) = both (is_digit d) (all is_digit s) more in
    rw (p, q) (digits-hex k s (omega arith) rest)

pub date-hex : (w : List ℕ) → is_date w ≡ true → hex_said (date_digits w) ≡ hex_bytes (date_digits w)
unfolding is_date
date-hex w e =
    let (front, digits) = both (eqb (length w) 10 && eqb (get_or w 0 0) 50 && eqb (get_or w 1 0) 48 && eqb (get_or w 4 0) 45 && eqb (get_or w 7 0) 45) (all is_digit (date_digits w)) e in
    hex-said (date_digits w) (digits-hex 3 (date_digits w) refl digits)
