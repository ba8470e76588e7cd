-- Words, numbers and bytes of a line, read from its text. Assumes nothing.
use mathlib.Core.Path.{◌≡◌, refl, sym, ◌∙◌}
use mathlib.Core.Bool.{Bool, true, false, cond}
use mathlib.Core.List.{List, [], ◌∷◌, ◌++◌, append_assoc, append-nil}
use Prim.Native.Nat.{ℕ, zero, suc, ◌+◌, ◌*◌, ◌-◌, ◌/◌, ◌%◌, ◌^◌, ◌≤◌, ◌<◌}
use native.Mathlib.Nat.{div-div-eq-div-mul, div-eq_of_lt, mul_assoc, pow-suc}
use native.Mathlib.Numerals.{add-one}
use native.Mathlib.Omega.{arith}
use borrow.Author.Tests.{ltb-true, ltb-false, lt-ltb, le-ltb, le-leb, lt-leb, ne_eqb}
use lib.Dec.{ltb}
use lib.ListN.{length, length-append}
use Rattle.hex_digits.specs.Hex.{hex_digit, hex_byte, hex}
use Rattle.text.specs.Text.{line}
use Rattle.lines.specs.Lines.{digit, decimal}
use Rattle.text.proofs.Each.{Each, none, more}
use Rattle.lines.proofs.Decimal.{IsDigit, digits}
use Rattle.text.proofs.Fields.{Plain}
use Rattle.readback.specs.WellFormed.{octet}
use Rattle.readback.specs.Fields.{is_digit, are_digits, is_unpadded, is_decimal, value_in, is_hex_digit, hex_value, is_hex, bytes_in, words_in}
use Rattle.readback.specs.Fields.{Words}

-- ---- words

plain_word : {f : List ℕ} → Plain f → (t : List ℕ) (ws : List (List ℕ)) → words_in t ≡ Words ([] ∷ ws) → words_in (f ++ t) ≡ Words (f ∷ ws)
unfolding words_in
plain_word none t ws e = e
plain_word (more {a = b} h p) t ws e = rw (ne_eqb b 10 (λ q. omega arith), ne_eqb b 32 (λ q. omega arith), plain_word p t ws e)

pub reads_words : (f : List ℕ) (fs : List (List ℕ)) → Each Plain (f ∷ fs) → words_in (line f fs) ≡ Words (f ∷ fs)
unfolding words_in
reads_words f [] (more p r) = plain_word p (10 ∷ []) [] refl
reads_words f (g ∷ fs) (more p r) =
    rw (append_assoc f (32 ∷ []) (line g fs)) (plain_word p (32 ∷ line g fs) (g ∷ fs) (rw (reads_words g fs r)))

-- ---- numbers

pub are-digits : {w : List ℕ} → Each IsDigit w → are_digits w ≡ true
unfolding are_digits
are-digits none = refl
are-digits (more {a = d} h p) = rw (le-leb 48 d h.0, le-leb d 57 h.1, are-digits p)

-- one more digit at the end
pub one_more_lem : (w : List ℕ) (d : ℕ) → value_in (w ++ (48 + d) ∷ []) ≡ value_in w * 10 + d
unfolding value_in
one_more_lem [] d = omega arith
one_more_lem (c ∷ w) d =
    let v = one_more_lem w d in
    let size = length-append w ((48 + d) ∷ []) ∙ add-one (length w) in
    let p : (c - 48) * 10 ^ length (w ++ (48 + d) ∷ []) ≡ (c - 48) * 10 ^ length w * 10 =
    rw (size, pow-suc 10 (length w)) (sym (mul_assoc (c - 48) (10 ^ length w) 10)) in
    omega arith

-- the digit of a unit behind those of the units above
behind : (n unit : ℕ) (w : List ℕ) → value_in w ≡ n / unit / 10 → value_in (w ++ digit n unit) ≡ n / unit
unfolding digit
behind n unit w v = by (ltb n unit) refl where
  by : (t : Bool) → ltb n unit ≡ t → value_in (w ++ digit n unit) ≡ n / unit
  by true e = let nothing = div-eq_of_lt (ltb-true n unit e) in rw (e, append-nil w) (omega arith)
  by false e = rw e (one_more_lem w (n / unit % 10) ∙ omega arith)

-- the digit of a unit in front: none, or no zero
pub other : (d : ℕ) (w : List ℕ) → (d ≡ 48 → ⊥) → is_unpadded (d ∷ w) ≡ true
other d [] h = refl
other d (e ∷ w) h = rw (ne_eqb d 48 h)

front : (n unit : ℕ) (w : List ℕ) → (unit ≤ n → 1 ≤ n / unit % 10) → (n < unit → is_unpadded w ≡ true) → is_unpadded (digit n unit ++ w) ≡ true
unfolding digit
front n unit w some rest = by (ltb n unit) refl where
  by : (t : Bool) → ltb n unit ≡ t → is_unpadded (digit n unit ++ w) ≡ true
  by true e = rw e (rest (ltb-true n unit e))
  by false e = let s = some (ltb-false n unit e) in rw e (other (48 + n / unit % 10) w (λ q. omega arith))

pub record Says (n : ℕ) (w : List ℕ) : Type 0 where
  pub good : is_decimal w ≡ true
  pub value : value_in w ≡ n

module _ (n : ℕ) (small : n < 100_000) where
  value : value_in (decimal n) ≡ n
  unfolding decimal
  value =
      let thousands = behind n 10_000 [] (unfold value_in in omega arith) in
      let hundreds = behind n 1_000 (digit n 10_000) (thousands ∙ sym (div-div-eq-div-mul n 1_000 10)) in
      let tens = behind n 100 (digit n 10_000 ++ digit n 1_000) (hundreds ∙ sym (div-div-eq-div-mul n 100 10)) in
      let ones = behind n 10 (digit n 10_000 ++ digit n 1_000 ++ digit n 100) (tens ∙ sym (div-div-eq-div-mul n 10 10)) in
      one_more_lem (digit n 10_000 ++ digit n 1_000 ++ digit n 100 ++ digit n 10) (n % 10) ∙ omega arith

  unpadded : is_unpadded (decimal n) ≡ true
  unfolding decimal
  unpadded =
      let one = (48 + n % 10) ∷ [] in
      let two = digit n 10 ++ one in
      let three = digit n 100 ++ two in
      let four = digit n 1_000 ++ three in
      simp append_assoc
      (front n 10_000 four (λ h. omega arith) (λ h4.
      front n 1_000 three (λ h. omega arith) (λ h3.
      front n 100 two (λ h. omega arith) (λ h2.
      front n 10 one (λ h. omega arith) (λ h1. refl)))))

  pub says : Says n (decimal n)
  says = record { good = rw (are-digits (digits n)) unpadded; value = value }

-- ---- bytes

record Digit (n d : ℕ) : Type 0 where
  good : is_hex_digit d ≡ true
  value : hex_value d ≡ n

hex-digit : (n : ℕ) → n < 16 → Digit n (hex_digit n)
hex-digit n h = by (ltb n 10) refl where
  by : (t : Bool) → ltb n 10 ≡ t → Digit n (hex_digit n)
  by true e =
      let small = ltb-true n 10 e in
      rw e (record {
        good = rw (le-leb 48 (48 + n) (omega arith), le-leb (48 + n) 57 (omega arith));
        value = rw (le-leb (48 + n) 57 (omega arith)) (omega arith);
      })
  by false e =
      let large = ltb-false n 10 e in
      rw e (record {
        good = rw (le-leb 48 (55 + n) (omega arith), lt-leb (55 + n) 57 (omega arith), le-leb 65 (55 + n) (omega arith), le-leb (55 + n) 70 (omega arith));
        value = rw (lt-leb (55 + n) 57 (omega arith)) (omega arith);
      })

pub record Spells (s w : List ℕ) : Type 0 where
  pub good : is_hex w ≡ true
  pub bytes : bytes_in w ≡ s

pub spells : (s : List ℕ) → ((i : ℕ) → octet s i < 256) → Spells s (hex s)
unfolding hex is_hex bytes_in
spells [] h = record { good = refl; bytes = refl }
spells (b ∷ s) h =
    let small : b < 256 = h 0 in
    let more = spells s (λ i. h (suc i)) in
    let u = hex-digit (b / 16) (omega arith) in
    let l = hex-digit (b % 16) (omega arith) in
    let whole : b / 16 * 16 + b % 16 ≡ b = omega arith in
    record { good = rw (u.good, l.good, more.good); bytes = rw (u.value, l.value, whole, more.bytes) }
