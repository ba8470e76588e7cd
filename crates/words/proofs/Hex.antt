-- Bytes in hex are words, and read back. Assumes nothing.
use mathlib.Core.Path.{◌≡◌, refl}
use mathlib.Core.Bool.{Bool, true, false}
use mathlib.Core.List.{List, [], ◌∷◌}
use Prim.Native.Nat.{ℕ, ◌+◌, ◌*◌, ◌/◌, ◌%◌, ◌<◌}
use native.Mathlib.Omega.{arith}
use borrow.Author.Tests.{ltb-true, ltb-false, le-leb, lt-leb}
use lib.Dec.{ltb}
use Rattle.hex_digits.specs.Hex.{hex_digit, hex}
use Rattle.words.specs.Words.{all, is_hex_digit, hex_value, is_hex, hex_bytes}
use Rattle.words.specs.Lex.{is_plain, is_word}
use Rattle.words.proofs.Tests.{both}
use Rattle.words.proofs.Decimal.{above-plain}

record Digit (n c : ℕ) : Type 0 where
  is : is_hex_digit c ≡ true
  says : hex_value c ≡ n
  plain : is_plain c ≡ true

one : (n : ℕ) → n < 16 → Digit n (hex_digit n)
one n h = by (ltb n 10) refl where
  by : (t : Bool) → ltb n 10 ≡ t → Digit n (hex_digit n)
  by true e =
      let small = ltb-true n 10 e in
      rw e (record {
        is = simp (le-leb 48 (48 + n) (omega arith), le-leb (48 + n) 57 (omega arith));
        says = simp (le-leb (48 + n) 57 (omega arith)) (omega arith);
        plain = above-plain (48 + n) (omega arith);
      })
  by false e =
      let large = ltb-false n 10 e in
      rw e (record {
        is = simp (le-leb 48 (55 + n) (omega arith), lt-leb (55 + n) 57 (omega arith), le-leb 65 (55 + n) (omega arith), le-leb (55 + n) 70 (omega arith));
        says = simp (lt-leb (55 + n) 57 (omega arith), le-leb (55 + n) 70 (omega arith)) (omega arith);
        plain = above-plain (55 + n) (omega arith);
      })

-- every element is a byte
abbrev pub are_bytes : List ℕ → Bool
are_bytes s = all (λ b. ltb b 256) s

module _ (b : ℕ) (small : ltb b 256 ≡ true) where
  high : Digit (b / 16) (hex_digit (b / 16))
  high = one (b / 16) (omega (arith, ltb-true b 256 small))

  low : Digit (b % 16) (hex_digit (b % 16))
  low = one (b % 16) (omega arith)

pub is-hex : (s : List ℕ) → are_bytes s ≡ true → is_hex (hex s) ≡ true
unfolding all hex is_hex
is-hex [] h = refl
is-hex (b ∷ s) h =
    let (p, q) = both (ltb b 256) (all (λ b. ltb b 256) s) h in
    rw ((high b p).is, (low b p).is, is-hex s q)

pub reads_back : (s : List ℕ) → are_bytes s ≡ true → hex_bytes (hex s) ≡ s
unfolding all hex hex_bytes
reads_back [] h = refl
reads_back (b ∷ s) h =
    let (p, q) = both (ltb b 256) (all (λ b. ltb b 256) s) h in
    let whole : b / 16 * 16 + b % 16 ≡ b = omega arith in
    rw ((high b p).says, (low b p).says, whole, reads_back s q)

are-plain : (s : List ℕ) → are_bytes s ≡ true → all is_plain (hex s) ≡ true
unfolding all hex
are-plain [] h = refl
are-plain (b ∷ s) h =
    let (p, q) = both (ltb b 256) (all (λ b. ltb b 256) s) h in
    rw ((high b p).plain, (low b p).plain, are-plain s q)

pub hex-word : (b : ℕ) (s : List ℕ) → are_bytes (b ∷ s) ≡ true → is_word (hex (b ∷ s)) ≡ true
unfolding is_word hex
hex-word b s h = are-plain (b ∷ s) h
