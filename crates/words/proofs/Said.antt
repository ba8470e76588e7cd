-- Bytes read pair by pair of hex digits. Assumes nothing.
use mathlib.Core.Path.{◌≡◌, refl, sym, ap, ◌∙◌}
use mathlib.Core.Bool.{Bool, true, false, ◌&&◌}
use mathlib.Core.List.{List, [], ◌∷◌, ◌++◌}
use Prim.Native.Nat.{ℕ, zero, suc, ◌+◌, ◌*◌, ◌/◌, ◌%◌, ◌≤◌, ◌<◌}
use Rattle.std.specs.List.{list_all}
use native.Mathlib.Omega.{arith}
use borrow.Author.Tests.{leb-true}
use lib.Dec.{leb}
use lib.ListN.{length, drop, get_or, length-drop}
use Rattle.words.specs.Words.{is_digit, is_hex_digit, hex_value, is_hex, hex_bytes}
use Rattle.words.proofs.Tests.{both}
use Rattle.words.proofs.Reading.{on}

and_assoc : (a b c : Bool) → (a && b && c) ≡ (a && (b && c))
and_assoc true b c = refl
and_assoc false b c = refl

and_false : (a : Bool) → (a && false) ≡ false
and_false true = refl
and_false false = refl

-- ---- digits

-- what holds of a hex digit of each of the three kinds holds of it
by_kind : (P : Type 0) (c : ℕ) → is_hex_digit c ≡ true → (48 ≤ c → c ≤ 57 → P) → (65 ≤ c → c ≤ 70 → P) → (97 ≤ c → c ≤ 102 → P) → P
by_kind P c h figure capital small = by (is_digit c) (leb 65 c && leb c 70) refl refl where
  between : (low high : ℕ) → (leb low c && leb c high) ≡ true → (low ≤ c → c ≤ high → P) → P
  between low high e f = let (p, q) = both (leb low c) (leb c high) e in f (leb-true low c p) (leb-true c high q)

  by : (a b : Bool) → is_digit c ≡ a → (leb 65 c && leb c 70) ≡ b → P
  by true b e d = between 48 57 e figure
  by false true e d = between 65 70 d capital
  by false false e d = between 97 102 (sym (rw (e, d)) ∙ h) small

pub record HexDigit (c : ℕ) : Type 0 where
  pub low : 48 ≤ c
  pub capital : 57 < c → 65 ≤ c
  pub small : 70 < c → 97 ≤ c
  pub last : c ≤ 102

pub kinds : (c : ℕ) → is_hex_digit c ≡ true → HexDigit c
kinds c h =
    by_kind (HexDigit c) c h
    (λ p q. record { low = omega arith; capital = λ k. omega arith; small = λ k. omega arith; last = omega arith })
    (λ p q. record { low = omega arith; capital = λ k. omega arith; small = λ k. omega arith; last = omega arith })
    (λ p q. record { low = omega arith; capital = λ k. omega arith; small = λ k. omega arith; last = omega arith })

-- ---- pairs

-- all of an even number of digits, and no odd number
pub all-hex : (w : List ℕ) → length w % 2 ≡ 0 → list_all is_hex_digit w ≡ is_hex w
unfolding is_hex
all-hex [] h = refl
all-hex (c ∷ []) h = absurd (omega arith)
all-hex (c ∷ d ∷ s) h = rw (all-hex s (omega arith)) (sym (and_assoc (is_hex_digit c) (is_hex_digit d) (is_hex s)))

pub odd-hex : (w : List ℕ) → (length w % 2 ≡ 0 → ⊥) → is_hex w ≡ false
unfolding is_hex
odd-hex [] h = absurd (h refl)
odd-hex (c ∷ []) h = refl
odd-hex (c ∷ d ∷ s) h = rw (odd-hex s (λ e. h (omega arith))) (and_false (is_hex_digit c && is_hex_digit d))

-- ---- the pair of a place

twice : (k : ℕ) → (2 * suc k ≡ suc (suc (2 * k))) × (2 * suc k + 1 ≡ suc (suc (2 * k + 1)))
twice k = (omega arith, omega arith)

pub digits-at : (w : List ℕ) (k : ℕ) → is_hex w ≡ true → 2 * k + 1 < length w
    → (is_hex_digit (get_or w (2 * k) 0) ≡ true) × (is_hex_digit (get_or w (2 * k + 1) 0) ≡ true)
unfolding is_hex
digits-at [] k e h = absurd (omega arith)
digits-at (c ∷ []) k e h = absurd (omega arith)
digits-at (c ∷ d ∷ s) zero e h = both (is_hex_digit c) (is_hex_digit d) (both (is_hex_digit c && is_hex_digit d) (is_hex s) e).0
digits-at (c ∷ d ∷ s) (suc k) e h =
    rw ((twice k).1, (twice k).0) (digits-at s k (both (is_hex_digit c && is_hex_digit d) (is_hex s) e).1 (omega arith))

pub pair-at : (w : List ℕ) (k : ℕ) → 2 * k + 1 < length w
    → get_or (hex_bytes w) k 0 ≡ hex_value (get_or w (2 * k) 0) * 16 + hex_value (get_or w (2 * k + 1) 0)
unfolding hex_bytes
pair-at [] k h = absurd (omega arith)
pair-at (c ∷ []) k h = absurd (omega arith)
pair-at (c ∷ d ∷ s) zero h = refl
pair-at (c ∷ d ∷ s) (suc k) h = rw ((twice k).1, (twice k).0) (pair-at s k (omega arith))

pub pairs : (w : List ℕ) → length (hex_bytes w) ≡ length w / 2
unfolding hex_bytes
pairs [] = refl
pairs (c ∷ []) = refl
pairs (c ∷ d ∷ s) = let more = pairs s in omega arith

-- the next pair of what is left behind so many pairs
pub record Turn (w x rest : List ℕ) (k : ℕ) : Type 0 where
  pub within : 2 * k + 1 < length w
  pub first : get_or x 0 0 ≡ get_or w (2 * k) 0
  pub second : get_or x 1 0 ≡ get_or w (2 * k + 1) 0
  pub left : rest ≡ drop (2 * (k + 1)) w

pub pair-turn : (w x rest : List ℕ) (k : ℕ) → drop (2 * k) w ≡ x ++ rest → length x ≡ 2 → Turn w x rest k
pair-turn w [] rest k e h = absurd (omega arith)
pair-turn w (a ∷ []) rest k e h = absurd (omega arith)
pair-turn w (a ∷ b ∷ c ∷ x) rest k e h = absurd (omega arith)
pair-turn w (a ∷ b ∷ []) rest k e h =
    let size = ap length e in
    let within : 2 * k + 1 < length w = omega (arith, length-drop (2 * k) w) in
    let next : 2 * k + 1 + 1 ≡ 2 * (k + 1) = omega arith in
    let two : drop (2 * k) w ≡ get_or w (2 * k) 0 ∷ get_or w (2 * k + 1) 0 ∷ drop (2 * (k + 1)) w =
    on w (2 * k) (omega arith) ∙ ap (λ s. get_or w (2 * k) 0 ∷ s) (on w (2 * k + 1) within ∙ ap (λ (n : ℕ). get_or w (2 * k + 1) 0 ∷ drop n w) next) in
    record { within = within; first = cc; second = cc; left = cc }
