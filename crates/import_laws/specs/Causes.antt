-- When a record of version one is refused, and what a taken one becomes, in request Two's own words and over bytes.
use Rattle.std.specs.Prelude.{◌≡◌, cond, List, ℕ, ◌+◌, ◌*◌, ◌≤◌, ◌<◌, pos, eqb, length, get_or, drop, Float}
use Rattle.std.specs.Float.{binary64}
use Rattle.std.specs.Float.Ieee.{of_bits, of_int}
use Rattle.rate.specs.Taken.{Taken}
use Rattle.ranges.proofs.Accepted.{Currency}

-- two bytes and eight from a place on, big-endian, and the 64-bit float that eight are
abbrev pub two : List ℕ → ℕ → ℕ
two s at = get_or s at 0 * 256 + get_or s (at + 1) 0

abbrev pub eight : List ℕ → ℕ → ℕ
eight s at = ((two s at * 65536 + two s (at + 2)) * 65536 + two s (at + 4)) * 65536 + two s (at + 6)

abbrev pub float : List ℕ → ℕ → Float
float s at = of_bits binary64 (eight s at)

-- some pair of digits and shift exists for the rate
pub record Paired (rate : Float) : Type 0 where
  pub digits : ℕ
  pub shift : ℕ
  pub taken : Taken rate digits shift

-- a whole number from 0 to MAX; -0 is another float than 0
pub record Whole (mta : Float) : Type 0 where
  pub amount : ℕ
  pub most : amount ≤ 999999999999
  pub same : mta ≡ of_int binary64 (pos amount)

-- 6 a currency not three digits, or from equal to to; 10 rate; 11 MTA
pub data FieldCause (from to : ℕ) (rate mta : Float) (n : ℕ) : Type 0 where
  from_not_digits : n ≡ 6 → (Currency from → ⊥) → FieldCause from to rate mta n
  to_not_digits : n ≡ 6 → (Currency to → ⊥) → FieldCause from to rate mta n
  same_codes : n ≡ 6 → from ≡ to → FieldCause from to rate mta n
  no_pair : n ≡ 10 → (Paired rate → ⊥) → FieldCause from to rate mta n
  not_whole : n ≡ 11 → (Whole mta → ⊥) → FieldCause from to rate mta n

-- 9 not 20 bytes; from and to (2 each), rate, MTA; 7 room under 15 bytes
pub data Cause (old room : List ℕ) (n : ℕ) : Type 0 where
  not_twenty : n ≡ 9 → (length old ≡ 20 → ⊥) → Cause old room n
  in_fields : FieldCause (two old 0) (two old 2) (float old 4) (float old 12) n → Cause old room n
  small_room : n ≡ 7 → length room < 15 → Cause old room n

-- the order: 9, 6, 10, 11, 7
abbrev pub rank : ℕ → ℕ
rank n = cond (eqb n 9) 0 (cond (eqb n 6) 1 (cond (eqb n 10) 2 (cond (eqb n 11) 3 4)))

-- 0 where no cause applies; where several apply, the first
pub data Numbered (cause : ℕ → Type 0) (n : ℕ) : Type 0 where
  done : n ≡ 0 → ((m : ℕ) → cause m → ⊥) → Numbered cause n
  refused : cause n → ((m : ℕ) → rank m < rank n → cause m → ⊥) → Numbered cause n

-- one test: 0 where it holds, else its refusal
pub data Judged (P : Type 0) (refusal n : ℕ) : Type 0 where
  holds : n ≡ 0 → P → Judged P refusal n
  fails : n ≡ refusal → (P → ⊥) → Judged P refusal n

-- a room after a record was taken: from, to, d (2 each), s + 9 (1), an MTA (8); behind these 15 it is as before
pub record Becomes (old room after : List ℕ) : Type 0 where
  pub from : two after 0 ≡ two old 0
  pub to : two after 2 ≡ two old 2
  pub rate : Taken (float old 4) (two after 4) (get_or after 6 0)
  pub mta : float old 12 ≡ of_int binary64 (pos (eight after 7))
  pub behind : drop 15 after ≡ drop 15 room
  pub size : length after ≡ length room
