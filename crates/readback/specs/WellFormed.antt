-- The 32 bytes of an IAD, and which fields they hold, byte by byte (document 01, "CVR and IAD").
use Rattle.std.specs.Prelude.{◌≡◌, List, ℕ, ◌+◌, ◌*◌, ◌/◌, ◌%◌, ◌≤◌, ◌<◌, length, get_or, take, drop}
use Rattle.iad.specs.declared.Iad.{Iad}

-- the byte at a place, counted from 0
abbrev pub octet : List ℕ → ℕ → ℕ
octet s place = get_or s place 0

-- each is a byte
abbrev pub Octets : List ℕ → Type 0
Octets s = (place : ℕ) → octet s place < 256

-- the digits in the two halves of a byte
abbrev pub upper : List ℕ → ℕ → ℕ
upper s place = octet s place / 16

abbrev pub lower : List ℕ → ℕ → ℕ
lower s place = octet s place % 16

-- neither type field of CVR byte 1 is 11: b8-b7 (second type) are 11 in C0 to FF, b6-b5 (first type) where the six bits from b6 on are 30 to 3F
pub record Types (byte : ℕ) : Type 0 where
  pub second : 0xC0 ≤ byte → byte ≤ 0xFF → ⊥
  pub first : byte % 0x40 < 0x30

pub record Profile (number : ℕ) : Type 0 where
  pub least : 1 ≤ number
  pub most : number ≤ 124

-- length 32, the fixed bytes, no type field 11, byte 8 (the fifth of the CVR) zero, no digit above 9, a profile 1 to 124
pub record WellFormed (s : List ℕ) : Type 0 where
  pub size : length s ≡ 32
  pub opens : octet s 0 ≡ 0x0F
  pub format : octet s 1 ≡ 0xA5
  pub types : Types (octet s 3)
  pub fifth : octet s 7 ≡ 0
  pub uppers : (i : ℕ) → i < 6 → upper s (8 + i) ≤ 9
  pub lowers : (i : ℕ) → i < 6 → lower s (8 + i) ≤ 9
  pub divides : octet s 16 ≡ 0x0F
  pub profile : Profile (octet s 17)
  pub zeros : (i : ℕ) → i < 14 → octet s (18 + i) ≡ 0

-- the fields that writing takes: an accumulator of at most MAX, no type field 11, CVR byte 5 zero, a profile 1 to 124
pub record Writable (iad : Iad) : Type 0 where
  pub amount : iad.accumulator.0 ≤ 999_999_999_999
  pub types : Types iad.cvr.byte1
  pub fifth : iad.cvr.byte5 ≡ 0
  pub profile : Profile iad.profile

-- fields that are bytes; of CVR byte 5 and the profile `Writable` says more
pub record OfBytes (iad : Iad) : Type 0 where
  pub key : iad.key < 256
  pub cvr1 : iad.cvr.byte1 < 256
  pub cvr2 : iad.cvr.byte2 < 256
  pub cvr3 : iad.cvr.byte3 < 256
  pub cvr4 : iad.cvr.byte4 < 256
  pub first : iad.first < 256
  pub second : iad.second < 256

-- the fields that writing refuses, one by one
pub data Unwritable (iad : Iad) : Type 0 where
  above : 999_999_999_999 < iad.accumulator.0 → Unwritable iad
  second_type : 0xC0 ≤ iad.cvr.byte1 → iad.cvr.byte1 ≤ 0xFF → Unwritable iad
  first_type : 0x30 ≤ iad.cvr.byte1 % 0x40 → Unwritable iad
  fifth-byte : 1 ≤ iad.cvr.byte5 → Unwritable iad
  no_profile_lem : iad.profile ≡ 0 → Unwritable iad
  high_profile : 124 < iad.profile → Unwritable iad

-- the number that the twelve digits write, each at its place
abbrev pub amount_in : List ℕ → ℕ
amount_in s =
    upper s 8 * 100_000_000_000 + lower s 8 * 10_000_000_000
    + upper s 9 * 1_000_000_000 + lower s 9 * 100_000_000
    + upper s 10 * 10_000_000 + lower s 10 * 1_000_000
    + upper s 11 * 100_000 + lower s 11 * 10_000
    + upper s 12 * 1_000 + lower s 12 * 100
    + upper s 13 * 10 + lower s 13

-- 0F, A5, key index, CVR (5), accumulator sent as 12 digits (6), two counters sent, 0F, profile, 14 zeros
pub record LaidOut (iad : Iad) (s : List ℕ) : Type 0 where
  pub size : length s ≡ 32
  pub opens : octet s 0 ≡ 0x0F
  pub format : octet s 1 ≡ 0xA5
  pub key : octet s 2 ≡ iad.key
  pub cvr1 : octet s 3 ≡ iad.cvr.byte1
  pub cvr2 : octet s 4 ≡ iad.cvr.byte2
  pub cvr3 : octet s 5 ≡ iad.cvr.byte3
  pub cvr4 : octet s 6 ≡ iad.cvr.byte4
  pub cvr5 : octet s 7 ≡ iad.cvr.byte5
  pub uppers : (i : ℕ) → i < 6 → upper s (8 + i) ≤ 9
  pub lowers : (i : ℕ) → i < 6 → lower s (8 + i) ≤ 9
  pub amount : amount_in s ≡ iad.accumulator.0
  pub first : octet s 14 ≡ iad.first
  pub second : octet s 15 ≡ iad.second
  pub divides : octet s 16 ≡ 0x0F
  pub profile : octet s 17 ≡ iad.profile
  pub zeros : (i : ℕ) → i < 14 → octet s (18 + i) ≡ 0

-- what an accepted write leaves: the first 32 bytes hold the fields, no other list does, and the bytes behind them stay
pub record Left (iad : Iad) (room after : List ℕ) : Type 0 where
  pub front : LaidOut iad (take 32 after)
  pub only : (s : List ℕ) → LaidOut iad s → s ≡ take 32 after
  pub behind : drop 32 after ≡ drop 32 room
