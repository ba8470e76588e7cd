-- The reading's entries, with First's 12 bytes, and tails of one profile. Assumes nothing.
use mathlib.Core.Bool.{Bool, not, ◌&&◌}
use mathlib.Core.List.{List, [], ◌∷◌}
use Prim.Native.Nat.{ℕ}
use lib.Dec.{T, eqb}
use Rattle.log_tail.specs.LogTail.{entry_in, reaches_past, are_flags, are_sources, are_within, is_in_range, is_within, judged, judged_number}

abbrev past : (source position long : ℕ) → Bool
past source position long = reaches_past (record { source = source; position = position; length = long }) 12

-- size, switches, the profile's byte, and the two tables
abbrev comes : (tail : List ℕ) (to : ℕ) → Bool
comes tail to = eqb (judged_number (judged (1 ∷ tail) 1 12)) to

pub record Samples : Type 0 where
  pub whole-first : T (not (past 0 1 12) && past 0 1 13)
  pub last_byte : T (not (past 0 12 1) && past 0 12 2)
  pub behind_it : T (not (past 0 13 0) && past 0 13 1 && past 0 14 0)
  pub not_logged : T (not (past 0 0 255) && not (past 1 0 255))
  pub not_in_eight_bits : T (past 0 2 255 && past 0 255 255)
  pub whole-second : T (not (past 1 1 8) && past 1 1 9 && past 1 8 2)
  pub behind-second : T (not (past 1 9 0) && past 1 9 1 && past 1 10 0)
  pub by-its-source : T (past 1 9 4 && not (past 0 9 4))
  -- tables of no entry; a ring of 20, and of 21; a low switch; a profile's byte of 2
  pub bare : T (comes (0 ∷ 0 ∷ 0 ∷ 0 ∷ 0 ∷ []) 0 && comes (20 ∷ 0xFC ∷ 1 ∷ 0 ∷ 0 ∷ []) 0)
  pub ring_21 : T (comes (21 ∷ 0 ∷ 0 ∷ 0 ∷ 0 ∷ []) 1)
  pub low_switches : T (comes (0 ∷ 1 ∷ 0 ∷ 0 ∷ 0 ∷ []) 1 && comes (0 ∷ 2 ∷ 0 ∷ 0 ∷ 0 ∷ []) 1)
  pub profile_2 : T (comes (0 ∷ 0 ∷ 2 ∷ 0 ∷ 0 ∷ []) 1)
  -- First's table has source 0 alone, Second's 0 and 1
  pub sources : T (comes (0 ∷ 0 ∷ 0 ∷ 1 ∷ 1 ∷ 1 ∷ 1 ∷ 0 ∷ []) 1 && comes (0 ∷ 0 ∷ 0 ∷ 0 ∷ 1 ∷ 1 ∷ 1 ∷ 1 ∷ []) 0 && comes (0 ∷ 0 ∷ 0 ∷ 0 ∷ 1 ∷ 2 ∷ 1 ∷ 1 ∷ []) 1)
  -- 14 in either table, a ring of 0 too; 1 before it; sitting G's tables
  pub first_past : T (comes (0 ∷ 0 ∷ 0 ∷ 1 ∷ 0 ∷ 12 ∷ 2 ∷ 0 ∷ []) 14)
  pub second_past : T (comes (0 ∷ 0 ∷ 0 ∷ 0 ∷ 2 ∷ 1 ∷ 9 ∷ 0 ∷ 1 ∷ 8 ∷ 2 ∷ []) 14)
  pub one-first : T (comes (21 ∷ 0 ∷ 0 ∷ 1 ∷ 0 ∷ 12 ∷ 2 ∷ 0 ∷ []) 1)

pub samples : Samples
unfolding entry_in reaches_past are_flags are_sources are_within is_in_range is_within judged
samples =
    record {
      whole-first = tt;
      last_byte = tt;
      behind_it = tt;
      not_logged = tt;
      not_in_eight_bits = tt;
      whole-second = tt;
      behind-second = tt;
      by-its-source = tt;
      bare = tt;
      ring_21 = tt;
      low_switches = tt;
      profile_2 = tt;
      sources = tt;
      first_past = tt;
      second_past = tt;
      one-first = tt;
    }
