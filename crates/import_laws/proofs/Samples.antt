-- `imports` and `becomes`, computed for a few records: the number that is answered where two causes apply, and what a taken one becomes. Said
-- apart, they show of a wrong card that the statement itself is false of it. The search for a rate is by lemma, all else by computation. Assumes nothing.
use mathlib.Core.Path.{◌≡◌, refl, ap}
use mathlib.Core.Bool.{Bool, not, ◌&&◌}
use mathlib.Core.List.{List, [], ◌∷◌, ◌++◌}
use Prim.Native.Nat.{ℕ, ◌<◌}
use native.Mathlib.Omega.{arith}
use lib.Dec.{T, eqb}
use lib.ListN.{get_or, replicate}
use lib.Ieee.{binary64, of_bits, whole, in_unsigned, to_unsigned}
use lib.Ieee.Bits.{of_bits-fits}
use Rattle.wire.specs.Wire.{number}
use Rattle.mta.specs.Mta.{mta_of}
use Rattle.rate.specs.Rate.{rate_of}
use Rattle.rate.proofs.Request.{never}
use Rattle.rate.proofs.Settled.{euro}
use Rattle.import.specs.Import.{old_record, take_over, bytes_of, new_bytes, import_record, imported_number, imported}
use Rattle.import_laws.specs.Causes.{two, eight, float, Cause, not_twenty, in_fields, small_room, no_pair, rank, Numbered, refused}
use Rattle.import_laws.proofs.Fields.{Codes, unpaired, clear}
use Rattle.import_laws.proofs.Imports.{only-number, taken}
use Rattle.std.specs.Prelude.{None}
use Rattle.import_laws.proofs.Witness as witness

-- ---- records: from 0978 or 0840 to 0840; the rate is not-a-number or 0.85, the MTA 0.5 or 12,345
abbrev zeros : ℕ → List ℕ
zeros n = replicate n 0

abbrev unequal : List ℕ
unequal = 0x09 ∷ 0x78 ∷ 0x08 ∷ 0x40 ∷ []

abbrev equal : List ℕ
equal = 0x08 ∷ 0x40 ∷ 0x08 ∷ 0x40 ∷ []

abbrev no_number : List ℕ
no_number = 0x7F ∷ 0xF8 ∷ zeros 6

abbrev euros : List ℕ
euros = 0x3F ∷ 0xEB ∷ 0x33 ∷ 0x33 ∷ 0x33 ∷ 0x33 ∷ 0x33 ∷ 0x33 ∷ []

abbrev half : List ℕ
half = 0x3F ∷ 0xE0 ∷ zeros 6

abbrev amount : List ℕ
amount = 0x40 ∷ 0xC8 ∷ 0x1C ∷ 0x80 ∷ zeros 4

no_rate : rate_of (float no_number 0) ≡ None
unfolding of_bits
no_rate = never (float no_number 0) (of_bits-fits binary64 0x7FF8_0000_0000_0000) (λ p. p)

abbrev answers : (old : List ℕ) (room n : ℕ) → Bool
answers old room n = eqb (imported_number (import_record old (zeros room))) n

-- the room after 0978 to 0840 by 0.85 with 12,345, a byte more than is set
abbrev after : List ℕ
after = imported (unequal ++ euros ++ amount) (replicate 16 0xEE)

pub record Samples : Type 0 where
  pub length_before_codes : T (answers (equal ++ no_number ++ half ++ zeros 1) 14 9)
  pub codes-before-rate : T (answers (equal ++ no_number ++ half) 14 6)
  pub rate-before-mta : T (answers (unequal ++ no_number ++ half) 15 10)
  pub rate_before_room : T (answers (unequal ++ no_number ++ amount) 14 10)
  pub mta_before_room : T (answers (unequal ++ euros ++ half) 14 11)
  pub room_last : T (answers (unequal ++ euros ++ amount) 14 7)
  pub none : T (answers (unequal ++ euros ++ amount) 15 0)
  -- `becomes`
  pub codes-kept : T (eqb (two after 0) 0x0978 && eqb (two after 2) 0x0840)
  pub rate-kept : T (eqb (two after 4) 85 && eqb (get_or after 6 0) 7)
  pub mta-kept : T (eqb (eight after 7) 12345)
  pub behind-kept : T (eqb (get_or after 15 0) 0xEE)

pub samples : Samples
unfolding import_record imported old_record number of_bits take_over new_bytes bytes_of mta_of whole in_unsigned to_unsigned
samples =
    record {
      length_before_codes = tt;
      codes-before-rate = tt;
      rate-before-mta = rw no_rate tt;
      rate_before_room = rw no_rate tt;
      mta_before_room = rw euro tt;
      room_last = rw euro tt;
      none = rw euro tt;
      codes-kept = rw euro tt;
      rate-kept = rw euro tt;
      mta-kept = rw euro tt;
      behind-kept = rw euro tt;
    }

-- ---- the statement at one of them: it asks for 10, and for no other number
abbrev bad : List ℕ
bad = unequal ++ no_number ++ amount

abbrev small : List ℕ
small = zeros 14

codes : Codes 0x0978 0x0840
codes = (
  record { hundreds = 9; tens = 7; ones = 8; hundreds-digit = omega arith; tens-digit = omega arith; ones-digit = omega arith; digits = refl },
  record { hundreds = 8; tens = 4; ones = 0; hundreds-digit = omega arith; tens-digit = omega arith; ones-digit = omega arith; digits = refl },
  λ e. omega arith,
)

none_earlier : (m : ℕ) → rank m < 2 → Cause bad small m → ⊥
none_earlier m l (not_twenty n h) = h refl
none_earlier m l (in_fields c) = clear 2 (λ h. codes) (λ h. absurd (omega arith)) (λ h. absurd (omega arith)) m l c
none_earlier m l (small_room n h) = omega (arith, ap rank n)

pub asks_rate : Numbered (Cause bad small) 10
asks_rate = refused (in_fields (no_pair refl (λ p. unpaired (float bad 4) no_rate p.digits p.shift p.taken))) none_earlier

pub asks_only_rate : (n : ℕ) → Numbered (Cause bad small) n → n ≡ 10
asks_only_rate n h = only-number bad small n 10 h asks_rate

-- no cause applies to the record of `Witness` in its room, so the premise of `becomes` can be met
pub no_cause : (m : ℕ) → Cause witness.old witness.room m → ⊥
no_cause = (taken witness.old witness.room).0 witness.done
