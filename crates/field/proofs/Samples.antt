-- CPA Annex D5: the data of its First (38 bytes) and of its Second (19), and the fields of its tables. Assumes nothing.
use mathlib.Core.Path.{◌≡◌, refl}
use mathlib.Core.Bool.{true, false}
use mathlib.Core.List.{List, [], ◌∷◌}
use Prim.Native.Nat.{ℕ, ◌+◌}
use lib.ListN.{length}
use denote.Ref.{Bor}
use Rattle.field.specs.Field.{is_within, stretch_of, stretch_place, field_of, field_place}

-- amount authorised, amount other, country, TVR, currency, date, type, unpredictable number, terminal type, CVM results, terminal capabilities
abbrev first : List ℕ
first =
    0x00 ∷ 0x00 ∷ 0x00 ∷ 0x01 ∷ 0x00 ∷ 0x00 ∷ 0x00 ∷ 0x00 ∷ 0x00 ∷ 0x00 ∷ 0x00 ∷ 0x00 ∷ 0x08 ∷ 0x40 ∷ 0x00 ∷ 0x00 ∷ 0x00 ∷ 0x10 ∷ 0x00
    ∷ 0x08 ∷ 0x40 ∷ 0x05 ∷ 0x11 ∷ 0x01 ∷ 0x00 ∷ 0x11 ∷ 0x22 ∷ 0x33 ∷ 0x44 ∷ 0x11 ∷ 0x01 ∷ 0x00 ∷ 0x02 ∷ 0xFF ∷ 0x80 ∷ 0xF0 ∷ 0xF3 ∷ 0xFF ∷ []

-- issuer authentication data, response code, TVR, unpredictable number
abbrev second : List ℕ
second =
    0x9C ∷ 0x77 ∷ 0x06 ∷ 0x61 ∷ 0x03 ∷ 0xFF ∷ 0x00 ∷ 0x00 ∷ 0x30 ∷ 0x30 ∷ 0x00 ∷ 0x00 ∷ 0x00 ∷ 0x00 ∷ 0x00 ∷ 0x44 ∷ 0x44 ∷ 0x44 ∷ 0x44 ∷ []

-- a reference with these bytes behind it, pointing where another does
abbrev pub holding : Bor (List ℕ) → List ℕ → Bor (List ℕ)
holding r bytes = record r { now = bytes }

abbrev field : (source position long : ℕ) → List ℕ
field source position long = field_of first second source position long

pub record Samples : Type 0 where
  pub first-size : length first ≡ 38
  pub second-size : length second ≡ 19
  pub country : field 0 0x0D 2 ≡ 0x08 ∷ 0x40 ∷ []
  pub capabilities : field 0 0x22 5 ≡ 0xFF ∷ 0x80 ∷ 0xF0 ∷ 0xF3 ∷ 0xFF ∷ []
  pub tvr_of_first : field 0 0x0F 5 ≡ 0x00 ∷ 0x00 ∷ 0x00 ∷ 0x10 ∷ 0x00 ∷ []
  pub tvr_of_second : field 1 0x0B 5 ≡ 0x00 ∷ 0x00 ∷ 0x00 ∷ 0x00 ∷ 0x00 ∷ []
  pub response_code : field 1 9 2 ≡ 0x30 ∷ 0x30 ∷ []
  -- the first byte and the last, of either source
  pub ends_of_first : (field 0 1 1 ≡ 0x00 ∷ []) × (field 0 38 1 ≡ 0xFF ∷ [])
  pub ends_of_second : (field 1 1 1 ≡ 0x9C ∷ []) × (field 1 19 1 ≡ 0x44 ∷ [])
  -- nothing behind the data, nothing at position 0, and nothing of what reaches past the data
  pub behind : (field 0 0x27 0 ≡ []) × (is_within 38 0x27 0 ≡ true)
  pub not_logged : (field 0 0 255 ≡ []) × (field 1 0 2 ≡ [])
  pub past : (field 0 0x22 6 ≡ []) × (is_within 38 0x22 6 ≡ false) × (is_within 38 0x28 0 ≡ false)
  -- in the buffer that it was found in, wherever that lies
  pub place_in_first : (f s : Bor (List ℕ)) → field_place (holding f first) (holding s second) 0 0x22 5 ≡ (f.ref_ptr.0, f.ref_ptr.1 + 33)
  pub place_in_second : (f s : Bor (List ℕ)) → field_place (holding f first) (holding s second) 1 0x0B 5 ≡ (s.ref_ptr.0, s.ref_ptr.1 + 10)
  pub place_of_none : (f s : Bor (List ℕ)) → field_place (holding f first) (holding s second) 1 0 5 ≡ s.ref_ptr

pub samples : Samples
unfolding stretch_of stretch_place field_of field_place
samples =
    record {
      first-size = refl;
      second-size = refl;
      country = refl;
      capabilities = refl;
      tvr_of_first = refl;
      tvr_of_second = refl;
      response_code = refl;
      ends_of_first = (refl, refl);
      ends_of_second = (refl, refl);
      behind = (refl, refl);
      not_logged = (refl, refl);
      past = (refl, refl, refl);
      place_in_first = λ f s. refl;
      place_in_second = λ f s. refl;
      place_of_none = λ f s. refl;
    }
