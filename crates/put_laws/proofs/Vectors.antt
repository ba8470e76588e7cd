-- The commands of the reading's vectors, those of its templates first, and what each writes. Assumes nothing.
use Rattle.std.specs.Prelude.{Option, None, Some}
use mathlib.Core.Path.{◌≡◌, refl}
use mathlib.Core.List.{List, [], ◌∷◌, ◌++◌, map}
use Prim.Native.Nat.{ℕ, zero, suc, ◌/◌, ◌%◌}
use Rattle.wire.specs.Wire.{number}
use Rattle.money.specs.declared.AccumulatorAmount.{AccumulatorAmount}
use Rattle.digits.specs.Digits.{are_pairs, pairs_value}
use Rattle.element.specs.declared.Write.{Write}
use Rattle.element.specs.declared.Write.TheVariants.{Value, AccumulatorLimits, CounterLimits}
use Rattle.element.specs.Element.{length_size, length_at, value_written, limits_written, counts_written, meaning_of, head_size, element_size, element_meaning}
use Rattle.put_data.specs.PutData.{writes_by, is_put_data, list_place, mac_place, is_secured, elements_of, writes_of}

-- n bytes, written as one number in hex
abbrev pub bytes : (n : ℕ) → ℕ → List ℕ
bytes zero x = []
bytes (suc n) x = bytes n (x / 256) ++ x % 256 ∷ []

abbrev pub amount_of : ℕ → AccumulatorAmount
amount_of n = record { 0 = n }

pub record Row : Type 0 where
  pub size : ℕ
  pub hex : ℕ
  pub writes : Option (List Write)

abbrev row : (size hex : ℕ) → Option (List Write) → Row
row size hex writes = record { size = size; hex = hex; writes = writes }

abbrev pub table : List Row
table =
    -- done, first those of the templates
    row 22 0x0CDABF30118109DF01060000001234568E0411223344 (Some (Value 0 (amount_of 123456) ∷ []))
    ∷ row 28 0x0CDABF3017810FDF120C0000000050000000000100008E0411223344 (Some (AccumulatorLimits 1 (amount_of 5000) (amount_of 10000) ∷ []))
    ∷ row 18 0x0CDABF350D8105DF110207098E0411223344 (Some (CounterLimits 0 7 9 ∷ []))
    ∷ row 13 0x0CDABF300881008E0411223344 (Some [])
    ∷ row 23 0x0CDABF3012810ADF0106000000000005008E0411223344 (Some (Value 0 (amount_of 5) ∷ []))
    ∷ row 23 0x0CDABF3012818109DF01060000000000058E0411223344 (Some (Value 0 (amount_of 5) ∷ []))
    ∷ row 23 0x0CDABF3012810ADF0181060000000000058E0411223344 (Some (Value 0 (amount_of 5) ∷ []))
    -- failing: a digit above 9
    ∷ row 22 0x0CDABF30118109DF010600000000000A8E0411223344 None
    -- CLA 8C or 00; INS DB or 18
    ∷ row 22 0x8CDABF30118109DF01060000000000058E0411223344 None
    ∷ row 22 0x00DABF30118109DF01060000000000058E0411223344 None
    ∷ row 22 0x0CDBBF30118109DF01060000000000058E0411223344 None
    ∷ row 22 0x0C18BF30118109DF01060000000000058E0411223344 None
    -- P1 P2 BF31, BF37, BF3C, BF42
    ∷ row 22 0x0CDABF31118109DF01060000000000058E0411223344 None
    ∷ row 22 0x0CDABF37118109DF01060000000000058E0411223344 None
    ∷ row 22 0x0CDABF3C118109DF01060000000000058E0411223344 None
    ∷ row 22 0x0CDABF42118109DF01060000000000058E0411223344 None
    -- elements DF00, DF05, DF15, DF21; DF01 under BF35
    ∷ row 22 0x0CDABF30118109DF00060000000000058E0411223344 None
    ∷ row 22 0x0CDABF30118109DF05060000000000058E0411223344 None
    ∷ row 28 0x0CDABF3017810FDF150C0000000000050000000000058E0411223344 None
    ∷ row 22 0x0CDABF30118109DF21060000000000058E0411223344 None
    ∷ row 28 0x0CDABF3017810FDF210C0000000000050000000000058E0411223344 None
    ∷ row 22 0x0CDABF35118109DF01060000000000058E0411223344 None
    ∷ row 18 0x0CDABF350D8105DF010207098E0411223344 None
    -- DF01 with 0, 5, 7 or 12 bytes
    ∷ row 16 0x0CDABF300B8103DF01008E0411223344 None
    ∷ row 21 0x0CDABF30108108DF010500000000008E0411223344 None
    ∷ row 23 0x0CDABF3012810ADF0107000000000000008E0411223344 None
    ∷ row 28 0x0CDABF3017810FDF010C0000000000000000000000008E0411223344 None
    -- DF11 with 6 or 24
    ∷ row 22 0x0CDABF30118109DF11060000000000008E0411223344 None
    ∷ row 40 0x0CDABF3023811BDF11180000000000000000000000000000000000000000000000008E0411223344 None
    -- BF35 DF11 with 1, 4 or 12
    ∷ row 17 0x0CDABF350C8104DF1101008E0411223344 None
    ∷ row 20 0x0CDABF350F8107DF1104000000008E0411223344 None
    ∷ row 28 0x0CDABF3517810FDF110C0000000000000000000000008E0411223344 None
    -- a length in three bytes, of an element or of all
    ∷ row 24 0x0CDABF3013810BDF018200060000000000058E0411223344 None
    ∷ row 24 0x0CDABF301381820009DF01060000000000058E0411223344 None
    -- Lc one less or more; an Le
    ∷ row 22 0x0CDABF30108109DF01060000000000058E0411223344 None
    ∷ row 22 0x0CDABF30128109DF01060000000000058E0411223344 None
    ∷ row 23 0x0CDABF30118109DF01060000000000058E041122334400 None
    -- 80 or 87 for 81
    ∷ row 22 0x0CDABF30118009DF01060000000000058E0411223344 None
    ∷ row 22 0x0CDABF30118709DF01060000000000058E0411223344 None
    -- a MAC missing, before 81, with tag 8F, with length 3, 5, 8 or 81 04
    ∷ row 16 0x0CDABF300B8109DF0106000000000005 None
    ∷ row 22 0x0CDABF30118E04112233448109DF0106000000000005 None
    ∷ row 22 0x0CDABF30118109DF01060000000000058F0411223344 None
    ∷ row 21 0x0CDABF30108109DF01060000000000058E03112233 None
    ∷ row 23 0x0CDABF30128109DF01060000000000058E051122334455 None
    ∷ row 26 0x0CDABF30158109DF01060000000000058E081122334455667788 None
    ∷ row 23 0x0CDABF30128109DF01060000000000058E810411223344 None
    -- an empty 86; 0CDABF30; BF30 again around V
    ∷ row 0 0 None
    ∷ row 4 0x0CDABF30 None
    ∷ row 25 0x0CDABF3014810CBF3009DF01060000000000058E0411223344 None
    ∷ []

pub as_read_lem : map (λ (r : Row). row r.size r.hex (writes_of (bytes r.size r.hex))) table ≡ table
unfolding number are_pairs pairs_value length_size length_at value_written limits_written counts_written meaning_of head_size element_size element_meaning writes_by
    is_put_data list_place mac_place is_secured elements_of writes_of
as_read_lem = refl
