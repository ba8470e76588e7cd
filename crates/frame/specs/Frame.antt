-- The frame of the PUT DATA command of an issuer script (request Twelve; CPA 18.8, Table 18-6).
use Rattle.std.specs.Prelude.{Bool, ◌&&◌, ◌||◌, List, ℕ, ◌+◌, length, eqb}
use Rattle.wire.specs.Wire.{byte, number}
use Rattle.element.specs.Element.{is_length, length_size, length_at}

-- 0C DA, P1 P2, Lc, and exactly Lc bytes
abbrev pub object_of : List ℕ → ℕ
object_of c = number c 2 2

unfoldable pub is_put_data : List ℕ → Bool
is_put_data c =
    eqb (byte c 0) 0x0C && eqb (byte c 1) 0xDA && (eqb (object_of c) 0xBF30 || eqb (object_of c) 0xBF35) && eqb (length c) (5 + byte c 4)

-- these: 81, a length and the elements; 8E 04 and four bytes, which are not looked at
unfoldable pub list_place : List ℕ → ℕ
list_place c = 6 + length_size c 6

unfoldable pub mac_place : List ℕ → ℕ
mac_place c = list_place c + length_at c 6

unfoldable pub is_secured : List ℕ → Bool
is_secured c =
    eqb (byte c 5) 0x81 && is_length (byte c 6)
    && eqb (byte c (mac_place c)) 0x8E && eqb (byte c (mac_place c + 1)) 4 && eqb (length c) (mac_place c + 6)
