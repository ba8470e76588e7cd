-- The bytes of a set-up's body: how many, and the range of each field (document 01, "Numbers" and "The paper"), in document 01's order.
-- Key index, ATC, and a counter's value and limits may be any. Ranges hold for inactive entries too.
use Rattle.std.specs.Prelude.{ℕ, zero, suc, ◌+◌, Bool, true, not, ◌&&◌, ◌||◌, List, length, get_or, leb, ltb, eqb}
use Rattle.wire.specs.Wire.{byte, number, is_currency}
use Rattle.money.specs.Money.{max}
use Rattle.layout.specs.Layout.{base_length, profile_place, conversion_place}
use Rattle.layout.specs.Layout as layout

-- the test holds of each number below n
abbrev pub all : ℕ → (ℕ → Bool) → Bool
all zero test = true
all (suc n) test = all n test && test n

-- 52 + 107p + 7c bytes
unfoldable pub has_length : List ℕ → Bool
has_length s = eqb (length s) (base_length s)

-- PIN tries (0 to 15); issuer authentication required (0/1); p (1 to 4); c (0 to 5); go online next (0/1)
unfoldable pub is_head : List ℕ → Bool
is_head s =
    leb (byte s layout.pin_tries) 15 && leb (byte s layout.required) 1 && leb 1 (byte s layout.profiles) && leb (byte s layout.profiles) 4
    && leb (byte s layout.conversions) 5
    && leb (byte s layout.online_next) 1

-- an accumulator at a place: currency (2) and value (8)
unfoldable pub is_accumulator : List ℕ → ℕ → Bool
is_accumulator s at = is_currency (number s at 2) && leb (number s (at + layout.value) 8) max

unfoldable pub are_accumulators : List ℕ → Bool
are_accumulators s = all 4 (λ i. is_accumulator s (layout.accumulator_from i))

-- of the profile at a place: masks Online, Decline, Default (4 each), without a bit from the unnamed one on
unfoldable pub are_masks : List ℕ → (unnamed at : ℕ) → Bool
are_masks s unnamed at =
    ltb (number s (at + layout.online) 4) unnamed && ltb (number s (at + layout.decline) 4) unnamed
    && ltb (number s (at + layout.default) 4) unnamed

-- MTA on (0/1), its currency (2), MTA (8)
unfoldable pub is_maximum_amount : List ℕ → ℕ → Bool
is_maximum_amount s at =
    leb (byte s (at + layout.maximum_on)) 1 && is_currency (number s (at + layout.maximum_currency) 2)
    && leb (number s (at + layout.maximum) 8) max

-- an accumulator's rule at a place: switches (1, 2, 4), lower (8), upper (8)
unfoldable pub is_accumulator_rule : List ℕ → ℕ → Bool
is_accumulator_rule s at =
    leb (byte s at) 7 && leb (number s (at + layout.lower) 8) max && leb (number s (at + layout.upper layout.accumulator_limit) 8) max

unfoldable pub are_accumulator_rules : List ℕ → ℕ → Bool
are_accumulator_rules s at = all 4 (λ j. is_accumulator_rule s (at + layout.accumulator_rule_from j))

-- a counter's rule at a place: switches (1, 2, 4, 8)
abbrev pub is_counter_rule : List ℕ → ℕ → Bool
is_counter_rule s at = leb (byte s at) 15

unfoldable pub are_counter_rules : List ℕ → ℕ → Bool
are_counter_rules s at = all 4 (λ j. is_counter_rule s (at + layout.counter_rule_from j))

-- the accumulator sent (0 to 4); the two counters sent (0 to 4)
unfoldable pub are_sent : List ℕ → ℕ → Bool
are_sent s at =
    leb (byte s (at + layout.accumulator_sent)) 4 && leb (byte s (at + layout.first_sent)) 4 && leb (byte s (at + layout.second_sent)) 4

-- a profile at a place: number (1 to 124), and the parts above
unfoldable pub is_profile : List ℕ → (unnamed at : ℕ) → Bool
is_profile s unnamed at =
    leb 1 (byte s at) && leb (byte s at) 124 && are_masks s unnamed at && is_maximum_amount s at && are_accumulator_rules s at && are_counter_rules s at
    && are_sent s at

-- profile i + 1, if it is one of the p
unfoldable pub is_profile_or_absent : List ℕ → (unnamed i : ℕ) → Bool
is_profile_or_absent s unnamed i = not (ltb i (byte s layout.profiles)) || is_profile s unnamed (profile_place s i)

unfoldable pub are_profiles : List ℕ → (unnamed : ℕ) → Bool
are_profiles s unnamed = all 4 (is_profile_or_absent s unnamed)

-- a conversion at a place: from, to (2 each), not equal; d (1 to 9,999); s + 9 (0 to 12)
unfoldable pub is_conversion : List ℕ → ℕ → Bool
is_conversion s at =
    is_currency (number s at 2) && is_currency (number s (at + layout.to) 2) && not (eqb (number s at 2) (number s (at + layout.to) 2))
    && leb 1 (number s (at + layout.digits) 2)
    && leb (number s (at + layout.digits) 2) 9999
    && leb (byte s (at + layout.shift)) 12

-- conversion i + 1, if it is one of the c
unfoldable pub is_conversion_or_absent : List ℕ → ℕ → Bool
is_conversion_or_absent s i = not (ltb i (byte s layout.conversions)) || is_conversion s (conversion_place s i)

unfoldable pub are_conversions : List ℕ → Bool
are_conversions s = all 5 (is_conversion_or_absent s)

-- n entries by what they go by: each differs from those before it, or is 0, which stands for one that is not there
abbrev pub apart : ℕ → (ℕ → ℕ) → Bool
apart n entry = all n (λ j. all j (λ i. not (eqb (entry i) (entry j))) || eqb (entry j) 0)

-- entries written out
abbrev pub listed : List ℕ → ℕ → ℕ
listed entries i = get_or entries i 0

-- the number of profile i + 1
unfoldable pub profile_number : List ℕ → ℕ → ℕ
profile_number s i = byte s (profile_place s i)

-- profiles numbered all different
unfoldable pub are_numbers_apart : List ℕ → Bool
are_numbers_apart s = apart 4 (profile_number s)

-- from and to of conversion i + 1, side by side in one number
unfoldable pub conversion_pair : List ℕ → ℕ → ℕ
conversion_pair s i = number s (conversion_place s i) 4

-- no pair twice
unfoldable pub are_pairs_apart : List ℕ → Bool
are_pairs_apart s = apart 5 (conversion_pair s)

unfoldable pub is_setup : List ℕ → (unnamed : ℕ) → Bool
is_setup s unnamed =
    has_length s && is_head s && are_accumulators s && are_profiles s unnamed && are_numbers_apart s && are_conversions s && are_pairs_apart s
