-- The words that a set-up's body is loaded into (document 01, "The paper"; what the words mean is said in `rules`).
use Rattle.std.specs.Prelude.{ℕ, zero, suc, ◌+◌, cond, List, [], ◌∷◌, ◌++◌, eqb}
use Rattle.wire.specs.Wire.{byte, number}
use Rattle.layout.specs.Layout.{profile_place, conversion_place}
use Rattle.layout.specs.Layout as layout
use Rattle.rules.specs.Rules.{four, eight}

-- n rows, one behind the other
abbrev pub rows : ℕ → (ℕ → List ℕ) → List ℕ
rows zero row = []
rows (suc n) row = rows n row ++ row n

-- the place so many steps on
abbrev pub onward : ℕ → ℕ → ℕ → ℕ
onward step at zero = at
onward step at (suc j) = onward step at j + step

-- key index, PIN tries, issuer authentication required, the currencies of the four accumulators
unfoldable pub head_words : List ℕ → List ℕ
head_words s =
    byte s layout.key_index ∷ byte s layout.pin_tries ∷ byte s layout.required ∷ four (λ i. number s (layout.accumulator_from i) 2)

-- from, to, digits, s + 9
unfoldable pub rate_words : List ℕ → ℕ → List ℕ
rate_words s at = number s at 2 ∷ number s (at + layout.to) 2 ∷ number s (at + layout.digits) 2 ∷ byte s (at + layout.shift) ∷ []

unfoldable pub rates_words : List ℕ → List ℕ
rates_words s = rows 5 (λ i. rate_words s (conversion_place s i))

-- a limit: of one byte if it is a counter's, else of 8
unfoldable pub limit_in : List ℕ → ℕ → ℕ → ℕ
limit_in s at width = cond (eqb width layout.counter_limit) (byte s at) (number s at 8)

-- the rule of an accumulator or a counter: switches, and the lower and the upper limit of a width
unfoldable pub rule_words : List ℕ → ℕ → ℕ → List ℕ
rule_words s at width = byte s at ∷ limit_in s (at + layout.lower) width ∷ limit_in s (at + layout.upper width) width ∷ []

unfoldable pub rules_words : List ℕ → ℕ → ℕ → List ℕ
rules_words s at width = rows 4 (λ j. rule_words s (onward (layout.rule_length width) at j) width)

-- number, masks Online, Decline, Default, MTA on, its currency, MTA
unfoldable pub profile_head_words : List ℕ → ℕ → List ℕ
profile_head_words s at =
    byte s at ∷ number s (at + layout.online) 4 ∷ number s (at + layout.decline) 4 ∷ number s (at + layout.default) 4
    ∷ byte s (at + layout.maximum_on)
    ∷ number s (at + layout.maximum_currency) 2
    ∷ number s (at + layout.maximum) 8
    ∷ []

-- the accumulator and the two counters sent
unfoldable pub sent_words : List ℕ → ℕ → List ℕ
sent_words s at = byte s (at + layout.accumulator_sent) ∷ byte s (at + layout.first_sent) ∷ byte s (at + layout.second_sent) ∷ []

unfoldable pub profile_words : List ℕ → ℕ → List ℕ
profile_words s at =
    ((profile_head_words s at ++ rules_words s (at + layout.accumulator_rules) layout.accumulator_limit)
    ++ rules_words s (at + layout.counter_rules) layout.counter_limit)
    ++ sent_words s at

unfoldable pub profiles_words : List ℕ → List ℕ
profiles_words s = rows 4 (λ i. profile_words s (profile_place s i))

-- of the tail of version 04: a cyclic accumulator's currency, kind and first day; its rule's switches and limit
unfoldable pub cycle_words : List ℕ → ℕ → List ℕ
cycle_words t at = number t at 2 ∷ byte t (at + layout.cycle_kind) ∷ byte t (at + layout.first_day) ∷ []

unfoldable pub cyclic_rule_words : List ℕ → ℕ → List ℕ
cyclic_rule_words t at = byte t at ∷ number t (at + layout.cyclic_limit) 8 ∷ []

unfoldable pub cyclic_rules_words : List ℕ → (j : ℕ) → List ℕ
cyclic_rules_words t j = rows 2 (λ i. cyclic_rule_words t (layout.cyclic_rule_from j i))

unfoldable pub cycles_words : List ℕ → List ℕ
cycles_words t = rows 2 (λ i. cycle_words t (layout.cycle_from i)) ++ rows 4 (cyclic_rules_words t)

-- of the tail of version 05: the controls of the eight slots, and whether each profile checks cashback
unfoldable pub family_words : List ℕ → List ℕ
family_words f = eight (λ i. byte f (layout.control_from i)) ++ four (λ j. byte f (layout.cashback_from j))

-- the base's, then the syllabus, and last those of the tails of versions 04 and 05
unfoldable pub loaded : (s t f : List ℕ) → ℕ → List ℕ
loaded s t f syllabus = ((((head_words s ++ rates_words s) ++ profiles_words s) ++ syllabus ∷ []) ++ cycles_words t) ++ family_words f
