-- The commands of a template (EMV Book 3 Annex B): the values of its primitive objects 86, in reading order.
use Rattle.std.specs.Prelude.{ℕ, zero, suc, ◌+◌, ◌-◌, List, [], ◌∷◌, map, cond, take, drop, eqb, None, Option, Some}
use Rattle.head.specs.Head.{head_size, value_size, object_size, head_right, is_constructed}
use Rattle.cursor.specs.declared.Span.{Span}

-- s stands at `at`, and n of its bytes are passed over: those of a filler, of a constructed object's head, of a primitive object
unfoldable pub places_behind : (at n : ℕ) → List ℕ → List Span
places_behind at n [] = []
places_behind at (suc n) (b ∷ s) = places_behind (at + 1) n s
places_behind at zero (b ∷ s) =
    cond (eqb b 0)
    (places_behind (at + 1) 0 s)
    (cond (head_right (b ∷ s))
    (cond (is_constructed b)
    (places_behind (at + 1) (head_size (b ∷ s) - 1) s)
    (cond (eqb b 0x86)
    (record { start = at + head_size (b ∷ s); size = value_size (b ∷ s) } ∷ places_behind (at + 1) (object_size (b ∷ s) - 1) s)
    (places_behind (at + 1) (object_size (b ∷ s) - 1) s)))
    [])

-- those at or behind a place of s
unfoldable pub places_from : List ℕ → (at : ℕ) → List Span
places_from s at = places_behind at 0 (drop at s)

abbrev pub first_of : List Span → Option Span
first_of [] = None
first_of (p ∷ ps) = Some p

unfoldable pub next_command : List ℕ → (from : ℕ) → Option Span
next_command s at = first_of (places_from s at)

-- the commands themselves
unfoldable pub cut : List ℕ → Span → List ℕ
cut s p = take p.size (drop p.start s)

unfoldable pub commands_of : List ℕ → List (List ℕ)
commands_of s = map (cut s) (places_from s 0)
