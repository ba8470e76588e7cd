-- The first cells of a list, one by one, in front of others.
use mathlib.Core.List.{List, ◌∷◌}
use Prim.Native.Nat.{ℕ}
use lib.ListN.{get_or}

abbrev pub three : List ℕ → List ℕ → List ℕ
three cells rest = get_or cells 0 0 ∷ get_or cells 1 0 ∷ get_or cells 2 0 ∷ rest

abbrev pub four : List ℕ → List ℕ → List ℕ
four cells rest = get_or cells 0 0 ∷ get_or cells 1 0 ∷ get_or cells 2 0 ∷ get_or cells 3 0 ∷ rest
