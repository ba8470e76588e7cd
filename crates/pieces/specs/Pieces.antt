-- What stands in a text before its first mark, and what behind it.
use Rattle.std.specs.Prelude.{ℕ, suc, ◌+◌, min, cond, List, [], ◌∷◌, eqb, length, take, drop}
use Rattle.std.specs.Borrow.{Bor}

-- the place of the first mark, or the end; what stands before it and behind it
unfoldable pub place_of : (mark : ℕ) (text : List ℕ) → ℕ
place_of mark [] = 0
place_of mark (c ∷ text) = cond (eqb c mark) 0 (suc (place_of mark text))

unfoldable pub before : (mark : ℕ) (text : List ℕ) → List ℕ
before mark text = take (place_of mark text) text

unfoldable pub behind : (mark : ℕ) (text : List ℕ) → List ℕ
behind mark text = drop (suc (place_of mark text)) text

-- and where the latter lies, at the end where there is nothing
unfoldable pub behind_place : (mark : ℕ) (text : Bor (List ℕ)) → ℕ × ℕ
behind_place mark text = (text.ref_ptr.0, text.ref_ptr.1 + min (suc (place_of mark text.now)) (length text.now))
