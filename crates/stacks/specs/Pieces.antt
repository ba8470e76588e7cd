-- A stack whose bytes come in pieces: turns until more bytes are wanted, then the next piece behind those that are left, to the last piece.
use Rattle.std.specs.Prelude.{List, [], ◌∷◌, ◌++◌, ℕ, zero, suc, ◌+◌, length, drop}
use Rattle.transcript.specs.Transcript.{joined}
use Rattle.blocks.specs.declared.Wants.TheVariants.{Turn, Input, Room}
use Rattle.pages.specs.Turn.{Deal, hold, page, deal_of, last_text}

-- what a turn prints, and what is told behind it
abbrev pub dealt : (more : (skip : ℕ) (words input : List ℕ) → List (List ℕ) → List ℕ) (words input : List ℕ) → List (List ℕ) → Deal
    → List ℕ
dealt more words input [] (hold taken left Input) = last_text (length (drop taken input)) left
dealt more words input (piece ∷ pieces) (hold taken left Input) = more left words (drop taken input ++ piece) pieces
dealt more words input pieces (hold taken left Turn) = more left words (drop taken input) pieces
dealt more words input pieces (hold taken left Room) = more left words (drop taken input) pieces
dealt more words input pieces (page taken asks text words') = text ++ more 0 words' (drop taken input) pieces

-- what n turns print
unfoldable pub told_in : ℕ → (skip : ℕ) (words input : List ℕ) → List (List ℕ) → List ℕ
told_in zero skip words input pieces = []
told_in (suc n) skip words input pieces = dealt (told_in n) words input pieces (deal_of skip words input)

-- each turn takes a byte or a piece, but the last
unfoldable pub told_of : (words : List ℕ) (pieces : List (List ℕ)) → List ℕ
told_of words pieces = told_in (suc (length (joined pieces) + length pieces)) 0 words [] pieces
