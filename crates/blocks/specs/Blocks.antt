-- A stack's bytes come in pieces: the block at the front of those at hand, and what a turn makes of it where no paper is to be answered.
use Rattle.std.specs.Prelude.{cond, ◌&&◌, List, [], ◌∷◌, ℕ, ◌+◌, ◌-◌, eqb, ltb, leb, length, take, drop, None, Option, Some}
use Rattle.std.proofs.lemmas.List.Edits.{sets}
use Rattle.wire.specs.Wire.{number}
use Rattle.blocks.specs.declared.Front.{Front}
use Rattle.blocks.specs.declared.Front.TheVariants.{Done, Paper}
use Rattle.blocks.specs.declared.Turned.{Turned}
use Rattle.blocks.specs.declared.Wants.{Wants}
use Rattle.blocks.specs.declared.Wants.TheVariants.{Turn, Input, Room}

-- "cut short" and a line feed
abbrev pub cut_short : List ℕ
cut_short = 99 ∷ 117 ∷ 116 ∷ 32 ∷ 115 ∷ 104 ∷ 111 ∷ 114 ∷ 116 ∷ 10 ∷ []

-- the length at the front of a stack, the paper behind it, and what stands behind that
abbrev pub size_of : (stack : List ℕ) → ℕ
size_of stack = number stack 0 4

abbrev pub paper_of : (stack : List ℕ) → List ℕ
paper_of stack = take (size_of stack) (drop 4 stack)

abbrev pub behind : (stack : List ℕ) → List ℕ
behind stack = drop (4 + size_of stack) stack

-- the page of a paper that is too long: 0 9, and an empty line
abbrev pub too_long : List ℕ
too_long = 48 ∷ 32 ∷ 57 ∷ 10 ∷ 10 ∷ []

abbrev pub longest_paper : ℕ
longest_paper = 65536

-- a text in the room, and where it ends
abbrev pub placed_text : (room to : ℕ) (text : List ℕ) → Option ℕ
placed_text room to text = cond (leb (to + length text) room) (Some (to + length text)) None

abbrev pub text_room : (room : List ℕ) (to : ℕ) (text : List ℕ) → List ℕ
text_room room to text = cond (leb (to + length text) (length room)) (sets room to text) room

-- a turn prints nothing, or it prints a page if the room that it asks is there
pub data Deal : Type 0 where
  hold : (taken skip : ℕ) → Wants → Deal
  page : (taken asks : ℕ) (text words : List ℕ) → Deal

-- bytes of a paper that is too long are passed; at the last one it is answered
abbrev pub passing : (skip : ℕ) (words input : List ℕ) → Deal
passing skip words input =
    cond (ltb (length input) skip) (hold (length input) (skip - length input) Input) (page skip (length too_long) too_long words)

-- what the turn says, and what it leaves in the room; where the room is too small all stays
abbrev pub waiting : (taken skip to : ℕ) → Turned
waiting taken skip to = record { taken = taken; skip = skip; end = to; wants = Input }

abbrev pub turned_over : (taken skip to : ℕ) → Option ℕ → Turned
turned_over taken skip to (Some end) = record { taken = taken; skip = 0; end = end; wants = Turn }
turned_over taken skip to None = record { taken = 0; skip = skip; end = to; wants = Room }

abbrev pub said_by : (room to skip : ℕ) → Deal → Turned
said_by room to skip (hold taken left wants) = record { taken = taken; skip = left; end = to; wants = wants }
said_by room to skip (page taken asks text words) =
    cond (leb (to + asks) room) (record { taken = taken; skip = 0; end = to + length text; wants = Turn })
    (record { taken = 0; skip = skip; end = to; wants = Room })

abbrev pub room_by : (room : List ℕ) (to : ℕ) → Deal → List ℕ
room_by room to (hold taken left wants) = room
room_by room to (page taken asks text words) = cond (leb (to + asks) (length room)) (sets room to text) room

-- the block at the front: bytes to pass, too few for a length, a paper that is too long, too few for the paper, a paper
unfoldable pub front_of : (room to skip : ℕ) (input : List ℕ) → Front
front_of room to skip input =
    cond (ltb 0 skip) (Done (said_by room to skip (passing skip [] input)))
    (cond (ltb (length input) 4) (Done (waiting 0 0 to))
    (cond (ltb longest_paper (size_of input)) (Done (record { taken = 4; skip = size_of input; end = to; wants = Turn }))
    (cond (ltb (length input - 4) (size_of input)) (Done (waiting 0 0 to)) (Paper (4 + size_of input)))))

unfoldable pub front_room : (room : List ℕ) (to skip : ℕ) (input : List ℕ) → List ℕ
front_room room to skip input = cond (ltb 0 skip) (room_by room to (passing skip [] input)) room

-- the stack has ended with so many bytes at hand: nothing is begun, or it is cut short
abbrev pub last_text : (left skip : ℕ) → List ℕ
last_text left skip = cond (eqb left 0 && eqb skip 0) [] cut_short
