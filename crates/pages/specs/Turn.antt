-- A stack's bytes come in pieces: what a turn makes of those at hand.
use Rattle.std.specs.Prelude.{cond, List, ◌++◌, ℕ, ◌+◌, ◌-◌, eqb, ltb, leb, length, drop, None, Option, Some}
use Rattle.std.proofs.lemmas.List.Edits.{sets}
use Rattle.conversation.specs.Events.{words_left}
use Rattle.paper_text.specs.PaperText.{room_for_text, has_text_room}
use Rattle.blocks.specs.declared.Wants.TheVariants.{Turn, Input}
pub use Rattle.blocks.specs.Blocks.{too_long, longest_paper, placed_text, text_room, Deal, hold, page, passing, turned_over, said_by, room_by, last_text}
use Rattle.pages.specs.Stack.{page_of, cut_short, size_of, paper_of, stack_of}

-- what is still to be printed of a stack of which bytes are at hand, the first of them bytes of a paper that is too long
unfoldable pub owed : (skip : ℕ) (words stack : List ℕ) → List ℕ
owed skip words stack =
    cond (eqb skip 0) (stack_of words stack) (cond (ltb (length stack) skip) cut_short (too_long ++ stack_of words (drop skip stack)))

-- a page in the room, and where it ends, where its paper has the room that it is asked
abbrev pub page_put : (words paper : List ℕ) (room to : ℕ) → Option ℕ
page_put words paper room to = cond (has_text_room room to (length paper)) (Some (to + length (page_of words paper))) None

abbrev pub page_room : (words paper room : List ℕ) (to : ℕ) → List ℕ
page_room words paper room to = cond (has_text_room (length room) to (length paper)) (sets room to (page_of words paper)) room

-- the block at the front: too few bytes for its length, a paper that is too long, too few bytes for the paper, a paper
abbrev pub opening : (words input : List ℕ) → Deal
opening words input =
    cond (ltb (length input) 4) (hold 0 0 Input)
    (cond (ltb longest_paper (size_of input)) (hold 4 (size_of input) Turn)
    (cond (ltb (length input - 4) (size_of input)) (hold 0 0 Input)
    (page (4 + size_of input) (room_for_text (size_of input)) (page_of words (paper_of input)) (words_left words (paper_of input)))))

unfoldable pub deal_of : (skip : ℕ) (words input : List ℕ) → Deal
deal_of skip words input = cond (ltb 0 skip) (passing skip words input) (opening words input)

-- what a turn leaves in the words; where the room is too small all stays
abbrev pub words_by : (room to : ℕ) (words : List ℕ) → Deal → List ℕ
words_by room to words (hold taken left wants) = words
words_by room to words (page taken asks text words') = cond (leb (to + asks) room) words' words
