-- What a turn makes of the front of the bytes at hand. Assumes nothing.
use mathlib.Core.Path.{◌≡◌, refl, ap, ◌∙◌}
use mathlib.Core.Bool.{Bool, true, false, cond}
use mathlib.Core.List.{List, []}
use Prim.Native.Nat.{ℕ, ◌+◌, ◌-◌, ◌≤◌}
use borrow.Author.Tests.{ltb-false}
use native.Mathlib.Omega.{arith}
use lib.Dec.{ltb}
use lib.ListN.{length, take, drop, length-drop}
use lib.Seq.{length-take-le}
use Rattle.conversation.specs.Events.{words_left}
use Rattle.paper_text.specs.PaperText.{room_for_text, words_put}
use Rattle.blocks.specs.declared.Front.TheVariants.{Done, Paper}
use Rattle.blocks.specs.declared.Turned.{Turned}
use Rattle.blocks.specs.declared.Wants.TheVariants.{Turn, Input}
use Rattle.blocks.specs.Blocks.{waiting, front_of, front_room}
use Rattle.pages.specs.Stack.{page_of, size_of, paper_of}
use Rattle.pages.specs.Turn.{longest_paper, hold, page, passing, deal_of, page_put, page_room, turned_over, said_by, room_by, words_by}
use Rattle.pages.proofs.Told.{page-said, passing-said, passing_room, passing-words}
use Rattle.std.specs.Prelude.{Option}

module _ (words room input : List ℕ) (to skip : ℕ) where
  -- no paper is to be answered: the turn is done
  pub done : {said : Turned} → front_of (length room) to skip input ≡ Done said
      → (said ≡ said_by (length room) to skip (deal_of skip words input)) × (front_room room to skip input ≡ room_by room to (deal_of skip words input))
      × (words ≡ words_by (length room) to words (deal_of skip words input))
  unfolding front_of front_room deal_of
  done {said} = by (ltb 0 skip) (ltb (length input) 4) (ltb longest_paper (size_of input)) (ltb (length input - 4) (size_of input)) where
    is : {a b : Turned} → Done a ≡ Done b → b ≡ a
    is e = cc

    by : (some none long few : Bool)
        → cond some (Done (said_by (length room) to skip (passing skip [] input)))
        (cond none (Done (waiting 0 0 to))
        (cond long (Done (record { taken = 4; skip = size_of input; end = to; wants = Turn }))
        (cond few (Done (waiting 0 0 to)) (Paper (4 + size_of input))))) ≡ Done said
        → let deal = cond some (passing skip words input)
        (cond none (hold 0 0 Input)
        (cond long (hold 4 (size_of input) Turn)
        (cond few (hold 0 0 Input) (page (4 + size_of input) (room_for_text (size_of input)) (page_of words (paper_of input)) (words_left words (paper_of input)))))) in
        (said ≡ said_by (length room) to skip deal) × (cond some (room_by room to (passing skip [] input)) room ≡ room_by room to deal)
        × (words ≡ words_by (length room) to words deal)
    by true none long few e =
        (is e ∙ passing-said (length room) to skip words input, passing_room room to skip words input, passing-words (length room) to skip words input)
    by false true long few e = (is e, refl, refl)
    by false false true few e = (is e, refl, refl)
    by false false false true e = (is e, refl, refl)
    by false false false false e = absurd (let z : ◌≡◌ {A = ℕ} 0 1 = cc in omega arith)

  -- a paper is at hand
  pub at_hand : {end : ℕ} → front_of (length room) to skip input ≡ Paper end
      → (deal_of skip words input ≡ page (4 + size_of input) (room_for_text (size_of input)) (page_of words (paper_of input)) (words_left words (paper_of input)))
      × (front_room room to skip input ≡ room) × (end ≡ 4 + size_of input) × (end ≤ length input) × (skip ≡ 0)
  unfolding front_of front_room deal_of
  at_hand {end} = by (ltb 0 skip) (ltb (length input) 4) (ltb longest_paper (size_of input)) (ltb (length input - 4) (size_of input)) refl refl refl where
    by : (some none long few : Bool) → ltb 0 skip ≡ some → ltb (length input) 4 ≡ none → ltb (length input - 4) (size_of input) ≡ few
        → cond some (Done (said_by (length room) to skip (passing skip [] input)))
        (cond none (Done (waiting 0 0 to))
        (cond long (Done (record { taken = 4; skip = size_of input; end = to; wants = Turn }))
        (cond few (Done (waiting 0 0 to)) (Paper (4 + size_of input))))) ≡ Paper end
        → (cond some (passing skip words input)
        (cond none (hold 0 0 Input)
        (cond long (hold 4 (size_of input) Turn)
        (cond few (hold 0 0 Input) (page (4 + size_of input) (room_for_text (size_of input)) (page_of words (paper_of input)) (words_left words (paper_of input))))))
        ≡ page (4 + size_of input) (room_for_text (size_of input)) (page_of words (paper_of input)) (words_left words (paper_of input)))
        × (cond some (room_by room to (passing skip [] input)) room ≡ room) × (end ≡ 4 + size_of input) × (end ≤ length input) × (skip ≡ 0)
    by true none long few s n f e = absurd (let z : ◌≡◌ {A = ℕ} 0 1 = cc in omega arith)
    by false true long few s n f e = absurd (let z : ◌≡◌ {A = ℕ} 0 1 = cc in omega arith)
    by false false true few s n f e = absurd (let z : ◌≡◌ {A = ℕ} 0 1 = cc in omega arith)
    by false false false true s n f e = absurd (let z : ◌≡◌ {A = ℕ} 0 1 = cc in omega arith)
    by false false false false s n f e =
        let is : end ≡ 4 + size_of input = cc in
        let four = ltb-false (length input) 4 n in
        let there = ltb-false (length input - 4) (size_of input) f in
        let none = ltb-false 0 skip s in
        (refl, refl, is, omega (arith, is, four, there), omega (arith, none))

-- a page, by its paper's length
by_length : (words paper room : List ℕ) (to taken n : ℕ) → length paper ≡ n
    → let deal = page taken (room_for_text n) (page_of words paper) (words_left words paper) in
    (turned_over taken 0 to (page_put words paper (length room) to) ≡ said_by (length room) to 0 deal)
    × (page_room words paper room to ≡ room_by room to deal) × (words_put words paper room to ≡ words_by (length room) to words deal)
unfolding words_put
by_length words paper room to taken n e =
    rw (← e) (page-said (length room) to 0 taken words paper (words_left words paper), refl, refl)

-- its page is what the turn says, and what it leaves
pub paged : (words input room : List ℕ) (to skip : ℕ) {end : ℕ} {room' after kept : List ℕ} {put : Option ℕ} {said : Turned}
    → front_of (length room) to skip input ≡ Paper end → room' ≡ front_room room to skip input
    → put ≡ page_put words (take (end - 4) (drop 4 input)) (length room') to
    → after ≡ page_room words (take (end - 4) (drop 4 input)) room' to
    → kept ≡ words_put words (take (end - 4) (drop 4 input)) room' to
    → said ≡ turned_over end 0 to put
    → (said ≡ said_by (length room) to skip (deal_of skip words input)) × (after ≡ room_by room to (deal_of skip words input))
    × (kept ≡ words_by (length room) to words (deal_of skip words input))
paged words input room to skip {end} {room'} {after} {kept} {put} {said} front lent p a k t =
    let is = at_hand words room input to skip front in
    let paper = paper_of input in
    let n : end - 4 ≡ size_of input = omega (arith, is.2) in
    let same : take (end - 4) (drop 4 input) ≡ paper = ap (λ n. take n (drop 4 input)) n in
    let long : length paper ≡ size_of input = length-take-le (size_of input) (drop 4 input) (rw (length-drop 4 input) (omega (arith, is.2, is.3))) in
    let whole = by_length words paper room to (4 + size_of input) (size_of input) long in
    let here : room' ≡ room = lent ∙ is.1 in
    rw (is.0, is.4) (rw (t, p, same, here, is.2) whole.0, rw (a, same, here) whole.1, rw (k, same, here) whole.2)
