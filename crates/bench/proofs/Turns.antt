-- Room enough, a run in its room, and a block where there is room for it and where there is none. Assumes nothing.
use mathlib.Core.Path.{◌≡◌, sym, ap, ap₂, ◌∙◌}
use mathlib.Core.Bool.{Bool, true, false, not}
use mathlib.Core.List.{List, ◌++◌}
use Prim.Native.Nat.{ℕ, ◌≤◌}
use borrow.Author.Tests.{not-false}
use lib.ListN.{length, take, drop, replicate, length-replicate}
use lib.Seq.{sets, length-take-le}
use Rattle.rules.specs.Rules.{rules_of}
use Rattle.shape.specs.declared.Shape.{Shape}
use Rattle.state.specs.declared.State.{State}
use Rattle.choice.proofs.Tests.{both}
use Rattle.run_page.specs.RunPage.{page_of, page_size, page_text, page_end}
use Rattle.run_text.proofs.Pages.{whole}
use Rattle.runs.specs.declared.RunEnd.{RunEnd}
use Rattle.runs.specs.Runs.{Card, card_of, card_run, room_run, ruled_run, end_of}
use Rattle.bench.specs.declared.Turn.{Turn}
use Rattle.run_block.specs.RunBlock.{filler, size_in, records_in}
use Rattle.bench.specs.Bench.{has_room, turned}
use Rattle.bench.specs.Bench.{card_behind, room_behind, page_behind, turn_of, card_turned, room_turned, text_turned}
use Rattle.std.specs.Prelude.{None, Some}

-- room enough, as numbers
pub enough : (size : ℕ) (room text : List ℕ) {b : Bool} → b ≡ has_room size (length room) (length text) → not b ≡ false
    → (length (take size room) ≡ size) × (size ≤ length room) × (page_size size ≤ length text)
enough size room text e is =
    let fits = both size (length room) (page_size size) (length text) (sym e ∙ not-false _ is) in
    (length-take-le size room fits.0, fits.0, fits.1)

module _ (shape : Shape) (paper words rooms : List ℕ) (state : State) where
  abbrev card : Card
  card = card_of words rooms state

  -- ---- a run in a room of some bytes

  module _ (records : List ℕ) (size : ℕ) (text : List ℕ) where
    abbrev after : Card
    after = card_run shape paper card records size

    abbrev filled : List ℕ
    filled = room_run shape paper card records (replicate size filler)

    abbrev page : List ℕ
    page = page_of (ruled_run shape records size) filled

    abbrev pub RanIn : Turn → (words rooms room text : List ℕ) → Type 0
    RanIn turn words' rooms' room' text' =
        (turn ≡ turned after.state page) × (words' ≡ after.words) × (rooms' ≡ after.rooms) × (room' ≡ filled)
        × (text' ≡ sets text 0 page)
        × (rules_of words' ≡ after.rules)

    pub ran_in_lem : {lent room' words' rooms' text' : List ℕ} {run : RunEnd} {end : ℕ} → lent ≡ replicate size filler
        → run ≡ end_of shape paper card records (length lent) → words' ≡ (card_run shape paper card records (length lent)).words
        → rooms' ≡ (card_run shape paper card records (length lent)).rooms
        → room' ≡ room_run shape paper card records lent
        → rules_of words' ≡ (card_run shape paper card records (length lent)).rules
        → page_size (length room') ≤ length text → end ≡ page_end (length text) run.ran room' → text' ≡ page_text text run.ran room'
        → RanIn (record { state = run.state; page = Some end }) words' rooms' room' text'
    ran_in_lem {lent} {room'} {words'} {rooms'} {text'} {run} {end} f r w o m u fits e p =
        let sized : length lent ≡ size = ap length f ∙ length-replicate size filler in
        let run_is : run ≡ end_of shape paper card records size = rw sized at r in
        let room_is : room' ≡ filled = rw f at m in
        let page-is : page_of run.ran room' ≡ page = rw (run_is, room_is) in
        let put = whole text run.ran room' fits e p in
        let ends : end ≡ length page = put.0 ∙ ap length page-is in
        (rw (run_is, ends), rw sized at w, rw sized at o, room_is, put.1 ∙ ap (sets text 0) page-is, rw sized at u)

  -- ---- a block

  module _ (block room text : List ℕ) where
    abbrev pub Turned : Turn → (words rooms room text : List ℕ) → Type 0
    Turned turn words' rooms' room' text' =
        (turn ≡ turn_of shape paper card block (length room) (length text))
        × (words' ≡ (card_turned shape paper card block (length room) (length text)).words)
        × (rooms' ≡ (card_turned shape paper card block (length room) (length text)).rooms)
        × (room' ≡ room_turned shape paper card block room (length text))
        × (text' ≡ text_turned shape paper card block (length room) text)
        × (rules_of words' ≡ (card_turned shape paper card block (length room) (length text)).rules)

    pub no_room : has_room (size_in block) (length room) (length text) ≡ false
        → Turned (record { state = state; page = None }) words rooms room text
    unfolding turn_of card_turned room_turned text_turned
    no_room e = (rw e, rw e, rw e, rw e, rw e, rw e)

    pub answered : {size bytes : ℕ} {records words' rooms' part' text' : List ℕ} {turn : Turn}
        → has_room (size_in block) (length room) (length text) ≡ true → size ≡ size_in block → records ≡ records_in block → bytes ≡ size
        → RanIn records bytes text turn words' rooms' part' text'
        → Turned turn words' rooms' (part' ++ drop size room) text'
    unfolding turn_of card_turned room_turned text_turned card_behind room_behind page_behind
    answered {size} {bytes} {records} {words'} {rooms'} {part'} {text'} {turn} fits e r sized ran =
        let whole : RanIn (records_in block) (size_in block) text turn words' rooms' part' text' = rw (sized, e, r) at ran in (
          rw fits whole.0,
          rw fits whole.1,
          rw fits whole.2,
          rw fits (ap₂ (λ (p : List ℕ) (n : ℕ). p ++ drop n room) whole.3 e),
          rw fits whole.4,
          rw fits whole.5,
        )
