use native.Mathlib.Omega.{arith}
use borrow.Author.Rules.{rules}
use mathlib.Core.Path.{◌≡◌, refl, ap, ◌∙◌}
use lib.ListN.{length, drop}
use lib.Seq.{sets}
use Rattle.load_parts.proofs.Stores.{Run, behind}
use Rattle.shape_seat.specs.Shapes.{shape_cells}
use Rattle.seating.specs.States.{state_cells}
use Rattle.shape_seat.proofs.Back.{shape_size}
use Rattle.card_cells.specs.Seat.{card_of, size, seated, stored_in, card_in}
use Rattle.card_cells.proofs.Laws.{state-size, stored, seated_back, if_short, if_long}
use Rattle.card_cells.proofs.put_card.Goals as goal

pub returns-then-seat-lt-SIZE : goal.returns-then-seat-lt-SIZE
returns-then-seat-lt-SIZE c =
    let short = c.if-seat-lt-SIZE.true in
    (if_short c.args.seat.now short _ _, λ h. absurd (omega (arith, h, short)))

pub put-requires : goal.put-requires
put-requires c = search rules

pub put-requires-2 : goal.put-requires-2
put-requires-2 c = search rules

pub returns : goal.returns
unfolding seated stored_in
returns c =
    let state = c in
    let s5 = state in
    let shape = s5 in
    let shaped = shape in
    let s11 = shaped in
    let rooms = s11 in
    let s15 = rooms in
    let words = s15 in
    let tested = words in
    let a = tested.args in
    let long = tested.if-seat-lt-SIZE.false in
    let l = a.seat.now in
    let card = card_of a.words.now a.rooms.now a.shape a.state in
    let w : length a.words.now ≡ 198 = search rules in
    let r : length a.rooms.now ≡ 16 = search rules in
    let run1 : Run l 0 a.words.now 198 _ = record { is = words.put.ensures; size = w } in
    let run2 = behind l _ a.rooms.now 0 198 198 16 run1 rooms.put-2.ensures r refl in
    let third = shape.put-3.ensures ∙ ap (sets _ 214) shaped.shape_cells.ensures.0 in
    let run3 = behind l _ (shape_cells a.shape) 0 214 214 17 run2 third (shape_size a.shape) refl in
    let run4 = behind l _ (state_cells a.state) 0 231 231 37 run3 state.put_state.ensures.0 (state-size a.state) refl in
    let is = run4.is ∙ stored card w r l long in
    (is ∙ if_long l long _ _, λ h. ap card_in is ∙ seated_back card w r shaped.shape_cells.ensures.1 state.put_state.ensures.1 (drop size l))
