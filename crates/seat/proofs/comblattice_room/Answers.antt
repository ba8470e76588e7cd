use borrow.Author.Rules.{rules}
use mathlib.Core.Path.{◌≡◌, sym, ap, ◌∙◌}
use mathlib.Core.List.{List}
use Prim.Native.Nat.{ℕ}
use Rattle.rules.specs.Rules.{rules_of}
use Rattle.rooms.specs.Rooms.{room_left as stored_room, room_number as stored_number}
use Rattle.card_cells.specs.Seat.{words_in, card_in}
use Rattle.seat.specs.Calls.{left_or, room_number, room_left}
use Rattle.card_cells.proofs.Laws.{if_long, if_short}
use Rattle.seat.proofs.comblattice_room.Goals as goal

pub returns-then-seat-lt-SIZE : goal.returns-then-seat-lt-SIZE
unfolding room_number room_left
returns-then-seat-lt-SIZE c =
    let tested = c in
    let cells = tested.args.seat.now in
    (c.number.ensures ∙ if_short cells tested.if-seat-lt-SIZE.true 7 _, if_short cells tested.if-seat-lt-SIZE.true _ _)

pub returns-in-Ok : goal.returns-in-Ok
unfolding room_number room_left card_in
returns-in-Ok c =
    let asked = c in
    let rooms = asked in
    let words = rooms in
    let tested = words in
    let a = tested.args in
    let cells = a.seat.now in
    let long = tested.if-seat-lt-SIZE.false in
    let is =
    sym c.in-Ok.is ∙ asked.room_left.ensures
    ∙ ap (λ (w : List ℕ). stored_room (rules_of w) rooms.rooms_in-rooms.result a.profile a.accumulator) (words.words_in-words.ensures ∙ sym (if_long cells long _ _))
    ∙ ap (λ (r : List ℕ). stored_room (rules_of (words_in cells)) r a.profile a.accumulator) (rooms.rooms_in-rooms.ensures ∙ sym (if_long cells long _ _)) in
    (ap stored_number is ∙ if_long cells long 7 _, ap (left_or a.left.now) is ∙ if_long cells long _ _)

pub returns-in-Err : goal.returns-in-Err
unfolding room_number room_left card_in
returns-in-Err c =
    let told = c in
    let asked = told in
    let rooms = asked in
    let words = rooms in
    let tested = words in
    let a = tested.args in
    let cells = a.seat.now in
    let long = tested.if-seat-lt-SIZE.false in
    let is =
    sym told.in-Err.is ∙ asked.room_left.ensures
    ∙ ap (λ (w : List ℕ). stored_room (rules_of w) rooms.rooms_in-rooms.result a.profile a.accumulator) (words.words_in-words.ensures ∙ sym (if_long cells long _ _))
    ∙ ap (λ (r : List ℕ). stored_room (rules_of (words_in cells)) r a.profile a.accumulator) (rooms.rooms_in-rooms.ensures ∙ sym (if_long cells long _ _)) in
    (c.number-in-Err.ensures ∙ ap stored_number is ∙ if_long cells long 7 _, ap (left_or a.left.now) is ∙ if_long cells long _ _)
