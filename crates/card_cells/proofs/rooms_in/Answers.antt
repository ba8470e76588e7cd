use native.Mathlib.Omega.{arith}
use borrow.Author.Rules.{rules}
use mathlib.Core.Path.{◌≡◌, sym, ap, ◌∙◌}
use lib.ListN.{length}
use lib.Seq.{sets}
use Rattle.load_parts.proofs.Stores.{all}
use Rattle.card_cells.specs.Seat.{rooms_in}
use Rattle.card_cells.proofs.Laws.{rooms-size, if_short, if_long}
use Rattle.card_cells.proofs.rooms_in.Goals as goal

-- too short
pub returns-then-seat-lt-SIZE : goal.returns-then-seat-lt-SIZE
returns-then-seat-lt-SIZE c =
    let tested = c in
    c.none.ensures ∙ if_short tested.args.seat.now tested.if-seat-lt-SIZE.true _ _

-- the part is as long as the cells
pub put-requires : goal.put-requires
put-requires c =
    let made = c in
    let tested = made in
    let seat = tested.args.seat.now in
    omega (arith, rooms-size seat tested.if-seat-lt-SIZE.false, ap length made.none-rooms.ensures)

pub returns : goal.returns
returns c =
    let lent = c in
    let made = lent in
    let tested = made in
    let seat = tested.args.seat.now in
    let long = tested.if-seat-lt-SIZE.false in
    c.put.ensures ∙ all made.none-rooms.result (rooms_in seat) (rooms-size seat long ∙ sym (ap length made.none-rooms.ensures))
    ∙ if_long seat long _ _
