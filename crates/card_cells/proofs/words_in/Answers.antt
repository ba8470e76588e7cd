use native.Mathlib.Omega.{arith}
use borrow.Author.Rules.{rules}
use mathlib.Core.Path.{◌≡◌, sym, ap, ◌∙◌}
use lib.ListN.{length}
use lib.Seq.{sets}
use Rattle.load_parts.proofs.Stores.{all}
use Rattle.card_cells.specs.Seat.{words_in}
use Rattle.card_cells.proofs.Laws.{words_size, if_short, if_long}
use Rattle.card_cells.proofs.words_in.Goals as goal

-- too short
pub returns-then-seat-lt-SIZE : goal.returns-then-seat-lt-SIZE
returns-then-seat-lt-SIZE c =
    let tested = c in
    c.blank.ensures ∙ if_short tested.args.seat.now tested.if-seat-lt-SIZE.true _ _

-- the part is as long as the cells
pub put-requires : goal.put-requires
put-requires c =
    let made = c in
    let tested = made in
    let seat = tested.args.seat.now in
    omega (arith, words_size seat tested.if-seat-lt-SIZE.false, ap length made.blank-words.ensures)

pub returns : goal.returns
returns c =
    let lent = c in
    let made = lent in
    let tested = made in
    let seat = tested.args.seat.now in
    let long = tested.if-seat-lt-SIZE.false in
    c.put.ensures ∙ all made.blank-words.result (words_in seat) (words_size seat long ∙ sym (ap length made.blank-words.ensures))
    ∙ if_long seat long _ _
