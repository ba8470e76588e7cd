use native.Mathlib.Omega.{arith}
use borrow.Author.Rules.{rules}
use mathlib.Core.Path.{◌≡◌, sym, ap, ◌∙◌}
use mathlib.Core.List.{List}
use Prim.Native.Nat.{ℕ}
use Rattle.rules.specs.Rules.{blank_words}
use Rattle.begun.specs.declared.Begun.{Begun}
use Rattle.opening.specs.Opening.{words_begun}
use Rattle.keeper.specs.Keeper.{rooms_begun}
use Rattle.card_cells.specs.Seat.{stored_in}
use Rattle.seat.specs.Calls.{event_number, open_number, open_cells, fresh_card}
use Rattle.card_cells.proofs.Laws.{same_card, if_long, if_short}
use Rattle.seat.proofs.Laws.{stays, changes}
use Rattle.seat.proofs.comblattice_open.Goals as goal

pub returns-then-seat-lt-SIZE : goal.returns-then-seat-lt-SIZE
unfolding open_number open_cells
returns-then-seat-lt-SIZE c =
    let tested = c in
    let start = tested in
    let cells = start.args.seat.now in
    let number = c.number.ensures ∙ if_short cells tested.if-seat-lt-SIZE.true 7 _ in
    (number, stays _ cells number (λ z. omega (arith, z, c.number.ensures)), λ z. absurd (omega (arith, z, c.number.ensures)))

pub returns-then-refusal-ne0 : goal.returns-then-refusal-ne0
unfolding open_number open_cells
returns-then-refusal-ne0 c =
    let told = c in
    let begun = told in
    let made = begun in
    let tested = made in
    let start = tested in
    let cells = start.args.seat.now in
    let event = told.event_number-refusal.ensures ∙ ap (λ (b : Begun). event_number b.event) begun.begin-begun.ensures.0 in
    let number = event ∙ if_long cells tested.if-seat-lt-SIZE.false 7 _ in
    (number, stays _ cells number c.if-refusal-ne0.true, λ z. absurd (c.if-refusal-ne0.true z))

pub returns : goal.returns
unfolding open_number open_cells fresh_card
returns c =
    let seated = c in
    let lent = seated in
    let taken = lent in
    let told = taken in
    let begun = told in
    let made = begun in
    let tested = made in
    let start = tested in
    let cells = start.args.seat.now in
    let paper = start.args.paper.now in
    let is = begun.begin-begun.ensures in
    let blank = made.blank-words.ensures in
    let event = told.event_number-refusal.ensures ∙ ap (λ (b : Begun). event_number b.event) is.0 in
    let long = tested.if-seat-lt-SIZE.false in
    let number = sym taken.if-refusal-ne0.false ∙ event ∙ if_long cells long 7 _ in
    let words = is.1 ∙ ap (λ (w : List ℕ). words_begun w paper) blank in
    let rooms =
    is.2 ∙ ap (λ (w : List ℕ). rooms_begun w made.none-rooms.result paper) blank ∙ ap (λ (r : List ℕ). rooms_begun blank_words r paper) made.none-rooms.ensures in
    let card = same_card words rooms (ap (λ (b : Begun). b.shape) is.0) (ap (λ (b : Begun). b.state) is.0) in
    let stored = seated.put_card.ensures.0 ∙ sym (if_long cells long cells _) ∙ ap (stored_in cells) card in
    (number, stored ∙ changes _ cells number, λ z. seated.put_card.ensures.1 long ∙ card)
