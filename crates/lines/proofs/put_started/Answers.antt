-- Three fields, or four.
use borrow.Author.Rules.{rules}
use lib.Dec.{lit≤}
use borrow.Author.Tests.{eq-eqb, ne_eqb}
use Rattle.text.proofs.Stores.{next, within}
use Rattle.lines.specs.Lines.{start_line, selected_line}
use Rattle.lines.proofs.put_started.Goals as goal

pub returns-then-visits-eq0 : goal.returns-then-visits-eq0
unfolding start_line
returns-then-visits-eq0 c =
    let atc = c in
    let tested = atc in
    let done = tested in
    let to_number = done in
    let number = to_number in
    let told = next number.put_decimal-at.ensures (next done.put_done-at.ensures atc.put_decimal.ensures) in
    simp (eq-eqb _ _ tested.if-visits-eq0.true) (within told (lit≤ tt))

pub returns : goal.returns
unfolding selected_line
returns c =
    let visits = c in
    let to-atc = visits in
    let atc = to-atc in
    let tested = atc in
    let done = tested in
    let to_number = done in
    let number = to_number in
    let told = next atc.put_decimal-at-2.ensures visits.put_decimal-2.ensures in
    simp (ne_eqb _ _ tested.if-visits-eq0.false) (next number.put_decimal-at.ensures (next done.put_done-at.ensures told))
