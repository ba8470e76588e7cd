-- Five fields.
use borrow.Author.Rules.{rules}
use Rattle.text.proofs.Stores.{next}
use Rattle.numerals.proofs.Numerals.{field_fitted}
use Rattle.room_lines.specs.RoomLines.{room_line}
use Rattle.room_lines.proofs.put_room_line.Goals as goal

pub returns : goal.returns
unfolding room_line
returns c =
    let fourth = c in
    let to-fourth = fourth in
    let third = to-fourth in
    let to-third = third in
    let second = to-third in
    let to-second = second in
    let first = to-second in
    let to-first = first in
    let heading = to-first in
    let zero = heading.put_heading-at.ensures in
    let (one, as_one) = field_fitted _ _ _ _ (search rules) first.put_field-at.ensures.0 first.put_field-at.ensures.1 in
    let (two, as-two) = field_fitted _ _ _ _ (search rules) second.put_field-at-2.ensures.0 second.put_field-at-2.ensures.1 in
    let (three, as-three) = field_fitted _ _ _ _ (search rules) third.put_field-at-3.ensures.0 third.put_field-at-3.ensures.1 in
    let (four, as-four) = field_fitted _ _ _ _ (search rules) fourth.put_field.ensures.0 fourth.put_field.ensures.1 in
    next zero (next one (next two (next three four)))
