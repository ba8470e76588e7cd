use Rattle.text.proofs.Stores.{next}
use Rattle.room_lines.specs.RoomLines.{room_lines}
use Rattle.room_lines.proofs.store_rooms.Goals as goal

pub returns : goal.returns
unfolding room_lines
returns c =
    let fourth = c in
    let to-fourth = fourth in
    let third = to-fourth in
    let to-third = third in
    let second = to-third in
    let to-second = second in
    let first = to-second in
    next (next (next first.put_place-at.ensures second.put_place-at-2.ensures) third.put_place-at-3.ensures) fourth.put_place.ensures
