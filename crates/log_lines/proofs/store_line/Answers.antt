use native.Mathlib.Omega.{arith}
use Rattle.text.proofs.Stores.{next}
use Rattle.log_lines.specs.LogLines.{log_line}
use Rattle.log_values.proofs.Stores.{put_in}
use Rattle.log_lines.proofs.Stores.{same_size}
use Rattle.log_lines.proofs.store_line.Goals as goal

pub returns : goal.returns
unfolding log_line
returns c =
    let mark = c in
    let to_values = mark in
    let values = to_values in
    let to-heading = values in
    let heading = to-heading in
    let start = heading in
    let pre = start.requires in
    let first = heading.put_heading-at.ensures in
    let second = values.put_values-at.ensures in
    let third = put_in _ _ _ (omega (arith, same_size first, same_size second, first.short, second.short, pre)) mark.put.ensures.0 mark.put.ensures.1 in
    next first (next second third)
