-- A byte has three digits at most.
use mathlib.Core.List.{[], ◌∷◌}
use native.Mathlib.Omega.{arith}
use lib.ListN.{length-append}
use Rattle.text.proofs.Stores.{next}
use Rattle.numerals.specs.Numeral.{numeral}
use Rattle.numerals.proofs.Numerals.{size_below, stored}
use Rattle.log_values.proofs.Stores.{put_in}
use Rattle.log_lines.proofs.Stores.{same_size, as_long}
use Rattle.log_lines.proofs.put_heading.Goals as goal

pub returns : goal.returns
returns c =
    let space = c in
    let to_space = space in
    let number = to_space in
    let to_number = number in
    let word = to_number in
    let start = word in
    let a = start.args in
    let k = a.k in
    let pre = start.requires in
    let few = size_below k 2 (omega arith) in
    let first = put_in a.room.now _ a.at (omega arith) word.put-at.ensures.0 word.put-at.ensures.1 in
    let size = same_size first in
    let second = stored _ _ k (omega (arith, size, first.short, pre)) number.put_number-at.ensures.0 number.put_number-at.ensures.1 in
    let third = put_in _ _ _ (omega (arith, same_size second, size, second.short, first.short, pre, few)) space.put.ensures.0 space.put.ensures.1 in
    as_long (next first (next second third)) (omega (arith, length-append (numeral k) (32 ∷ [])))
