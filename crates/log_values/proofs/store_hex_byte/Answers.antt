use Rattle.log_values.proofs.Stores.{put_in}
use Rattle.log_values.proofs.store_hex_byte.Goals as goal

pub returns : goal.returns
returns c =
    let put = c in
    let lower = put in
    let upper = lower in
    let start = upper in
    let a = start.args in
    simp (← lower.lower_digit.ensures, ← upper.upper_digit.ensures)
    (put_in a.room.now _ a.at start.requires put.put.ensures.0 put.put.ensures.1)
