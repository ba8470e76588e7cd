use Prim.Native.Nat.{◌-◌, ◌≤◌}
use native.Mathlib.Omega.{arith}
use lib.ListN.{length, drop, drop_of_length-le, length-drop}
use lib.Seq.{take_all, take-nil}
use Rattle.put_forms.proofs.bytes_behind.Goals as goal

pub returns-then-bytes-count : goal.returns-then-bytes-count
returns-then-bytes-count c =
    let bytes = c.args.bytes.now in
    let count = c.args.count in
    let past : length bytes ≤ count = omega arith in
    let end : length bytes ≤ length bytes = omega arith in
    rw (drop_of_length-le bytes past, drop_of_length-le bytes end) (take-nil (length bytes - length bytes))

pub returns : goal.returns
returns c =
    let bytes = c.args.bytes.now in
    let count = c.args.count in
    take_all (length bytes - count) (drop count bytes) (rw (length-drop count bytes) (omega arith))
