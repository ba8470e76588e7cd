use native.Mathlib.Omega.{arith}
use native.Mathlib.Nat.{le_refl}
use mathlib.Core.Path.{sym, ◌∙◌}
use Prim.Native.Nat.{◌+◌, ◌-◌}
use lib.ListN.{length, drop, length-drop, drop_of_length-le}
use lib.Seq.{take_all}
use Rattle.wire.specs.Wire.{byte}
use Rattle.selection.proofs.entries_below.Goals as goal

pub returns-then-end-file : goal.returns-then-end-file
returns-then-end-file c =
    let s = c.args.file.now in
    let end = c.byte_at.result + 1 in
    take_all (length s - end) (drop end s) (simp length-drop (le_refl _)) ∙ rw c.byte_at.ensures

pub returns : goal.returns
returns c =
    let s = c.args.file.now in
    sym (drop_of_length-le s {i = byte s 0 + 1} (omega arith))
