use native.Mathlib.Omega.{arith}
use mathlib.Core.Path.{sym}
use Prim.Native.Nat.{◌+◌}
use lib.Seq.{take_all, length-take-le}
use Rattle.wire.specs.Wire.{byte}
use Rattle.selection.proofs.first_entry.Goals as goal

pub slice_bounds-result-end : goal.slice_bounds-result-end
slice_bounds-result-end c = sym (length-take-le _ _ c.if-end-file.true)

pub returns-then-end-file : goal.returns-then-end-file
returns-then-end-file c = rw c.byte_at.ensures

pub returns : goal.returns
returns c = let s = c.args.file.now in sym (take_all (byte s 0 + 1) s (omega arith))
