use mathlib.Core.Bool.{Bool, true, false}
use mathlib.Core.Path.{◌≡◌, refl, sym}
use Prim.Native.Nat.{ℕ, ◌+◌, ◌-◌, ◌≤◌}
use native.Mathlib.Omega.{arith}
use borrow.Author.Tests.{leb-true, leb-false, le-leb, lt-leb}
use lib.Dec.{leb}
use Rattle.record_lines.specs.RecordLines.{longest, has_room}
use Rattle.record_lines.proofs.has_room.Goals as goal

left : (bytes at : ℕ) → at ≤ bytes → leb longest (bytes - at) ≡ has_room bytes at
left bytes at h = by (leb longest (bytes - at)) refl where
  by : (b : Bool) → leb longest (bytes - at) ≡ b → b ≡ has_room bytes at
  by true e = let fits = leb-true longest (bytes - at) e in sym (le-leb (at + longest) bytes (omega arith))
  by false e = let full = leb-false longest (bytes - at) e in sym (lt-leb (at + longest) bytes (omega arith))

pub returns-then-bytes-at : goal.returns-then-bytes-at
returns-then-bytes-at c = let a = c.args in sym (lt-leb (a.at + longest) a.bytes (omega arith))

pub returns : goal.returns
returns c = left _ _ c.if-bytes-at.false
