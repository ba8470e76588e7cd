use borrow.Author.Rules.{rules}
use lib.ListN.{length, get_or-eq_default}
use mathlib.Core.Path.{◌≡◌}
use native.Mathlib.Omega.{arith}
use Prim.Native.Nat.{◌+◌, ◌≤◌}
use Rattle.wire.specs.Wire.{byte}
use Rattle.calendar.specs.Calendar.{date_at}
use Rattle.calendar.proofs.date_at.Goals as goal

pub returns-then-at-s : goal.returns-then-at-s
unfolding date_at
returns-then-at-s c = simp (c.byte_at-then-at-s-2.ensures, c.byte_at-then-at-s.ensures, c.byte_at.ensures)

pub returns-else-at-s : goal.returns-else-at-s
unfolding date_at
returns-else-at-s c =
    let a = c.args in
    let s = a.s.now in
    let h : length s ≤ a.at = c.if-at-s.false in
    let y : byte s a.at ≡ 0 = get_or-eq_default s 0 h in
    let m : byte s (a.at + 1) ≡ 0 = get_or-eq_default s 0 (omega arith) in
    let d : byte s (a.at + 2) ≡ 0 = get_or-eq_default s 0 (omega arith) in
    simp (y, m, d)
