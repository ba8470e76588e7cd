-- The bytes stand at the place if it is no further on than as many before the end.
use borrow.Author.Tests.{le-leb, lt-leb, leb-true, leb-false}
use mathlib.Core.Bool.{Bool, true, false}
use mathlib.Core.Path.{◌≡◌, refl, sym}
use native.Mathlib.Omega.{arith}
use lib.Dec.{leb}
use Prim.Native.Nat.{ℕ, ◌+◌, ◌-◌, ◌≤◌, ◌<◌}
use Rattle.wire.proofs.holds.Goals as goal

short : (at bytes size : ℕ) → size < bytes → false ≡ leb (at + bytes) size
short at bytes size h = let l : size < at + bytes = omega arith in sym (lt-leb (at + bytes) size l)

up_to_lem : (at bytes size : ℕ) → bytes ≤ size → leb at (size - bytes) ≡ leb (at + bytes) size
up_to_lem at bytes size h = by (leb at (size - bytes)) refl where
  by : (b : Bool) → leb at (size - bytes) ≡ b → b ≡ leb (at + bytes) size
  by true e =
      let l = leb-true at (size - bytes) e in
      let there : at + bytes ≤ size = omega arith in
      sym (le-leb (at + bytes) size there)
  by false e =
      let l = leb-false at (size - bytes) e in
      let over : size < at + bytes = omega arith in
      sym (lt-leb (at + bytes) size over)

pub returns-then-s-bytes : goal.returns-then-s-bytes
returns-then-s-bytes c = short _ _ _ c.if-s-bytes.true

pub returns : goal.returns
returns c = up_to_lem _ _ _ c.if-s-bytes.false
