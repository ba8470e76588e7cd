use borrow.Author.Rules.{rules}
use borrow.Author.Tests.{lt-ltb, le-ltb}
use native.Mathlib.Omega.{arith}
use Rattle.layout.proofs.profile_place.Goals as goal

pub returns-then-i-byte_at : goal.returns-then-i-byte_at
returns-then-i-byte_at c =
    (rw (← c.byte_at.ensures) (simp (c.profile_from.ensures, lt-ltb _ _ c.if-i-byte_at.true)), omega arith)

pub returns-else-i-byte_at : goal.returns-else-i-byte_at
returns-else-i-byte_at c = (rw (← c.byte_at.ensures) (simp (le-ltb _ _ c.if-i-byte_at.false)), search rules)
