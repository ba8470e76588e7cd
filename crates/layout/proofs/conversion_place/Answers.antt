use borrow.Author.Rules.{rules}
use borrow.Author.Tests.{lt-ltb, le-ltb}
use Rattle.layout.proofs.conversion_place.Goals as goal

pub returns-then-i-byte_at : goal.returns-then-i-byte_at
returns-then-i-byte_at c =
    let from = c.conversion_from.ensures in
    (rw (← c.byte_at.ensures) (simp (from.0, lt-ltb _ _ c.if-i-byte_at.true)), from.1)

pub returns-else-i-byte_at : goal.returns-else-i-byte_at
returns-else-i-byte_at c = (rw (← c.byte_at.ensures) (simp (le-ltb _ _ c.if-i-byte_at.false)), search rules)
