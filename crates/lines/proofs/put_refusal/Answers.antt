-- Room, or none.
use borrow.Author.Rules.{rules}
use lib.Dec.{lit≤}
use native.Mathlib.Omega.{arith}
use Rattle.lines.proofs.Stores.{place, stay}
use Rattle.lines.proofs.put_refusal.Goals as goal

pub returns-then-bytes_left-lt-LONGEST : goal.returns-then-bytes_left-lt-LONGEST
returns-then-bytes_left-lt-LONGEST c =
    let a = c.args in
    stay a.room.now _ a.at (omega arith)

pub returns : goal.returns
returns c = place c.store_refusal.ensures (lit≤ tt) (omega arith)
