-- What is left of the digits, read behind the number of those passed, writes the same.
use mathlib.Core.Path.{◌≡◌}
use Prim.Native.Nat.{◌<◌}
use lib.ListN.{drop}
use Rattle.replies.specs.Replies.{decimal_from}
use Rattle.replies.proofs.decimal_in.Given as goal

abbrev pub invariant-loop-digit : goal.invariant-loop-digit
invariant-loop-digit l = (l.number < 100_000) × (decimal_from 0 l.digits ≡ decimal_from l.number (drop l.digit-index l.digits))
