use native.Mathlib.Omega.{arith}
use lib.ListN.{length, take, drop, length-take, length-drop}
use mathlib.Core.Path.{◌≡◌, ap}
use Prim.Native.Nat.{◌-◌}
use Rattle.pages.proofs.Inside.{inside}
use Rattle.desk.proofs.turn.Goals as goal

pub returns : goal.returns
returns c =
    let a = c.args in
    let input = take (a.filled - a.at) (drop a.at a.buffer.now) in
    let size : length input ≡ a.filled - a.at = simp (length-take, length-drop) (omega (arith, c.requires)) in
    let taken = (inside (length a.room.now) a.to a.skip a.words.now input).taken in
    omega (arith, size, taken, ap (λ t. t.taken) c.turn.ensures.0, c.requires)
