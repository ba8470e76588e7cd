use mathlib.Core.Path.{refl, sym, ap}
use Prim.Native.Nat.{ℕ}
use lib.ListN.{take}
use lib.Seq.{length-take-le}
use Rattle.pieces.specs.Pieces.{before}
use Rattle.pieces.proofs.before.Goals as goal

pub slice_bounds-result-end : goal.slice_bounds-result-end
slice_bounds-result-end c =
    let call = c in
    sym (length-take-le call.place_of-at.result call.args.text.now call.place_of-at.ensures.1)

pub returns : goal.returns
unfolding before
returns c =
    let call = c in
    (ap (λ (k : ℕ). take k call.args.text.now) call.place_of-at.ensures.0, refl)
