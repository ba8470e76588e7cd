-- A product of two bytes is below 65,026.
use mathlib.Core.Path.{ap}
use native.Mathlib.Omega.{arith}
use Prim.Native.Nat.{ℕ, ◌+◌, ◌*◌}
use Rattle.fields.proofs.Facts.{product}
use Rattle.fields.proofs.block_place.Goals as goal

pub overflow_mul-result : goal.overflow_mul-result
overflow_mul-result c = let small = product c.args.i c.byte_at.result (omega arith) (omega arith) in omega arith

pub overflow_add-result : goal.overflow_add-result
overflow_add-result c = let small = product c.args.i c.byte_at.result (omega arith) (omega arith) in omega arith

pub returns : goal.returns
returns c =
    let small = product c.args.i c.byte_at.result (omega arith) (omega arith) in
    (ap (λ (l : ℕ). 4 + c.args.i * l) c.byte_at.ensures, omega arith)
