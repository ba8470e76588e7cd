use native.Mathlib.Omega.{arith}
use mathlib.Core.Path.{◌≡◌, sym, ap, ◌∙◌}
use Prim.Native.Nat.{ℕ}
use lib.ListN.{length, take, replicate, length-replicate}
use lib.Seq.{length-take-le}
use Rattle.text.proofs.Stores.{within}
use Rattle.sheet_lines.proofs.Padded.{some_of}
use Rattle.sheet_lines.proofs.put_spaces.Goals as goal

pub slice_bounds-put_text-end : goal.slice_bounds-put_text-end
slice_bounds-put_text-end c =
    let known = c in
    let start = known in
    let all : length start.args.spaces.now ≡ 20 = ap length start.requires.2 in
    sym (length-take-le start.args.count start.args.spaces.now (omega (arith, start.requires.0)))

pub put_text-requires : goal.put_text-requires
put_text-requires c =
    let known = c in
    let start = known in
    let all : length start.args.spaces.now ≡ 20 = ap length start.requires.2 in
    let some = length-take-le start.args.count start.args.spaces.now (omega (arith, start.requires.0)) in
    omega (arith, some, start.requires.1)

pub returns : goal.returns
returns c =
    let put = c in
    let known = put in
    let start = known in
    let spaces : take start.args.count start.args.spaces.now ≡ replicate start.args.count 32 =
    ap (λ l. take start.args.count l) start.requires.2 ∙ some_of start.args.count 20 32 start.requires.0 in
    within (rw spaces at put.put_text.ensures) (omega (arith, length-replicate {A = ℕ} start.args.count 32))
