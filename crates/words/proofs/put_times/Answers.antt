use mathlib.Core.Path.{◌≡◌, sym}
use native.Mathlib.Omega.{arith}
use Rattle.std.proofs.lemmas.List.{replicate-append-replicate}
use Rattle.words.proofs.Puts.{nothing, next}
use Rattle.words.proofs.put_times.Goals as goal

pub loop-init : goal.loop-init
loop-init c = nothing _ _

pub loop-preserved : goal.loop-preserved
loop-preserved c =
    rw (sym (replicate-append-replicate c.loop.counter 1 c.args.byte)) (next c.loop.invariant c.put_byte-end.ensures)

pub returns : goal.returns
returns c =
    let all : c.loop.counter ≡ c.args.count = omega arith in
    rw all at c.loop.invariant
