use borrow.Author.Rules.{rules}
use mathlib.Core.Path.{◌≡◌}
use Prim.Native.Nat.{◌+◌, ◌*◌}
use native.Mathlib.Numerals.{add-one}
use native.Mathlib.Omega.{arith}
use lib.ListN.{length}
use Rattle.text.proofs.Stores.{next}
use Rattle.run_page.specs.RunPage.{hex_first, hex_lines}
use Rattle.run_text.proofs.put_lines.Goals as goal

pub loop-i-init : goal.loop-i-init
unfolding hex_first
loop-i-init c = search rules

pub loop-i-preserved : goal.loop-i-preserved
unfolding hex_first
loop-i-preserved c =
    let i = c.loop-i.i in
    let three : 3 * (i + 1) ≡ 3 * i + 3 = omega arith in
    let more = next c.loop-i.invariant.0 c.put_byte-end.ensures in
    (rw (three, add-one i) more, search rules)

pub returns : goal.returns
unfolding hex_lines
returns c =
    let all : c.loop-i.i ≡ length c.args.bytes.now = omega arith in
    rw all at c.loop-i.invariant.0
