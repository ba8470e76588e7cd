use borrow.Author.Rules.{rules}
use mathlib.Core.Path.{◌≡◌}
use native.Mathlib.Omega.{arith}
use Rattle.hex_digits.specs.Hex.{hex}
use Rattle.words.proofs.Puts.{nothing, next}
use Rattle.forms.specs.Form.{bytes_at}
use Rattle.put_forms.proofs.Laws.{hex-next}
use Rattle.put_forms.proofs.put_bytes.Goals as goal

pub loop-i-init : goal.loop-i-init
unfolding hex bytes_at
loop-i-init c = (nothing _ _, search rules, search rules)

pub loop-i-preserved : goal.loop-i-preserved
loop-i-preserved c =
    let s = c.args.bytes.now in
    let i = c.loop-i.i in
    (rw (hex-next s i, ← c.byte_at.ensures) (next c.loop-i.invariant.0 c.put_hex_byte-end.ensures), search rules, search rules)

pub returns : goal.returns
returns c =
    let all : c.loop-i.i ≡ c.args.count = omega arith in
    rw all at c.loop-i.invariant.0
