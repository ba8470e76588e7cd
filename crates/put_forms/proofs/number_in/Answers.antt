use borrow.Author.Rules.{rules}
use mathlib.Core.Path.{◌≡◌, refl, sym, ap, ap₂, ◌∙◌}
use Prim.Native.Nat.{ℕ, ◌+◌, ◌*◌, ◌^◌, ◌≤◌, ◌<◌}
use native.Mathlib.Nat.{pow-suc, pow-le-pow_right, zero-add}
use native.Mathlib.Numerals.{add-one}
use native.Mathlib.Omega.{arith}
use lib.Dec.{lit<}
use Rattle.wire.specs.Wire.{byte, number}
use Rattle.put_forms.proofs.number_in.Goals as goal

-- before the eighth byte a number is small
small : (k : ℕ) → k < 8 → 256 ^ k ≤ 72_057_594_037_927_936
small k h = pow-le-pow_right (lit< tt) {i = k} {j = 7} (omega arith)

pub loop-i-init : goal.loop-i-init
unfolding number
loop-i-init c = (refl, search rules, search rules)

pub overflow_mul-n : goal.overflow_mul-n
overflow_mul-n c = let bound = small c.loop-i.i (omega arith) in record { fits = omega arith }

pub overflow_add-n : goal.overflow_add-n
overflow_add-n c =
    let bound = small c.loop-i.i (omega arith) in
    record { fits = omega arith }

pub loop-i-preserved : goal.loop-i-preserved
unfolding number
loop-i-preserved c =
    let s = c.args.bytes.now in
    let i = c.loop-i.i in
    let low = c.wide.ensures.0 ∙ c.byte_at.ensures ∙ ap (byte s) (sym (zero-add i)) in
    let more = pow-suc 256 i in
    (rw (add-one i) (ap₂ (λ (h l : ℕ). h * 256 + l) c.loop-i.invariant.0 low), rw (add-one i) (omega arith), search rules)

pub returns : goal.returns
returns c =
    let all : c.loop-i.i ≡ c.args.count = omega arith in
    c.loop-i.invariant.0 ∙ ap (number c.args.bytes.now 0) all
