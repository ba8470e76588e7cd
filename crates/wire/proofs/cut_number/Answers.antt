use mathlib.Core.Path.{◌≡◌, refl, sym, ap, ◌∙◌}
use Prim.Native.Nat.{ℕ, ◌+◌, ◌-◌, ◌^◌, ◌≤◌, ◌<◌}
use native.Mathlib.Nat.{pow-suc, pow-le-pow_right, one-le-pow}
use native.Mathlib.Numerals.{add-one}
use native.Mathlib.Omega.{arith}
use lib.Dec.{lit<}
use lib.ListN.{length, take, drop, get_or-eq_default}
use lib.Seq.{take_all}
use mathlib.Core.List.{List}
use Rattle.std.proofs.Common.{length-drop}
use Rattle.std.proofs.lemmas.List.{get_or-drop}
use borrow.Author.Rules.{rules}
use Rattle.wire.specs.Wire.{byte, number}
use Rattle.wire.proofs.Numbers.{past}
use Rattle.wire.proofs.cut_number.Goals as goal

-- before the eighth byte a number is small
small : (k : ℕ) → k < 8 → 256 ^ k ≤ 72_057_594_037_927_936
small k h = pow-le-pow_right (lit< tt) {i = k} {j = 7} (omega arith)

-- the bytes that are left are all those behind the place
rest : (s : List ℕ) (at : ℕ) → take (length s - at) (drop at s) ≡ drop at s
rest s at = take_all (length s - at) (drop at s) (omega (arith, length-drop at s))

pub returns-then-s-at : goal.returns-then-s-at
returns-then-s-at c = (sym (past _ _ _ c.if-s-at.true), one-le-pow _ 256 (lit< tt))

pub loop-byte-init : goal.loop-byte-init
unfolding number
loop-byte-init c = (refl, search rules)

pub overflow_mul-n : goal.overflow_mul-n
overflow_mul-n c = let bound = small c.loop-byte.byte-index (omega arith) in record { fits = omega arith }

pub overflow_add-n : goal.overflow_add-n
overflow_add-n c = let bound = small c.loop-byte.byte-index (omega arith) in record { fits = omega arith }

pub loop-byte-preserved : goal.loop-byte-preserved
unfolding number
loop-byte-preserved c =
    let at-loop = c.loop-byte in
    let s = c.args.s.now in
    let here : c.from.result ≡ byte s (c.args.at + at-loop.byte-index) =
    c.from.ensures ∙ rw (rest s c.args.at) (get_or-drop c.args.at s at-loop.byte-index 0) in
    (rw add-one (omega (arith, at-loop.invariant.0, here)), rw add-one (omega (arith, pow-suc 256 at-loop.byte-index)))

pub loop-init : goal.loop-init
loop-init c =
    let at-loop = c.loop-byte in
    let args = c.args in
    let all : at-loop.byte-index ≡ length args.s.now - args.at =
    omega (arith, ap length (rest args.s.now args.at), length-drop args.at args.s.now) in
    (rw all at at-loop.invariant.0, rw all at at-loop.invariant.1, omega arith, omega arith)

pub overflow_mul-n-in-loop : goal.overflow_mul-n-in-loop
overflow_mul-n-in-loop c = let bound = small c.loop.counter (omega arith) in record { fits = omega arith }

pub loop-preserved : goal.loop-preserved
unfolding number
loop-preserved c =
    let again = c in
    let at-loop = again.loop in
    let left = again in
    let args = left.args in
    let zero : byte args.s.now (args.at + at-loop.counter) ≡ 0 = get_or-eq_default args.s.now 0 at-loop.invariant.3 in
    (rw add-one (omega (arith, at-loop.invariant.0)), rw add-one (omega (arith, pow-suc 256 at-loop.counter)), search rules, search rules)

pub returns : goal.returns
returns c =
    let ended = c in
    let at-loop = ended.loop in
    let left = ended in
    let all : at-loop.counter ≡ left.args.bytes = omega arith in
    (rw all at at-loop.invariant.0, rw all at at-loop.invariant.1)
