use borrow.Author.Rules.{rules}
use native.Mathlib.Omega.{arith}
use mathlib.Core.Path.{ap, ◌∙◌}
use Prim.Native.Nat.{◌%◌}
use Rattle.rules.specs.Rules.{rules_of}
use Rattle.marks.proofs.Marks.{marks_low}
use Rattle.cryptogram.specs.Cryptogram.{verification}
use Rattle.cryptogram.proofs.verify.Goals as goal

pub overflow_mul-result-4 : goal.overflow_mul-result-4
unfolding rules_of
overflow_mul-result-4 c = omega arith

pub overflow_add-result-4 : goal.overflow_add-result-4
unfolding rules_of
overflow_add-result-4 c = omega arith

pub overflow_add-result-5 : goal.overflow_add-result-5
unfolding rules_of
overflow_add-result-5 c = omega arith

-- what scripts show leaves the three lowest bits
pub overflow_add-result-6 : goal.overflow_add-result-6
overflow_add-result-6 c = omega (arith, ap (λ n. n % 8) c.marks.ensures ∙ marks_low _)

pub overflow_add-result-7 : goal.overflow_add-result-7
overflow_add-result-7 c = omega (arith, ap (λ n. n % 8) c.marks.ensures ∙ marks_low _)

pub returns : goal.returns
unfolding verification
returns c =
    let fourth = c in
    let second = fourth in
    let codes = second in
    simp (
      c.bit-6.ensures.0,
      c.bit-5.ensures.0,
      c.marks.ensures,
      fourth.bit-4.ensures.0,
      fourth.bit-3.ensures.0,
      second.bit-2.ensures.0,
      second.bit.ensures.0,
      codes.kind_code.ensures.0,
      codes.later_code.ensures.0,
      codes.pin_tries-tries.ensures,
    )
