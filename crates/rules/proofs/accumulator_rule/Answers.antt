use Prim.Native.Nat.{ℕ, ◌+◌, ◌*◌}
use Rattle.rules.specs.declared.AccumulatorRule.{AccumulatorRule}
use Rattle.rules.specs.Rules.{profile_of, profile_base, accumulator_at, blank_accumulator}
use Rattle.rules.specs.Word as word
use Rattle.rules.proofs.Places.{profile-at, four-at, four-past}
use Rattle.rules.proofs.accumulator_rule.Goals as goal

pub returns-then-i-lt4 : goal.returns-then-i-lt4
unfolding profile_of
returns-then-i-lt4 c =
    let a = c.args in
    let w = a.words.now in
    let rule : ℕ → AccumulatorRule = λ i. accumulator_at w (profile_base a.place + word.accumulators + word.rule_length * i) in
    simp (
      c.accumulator.ensures,
      c.base.ensures.0,
      profile-at w a.place,
      four-at rule blank_accumulator a.i c.if-i-lt4.true,
    )

pub returns : goal.returns
unfolding profile_of
returns c =
    let a = c.args in
    let w = a.words.now in
    let rule : ℕ → AccumulatorRule = λ i. accumulator_at w (profile_base a.place + word.accumulators + word.rule_length * i) in
    simp (profile-at w a.place, four-past rule blank_accumulator a.i c.if-i-lt4.false)
