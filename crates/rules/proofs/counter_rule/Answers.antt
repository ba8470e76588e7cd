use Prim.Native.Nat.{ℕ, ◌+◌, ◌*◌}
use Rattle.rules.specs.declared.CounterRule.{CounterRule}
use Rattle.rules.specs.Rules.{profile_of, profile_base, counter_at, blank_counter}
use Rattle.rules.specs.Word as word
use Rattle.rules.proofs.Places.{profile-at, four-at, four-past}
use Rattle.rules.proofs.counter_rule.Goals as goal

pub returns-then-i-lt4 : goal.returns-then-i-lt4
unfolding profile_of
returns-then-i-lt4 c =
    let a = c.args in
    let w = a.words.now in
    let rule : ℕ → CounterRule = λ i. counter_at w (profile_base a.place + word.counters + word.rule_length * i) in
    simp (
      c.counter.ensures,
      c.base.ensures.0,
      profile-at w a.place,
      four-at rule blank_counter a.i c.if-i-lt4.true,
    )

pub returns : goal.returns
unfolding profile_of
returns c =
    let a = c.args in
    let w = a.words.now in
    let rule : ℕ → CounterRule = λ i. counter_at w (profile_base a.place + word.counters + word.rule_length * i) in
    simp (profile-at w a.place, four-past rule blank_counter a.i c.if-i-lt4.false)
