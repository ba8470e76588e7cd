use Prim.Native.Nat.{◌+◌, ◌%◌}
use mathlib.Core.Path.{sym}
use lib.ListN.{get_or}
use Rattle.rules.specs.Rules.{rules_of}
use Rattle.rules.specs.Word as word
use Rattle.rules.proofs.Places.{four-at, four-past}
use Rattle.rules.proofs.currency.Goals as goal

pub returns-then-i-lt4 : goal.returns-then-i-lt4
unfolding rules_of
returns-then-i-lt4 c =
    let a = c.args in
    sym (four-at (λ i. get_or a.words.now (word.currencies + i) 0 % 65536) 0 a.i c.if-i-lt4.true)

pub returns-else-i-lt4 : goal.returns-else-i-lt4
unfolding rules_of
returns-else-i-lt4 c =
    let a = c.args in
    sym (four-past (λ i. get_or a.words.now (word.currencies + i) 0 % 65536) 0 a.i c.if-i-lt4.false)
