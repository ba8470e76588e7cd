use Prim.Native.Nat.{◌+◌, ◌%◌}
use mathlib.Core.Path.{sym}
use lib.ListN.{get_or}
use Rattle.rules.specs.Rules.{rules_of}
use Rattle.rules.specs.Word as word
use Rattle.rules.proofs.Places.{eight-at, eight-past}
use Rattle.rules.proofs.control.Goals as goal

pub returns-then-i-lt8 : goal.returns-then-i-lt8
unfolding rules_of
returns-then-i-lt8 c =
    let a = c.args in
    sym (eight-at (λ i. get_or a.words.now (word.controls + i) 0 % 256) 0 a.i c.if-i-lt8.true)

pub returns-else-i-lt8 : goal.returns-else-i-lt8
unfolding rules_of
returns-else-i-lt8 c =
    let a = c.args in
    sym (eight-past (λ i. get_or a.words.now (word.controls + i) 0 % 256) 0 a.i c.if-i-lt8.false)
