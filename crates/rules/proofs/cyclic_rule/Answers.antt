use native.Mathlib.Omega.{arith}
use Rattle.rules.specs.Rules.{cyclic_rule_at, index_of, blank_cyclic}
use Rattle.rules.specs.Word as word
use Rattle.rules.proofs.Places.{cyclic-at, two_at, two_past}
use Rattle.rules.proofs.cyclic_rule.Goals as goal

pub returns-then-i-lt2 : goal.returns-then-i-lt2
returns-then-i-lt2 c =
    let inside = c in
    let a = inside.args in
    let w = a.words.now in
    simp (
      c.index.ensures.0,
      cyclic-at w a.place,
      two_at (λ i. cyclic_rule_at w (word.cyclic_rule_from (index_of a.place) i)) blank_cyclic a.i inside.if-i-lt2.true,
    )

pub returns : goal.returns
returns c =
    let a = c.args in
    let w = a.words.now in
    simp (cyclic-at w a.place, two_past (λ i. cyclic_rule_at w (word.cyclic_rule_from (index_of a.place) i)) blank_cyclic a.i c.if-i-lt2.false)

pub bounds-words-at : goal.bounds-words-at
bounds-words-at c = omega arith

pub bounds-words-at-then-i-lt2 : goal.bounds-words-at-then-i-lt2
bounds-words-at-then-i-lt2 c = omega arith
