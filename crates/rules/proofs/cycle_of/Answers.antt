use native.Mathlib.Omega.{arith}
use mathlib.Core.Path.{sym}
use Rattle.rules.specs.Rules.{rules_of, cycle_at, blank_cycle}
use Rattle.rules.specs.Word as word
use Rattle.rules.proofs.Places.{two_at, two_past}
use Rattle.rules.proofs.cycle_of.Goals as goal

pub returns-then-i-lt2 : goal.returns-then-i-lt2
unfolding rules_of
returns-then-i-lt2 c =
    let read = c in
    let inside = read in
    let a = inside.args in
    let w = a.words.now in
    simp read.period.ensures (sym (two_at (λ i. cycle_at w (word.cycle_from i)) blank_cycle a.i inside.if-i-lt2.true))

pub returns : goal.returns
unfolding rules_of
returns c =
    let a = c.args in
    let w = a.words.now in
    sym (two_past (λ i. cycle_at w (word.cycle_from i)) blank_cycle a.i c.if-i-lt2.false)

pub bounds-words-at : goal.bounds-words-at
bounds-words-at c = omega arith

pub bounds-words-at-then-i-lt2 : goal.bounds-words-at-then-i-lt2
bounds-words-at-then-i-lt2 c = omega arith

pub bounds-words-at-then-i-lt2-2 : goal.bounds-words-at-then-i-lt2-2
bounds-words-at-then-i-lt2-2 c = omega arith
