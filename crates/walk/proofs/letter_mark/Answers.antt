use borrow.Author.Tests.{ne_eqb}
use native.Mathlib.Omega.{arith}
use Rattle.forms.specs.Grammar.{is_sized}
use Rattle.walk.specs.Marks.{mark_of}
use Rattle.walk.proofs.letter_mark.Goals as goal

pub returns-in-82 : goal.returns-in-82
unfolding mark_of is_sized
returns-in-82 c = rw c.in-82.is

pub returns-in-63 : goal.returns-in-63
unfolding mark_of is_sized
returns-in-63 c = rw c.in-63.is

pub returns-in-40 : goal.returns-in-40
unfolding mark_of is_sized
returns-in-40 c = rw c.in-40.is

pub returns-in-41 : goal.returns-in-41
unfolding mark_of is_sized
returns-in-41 c = rw c.in-41.is

pub returns-in-91 : goal.returns-in-91
unfolding mark_of is_sized
returns-in-91 c = rw c.in-91.is

pub returns-in-68 : goal.returns-in-68
unfolding mark_of is_sized
returns-in-68 c = rw c.in-68.is

pub returns-in-67 : goal.returns-in-67
unfolding mark_of is_sized
returns-in-67 c = rw c.in-67.is

pub returns-in_default : goal.returns-in_default
unfolding mark_of is_sized
returns-in_default c =
    let l = c.args.letter in
    simp (
      ne_eqb l 82 (λ z. omega arith),
      ne_eqb l 63 (λ z. omega arith),
      ne_eqb l 40 (λ z. omega arith),
      ne_eqb l 41 (λ z. omega arith),
      ne_eqb l 91 (λ z. omega arith),
      ne_eqb l 68 (λ z. omega arith),
      ne_eqb l 67 (λ z. omega arith),
    )
