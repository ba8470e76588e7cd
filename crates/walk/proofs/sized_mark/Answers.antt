use borrow.Author.Tests.{ne_eqb, leb-true}
use mathlib.Core.Bool.{and-false}
use native.Mathlib.Omega.{arith}
use Rattle.forms.specs.Grammar.{is_sized}
use Rattle.walk.specs.Marks.{mark_of}
use Rattle.walk.proofs.Digits.{no_size, size_right}
use Rattle.walk.proofs.sized_mark.Goals as goal

pub returns-then-digit : goal.returns-then-digit
unfolding mark_of is_sized
returns-then-digit c = simp (no_size c.args.digit c.if-digit.true, and-false)

pub overflow_sub-size : goal.overflow_sub-size
overflow_sub-size c =
    let d = c.args.digit in
    let low = leb-true 49 d (size_right d c.if-digit.false).0 in
    omega arith

pub returns-in-78 : goal.returns-in-78
unfolding mark_of is_sized
returns-in-78 c =
    let (low, high) = size_right c.args.digit c.if-digit.false in
    simp (c.in-78.is, low, high)

pub returns-in-72 : goal.returns-in-72
unfolding mark_of is_sized
returns-in-72 c =
    let (low, high) = size_right c.args.digit c.if-digit.false in
    simp (c.in-72.is, low, high)

pub returns-in-123 : goal.returns-in-123
unfolding mark_of is_sized
returns-in-123 c =
    let (low, high) = size_right c.args.digit c.if-digit.false in
    simp (c.in-123.is, low, high)

pub returns-in_default : goal.returns-in_default
unfolding mark_of is_sized
returns-in_default c =
    let l = c.args.letter in
    simp (ne_eqb l 78 (λ z. omega arith), ne_eqb l 72 (λ z. omega arith), ne_eqb l 123 (λ z. omega arith), and-false)
