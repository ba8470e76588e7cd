-- A figure, a capital, or a small letter.
use borrow.Author.Tests.{le-leb, lt-leb}
use native.Mathlib.Omega.{arith}
use Rattle.words.proofs.Said.{kinds}
use Rattle.words.proofs.hex_value.Goals as goal

pub overflow_sub-result : goal.overflow_sub-result
overflow_sub-result c = let digit = kinds c.args.c c.requires in omega arith

pub returns-then-c-le57 : goal.returns-then-c-le57
returns-then-c-le57 c = (simp (le-leb _ _ c.if-c-le57.true), omega arith)

pub overflow_sub-result-then-c-le70 : goal.overflow_sub-result-then-c-le70
overflow_sub-result-then-c-le70 c = let capital = (kinds c.args.c c.requires).capital c.if-c-le57.false in omega arith

pub returns-then-c-le70 : goal.returns-then-c-le70
returns-then-c-le70 c =
    let capital = (kinds c.args.c c.requires).capital c.if-c-le57.false in
    (simp (lt-leb _ _ c.if-c-le57.false, le-leb _ _ c.if-c-le70.true) (omega arith), omega arith)

pub overflow_sub-result-2 : goal.overflow_sub-result-2
overflow_sub-result-2 c = let small = (kinds c.args.c c.requires).small c.if-c-le70.false in omega arith

pub returns : goal.returns
returns c =
    let digit = kinds c.args.c c.requires in
    let small = digit.small c.if-c-le70.false in
    (simp (lt-leb _ _ c.if-c-le57.false, lt-leb _ _ c.if-c-le70.false) (omega arith), omega arith)
