use borrow.Author.Rules.{rules}
use native.Mathlib.Omega.{arith}
use Rattle.opening.proofs.family_in.Goals as goal

pub overflow_add-result : goal.overflow_add-result
overflow_add-result c =
    let pre = c.requires in
    let tail = rw c.in-Cpace.is at pre.0 in
    omega (arith, tail.0, tail.1, pre.1)

pub overflow_add-result-in-Cpace : goal.overflow_add-result-in-Cpace
overflow_add-result-in-Cpace c =
    let pre = c.requires in
    let tail = rw c.in-Cpace.is at pre.0 in
    omega (arith, tail.0, tail.1, pre.1)

pub returns-in-Cpa : goal.returns-in-Cpa
returns-in-Cpa c = simp c.in-Cpa.is

pub returns-in-Cpace : goal.returns-in-Cpace
returns-in-Cpace c = simp c.in-Cpace.is
