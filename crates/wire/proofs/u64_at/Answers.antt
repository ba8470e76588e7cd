-- Two halves of four bytes, or a number that the slice's end cuts.
use borrow.Author.Rules.{rules}
use borrow.Author.Tests.{leb-true, leb-false}
use mathlib.Core.Bool.{true}
use mathlib.Core.Path.{◌≡◌, sym, ◌∙◌}
use Prim.Native.Nat.{ℕ, ◌+◌, ◌≤◌}
use lib.Dec.{leb}
use lib.ListN.{length}
use native.Mathlib.Omega.{arith}
use Rattle.wire.proofs.Numbers.{halves}
use Rattle.wire.proofs.u64_at.Goals as goal

first-four : (at size : ℕ) → leb (at + 8) size ≡ true → at + 4 ≤ size
first-four at size h = let eight = leb-true (at + 8) size h in omega arith

last-four : (at size : ℕ) → leb (at + 8) size ≡ true → at + 4 + 4 ≤ size
last-four at size h = let eight = leb-true (at + 8) size h in omega arith

pub four_in-requires : goal.four_in-requires
four_in-requires c = first-four _ _ (sym c.holds.ensures ∙ c.if-holds.true)

pub overflow_add-at : goal.overflow_add-at
overflow_add-at c =
    let test = c in
    let args = test.args in
    let there = first-four args.at (length args.s.now) (sym test.holds.ensures ∙ test.if-holds.true) in
    record { fits = omega arith }

pub four_in-requires-then-holds : goal.four_in-requires-then-holds
four_in-requires-then-holds c = let test = c in last-four _ _ (sym test.holds.ensures ∙ test.if-holds.true)

pub returns-then-holds : goal.returns-then-holds
returns-then-holds c = halves 4 _ _ _ _ c.four_in.ensures c.four_in-then-holds.ensures

pub cut_number-requires : goal.cut_number-requires
cut_number-requires c = (leb-false _ _ (sym c.holds.ensures ∙ c.if-holds.false), search rules)

pub returns : goal.returns
returns c = c.cut_number.ensures.0
