use borrow.Author.Rules.{rules}
use borrow.Author.Tests.{tests}
use mathlib.Core.Path.{◌≡◌, sym, ap, ◌∙◌}
use mathlib.Core.Bool.{true, false}
use Prim.Native.Nat.{◌+◌, ◌*◌, ◌-◌, ◌^◌, ◌≤◌}
use native.Mathlib.Omega.{arith}
use lib.ListN.{length, drop, get_or, drop_of_length-le}
use Rattle.words.specs.Words.{is_digit}
use Rattle.words.proofs.Reading.{reads_from, begin, none, bad, good, large, end, on}
use Rattle.words.proofs.number_in.Goals as goal

pub returns-then-is_empty : goal.returns-then-is_empty
returns-then-is_empty c = sym (none _ (search (rules, tests)))

pub loop-c-init : goal.loop-c-init
loop-c-init c = (begin _ (search (rules, tests)), omega arith)

pub returns-then-not-is_ascii_digit : goal.returns-then-not-is_ascii_digit
returns-then-not-is_ascii_digit c =
    let w = c.args.word.now in
    let n = c.loop-c.n in
    let i = c.loop-c.c-index in
    let no : is_digit (get_or w i 0) ≡ false = search (rules, tests) in
    sym (c.loop-c.invariant.0 ∙ ap (reads_from n) (on w i (omega arith)) ∙ bad n (get_or w i 0) (drop (i + 1) w) no)

pub returns-in_err-checked_mul : goal.returns-in_err-checked_mul
returns-in_err-checked_mul c =
    let w = c.args.word.now in
    let n = c.loop-c.n in
    let i = c.loop-c.c-index in
    let d = get_or w i 0 in
    let yes : is_digit d ≡ true = search (rules, tests) in
    let over : 2 ^ 64 ≤ n * 10 = omega (arith, c.in_err-checked_mul.ensures) in
    c.from_residual.ensures ∙ sym (c.loop-c.invariant.0 ∙ ap (reads_from n) (on w i (omega arith)) ∙ good n d (drop (i + 1) w) yes ∙ large (n * 10 + (d - 48)) (drop (i + 1) w) (omega arith))

pub returns-in_err-n : goal.returns-in_err-n
returns-in_err-n c =
    let w = c.args.word.now in
    let n = c.loop-c.n in
    let i = c.loop-c.c-index in
    let d = get_or w i 0 in
    let yes : is_digit d ≡ true = search (rules, tests) in
    let over : 2 ^ 64 ≤ n * 10 + (d - 48) = omega (arith, c.in_ok-checked_mul.ensures, c.in_err-n.ensures) in
    c.from_residual-in_err-n.ensures ∙ sym (c.loop-c.invariant.0 ∙ ap (reads_from n) (on w i (omega arith)) ∙ good n d (drop (i + 1) w) yes ∙ large (n * 10 + (d - 48)) (drop (i + 1) w) (omega arith))

pub loop-c-preserved : goal.loop-c-preserved
loop-c-preserved c =
    let w = c.args.word.now in
    let n = c.loop-c.n in
    let i = c.loop-c.c-index in
    let d = get_or w i 0 in
    let yes : is_digit d ≡ true = search (rules, tests) in
    let value : c.in_ok-n.n ≡ n * 10 + (d - 48) = omega (arith, c.in_ok-checked_mul.ensures, c.in_ok-n.ensures) in
    (c.loop-c.invariant.0 ∙ ap (reads_from n) (on w i (omega arith)) ∙ good n d (drop (i + 1) w) yes ∙ ap (λ v. reads_from v (drop (i + 1) w)) (sym value), omega arith)

pub returns : goal.returns
returns c =
    let w = c.args.word.now in
    let n = c.loop-c.n in
    let past : length w ≤ c.loop-c.c-index = omega arith in
    sym (c.loop-c.invariant.0 ∙ ap (reads_from n) (drop_of_length-le w past) ∙ end n (omega arith))
