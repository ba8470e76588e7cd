use borrow.Author.Rules.{rules}
use mathlib.Core.Path.{◌≡◌, refl, sym, ap, ap₂, ◌∙◌}
use mathlib.Core.List.{List, ◌∷◌}
use mathlib.Core.Logic.{◌≢◌}
use lib.ListN.{get_or, set}
use Rattle.std.proofs.Common.{get_or-set_other}
use Prim.Native.Nat.{ℕ, suc, ◌+◌, ◌-◌}
use native.Mathlib.Omega.{arith}
use Rattle.sums.specs.Sums.{new, sum_put, sums_from, written}
use Rattle.sums.proofs.Sums.{moved_up, last-put}
use Rattle.sums.proofs.push.Goals as goal

-- a code and a sum put, and what stood there read before
exchanged : (sheet : List ℕ) (at : ℕ) {was code put total sum set_to : ℕ} → was ≡ get_or sheet (394 + at) 0 → put ≡ code
    → total ≡ get_or (set sheet (394 + at) put) (426 + at) 0 → set_to ≡ sum
    → (was ≡ get_or sheet (394 + at) 0) × (total ≡ get_or sheet (426 + at) 0) × (set (set sheet (394 + at) put) (426 + at) set_to ≡ sum_put sheet at (new code sum))
exchanged sheet at {was} {code} {put} {total} {sum} {set_to} p q r t =
    let apart : 426 + at ≢ 394 + at = omega arith in
    (p, r ∙ rw get_or-set_other, rw (q, t))

pub loop-at-init : goal.loop-at-init
loop-at-init c = (search rules, refl)

pub loop-at-preserved : goal.loop-at-preserved
loop-at-preserved c =
    let at-loop = c in
    let now = at-loop.loop-at in
    let count = at-loop.args.count in
    let left : count - now.at ≡ suc (count - (now.at + 1)) = omega arith in
    let moved = now.invariant.1
    ∙ ap (λ m. written now.at (new now.code now.sum ∷ sums_from m now.at now.sheet) now.sheet) left
    ∙ moved_up _ now.at now.sheet _ (omega arith) in
    let same = exchanged now.sheet now.at c.replace-code.ensures.value c.replace-code.ensures.after c.replace-sum.ensures.value c.replace-sum.ensures.after in
    let after = same.2 in
    let code = same.0 in
    let sum = same.1 in
    (search rules, rw (after, code, sum) moved)

pub returns : goal.returns
returns c =
    let at-loop = c in
    let now = at-loop.loop-at in
    let count = at-loop.args.count in
    let all : now.at ≡ count = omega arith in
    let none : count - now.at ≡ 0 = omega arith in
    sym
    (now.invariant.1
    ∙ ap₂ (λ i m. written i (new now.code now.sum ∷ sums_from m i now.sheet) now.sheet) all none
    ∙ last-put count now.sheet (new now.code now.sum))
