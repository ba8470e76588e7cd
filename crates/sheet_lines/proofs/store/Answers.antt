use borrow.Author.Rules.{rules}
use mathlib.Core.Path.{◌≡◌}
use Prim.Native.Nat.{◌+◌, ◌*◌}
use native.Mathlib.Numerals.{add-one}
use native.Mathlib.Omega.{arith}
use Rattle.text.proofs.Stores.{next}
use Rattle.sheet_lines.specs.SheetLines.{first_lines, sheet_text}
use Rattle.sheet_lines.proofs.store.Goals as goal

pub loop-line-init : goal.loop-line-init
unfolding first_lines
loop-line-init c = search rules

pub loop-line-preserved : goal.loop-line-preserved
unfolding first_lines
loop-line-preserved c =
    let put = c in
    let at-loop = put in
    let line = at-loop.loop-line.line in
    let more : 110 * (line + 1) ≡ 110 * line + 110 = omega arith in
    let stored = next at-loop.loop-line.invariant.0 put.put_line-end.ensures in
    (rw (more, add-one line) stored, search rules, search rules)

pub returns : goal.returns
unfolding sheet_text
returns c =
    let at-loop = c in
    let all : at-loop.loop-line.line ≡ 178 = omega arith in
    rw all at at-loop.loop-line.invariant.0
