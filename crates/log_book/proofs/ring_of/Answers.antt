use mathlib.Core.Path.{◌≡◌, sym, ap, ◌∙◌}
use mathlib.Core.List.{List}
use mathlib.Core.Bool.{Bool, true, false}
use Prim.Native.Nat.{ℕ, ◌-◌, ◌<◌}
use native.Mathlib.Omega.{arith}
use lib.ListN.{length, take, drop, length-drop, drop_of_length-le}
use lib.Seq.{take_all}
use Rattle.replies.specs.Replies.{before, behind, is_ending}
use Rattle.log_book.specs.Logbook.{lines_in, ring_by}
use Rattle.log_book.proofs.Cut.{rest-behind, shorter, ended, goes_on_lem}
use Rattle.log_book.proofs.ring_of.Goals as goal

whole : (text : List ℕ) (from : ℕ) → take (length text - from) (drop from text) ≡ drop from text
whole text from = take_all (length text - from) (drop from text) (omega (arith, length-drop from text))

-- what is asked of the first line of the rest
first-line : (text : List ℕ) (from : ℕ) (line : List ℕ) (says b : Bool) → line ≡ before 10 (take (length text - from) (drop from text))
    → says ≡ is_ending line → says ≡ b → is_ending (before 10 (drop from text)) ≡ b
first-line text from line says b is asked told = rw (← whole text from, ← is, ← asked) told

-- what is left behind it is shorter
less : (text : List ℕ) (from : ℕ) (left : List ℕ) → left ≡ behind 10 (take (length text - from) (drop from text)) → from < length text
    → length left < length text - from
less text from left is some =
    let size = length-drop from text in
    rw (is, whole text from, ← size) (shorter (drop from text) (omega (arith, size)))

pub loop-from-init : goal.loop-from-init
loop-from-init c = (rw c.none-ring.ensures, c.requires, omega arith)

pub returns-then-is_ending : goal.returns-then-is_ending
returns-then-is_ending c =
    let asked = c in
    let line = asked in
    let test = line in
    let loop = test.loop-from in
    let until-a = test in
    let a = until-a.args in
    let text = a.text.now in
    let ends = first-line text loop.from _ _ true line.before-line.ensures.0 asked.is_ending.ensures c.if-is_ending.true in
    let some : 0 < length (drop loop.from text) = omega (arith, length-drop loop.from text, test.loop-from-test.true) in
    c.none.ensures ∙ sym (loop.invariant.0 ∙ ended a.logging a.paper.now loop.at (drop loop.from text) loop.ring some ends)

pub overflow_sub-from : goal.overflow_sub-from
overflow_sub-from c =
    let until-test = c in
    let until-test-2 = until-test in
    let test = until-test-2 in
    let until-a = test in
    let a = until-a.args in
    omega (arith, less a.text.now test.loop-from.from _ c.behind.ensures.0 test.loop-from-test.true)

pub loop-from-smaller : goal.loop-from-smaller
loop-from-smaller c =
    let until-test = c in
    let until-test-2 = until-test in
    let test = until-test-2 in
    let until-a = test in
    let a = until-a.args in
    omega (arith, less a.text.now test.loop-from.from _ c.behind.ensures.0 test.loop-from-test.true)

pub loop-from-preserved : goal.loop-from-preserved
loop-from-preserved c =
    let placed = c in
    let watched = placed in
    let asked = watched in
    let line = asked in
    let test = line in
    let loop = test.loop-from in
    let until-a = test in
    let a = until-a.args in
    let text = a.text.now in
    let rest = drop loop.from text in
    let goes = first-line text loop.from _ _ false line.before-line.ensures.0 asked.is_ending.ensures watched.if-is_ending.false in
    let some : 0 < length rest = omega (arith, length-drop loop.from text, test.loop-from-test.true) in
    let on = goes_on_lem a.logging a.paper.now loop.at rest loop.ring some goes in
    let left = c.behind.ensures.0 ∙ ap (behind 10) (whole text loop.from) in
    let said = line.before-line.ensures.0 ∙ ap (before 10) (whole text loop.from) in (
      loop.invariant.0 ∙ on ∙ rw (left, rest-behind text loop.from, placed.place_behind-at.ensures.0, watched.watch_line.ensures, said),
      placed.place_behind-at.ensures.1,
      omega arith,
    )

pub returns : goal.returns
unfolding lines_in ring_by
returns c =
    let loop = c.loop-from in
    let until-a = c in
    let a = until-a.args in
    let none = drop_of_length-le a.text.now {i = loop.from} (omega (arith, c.loop-from-test.false)) in
    sym (loop.invariant.0 ∙ rw none)

pub watch_line-requires : goal.watch_line-requires
watch_line-requires c = let line = c in line.loop-from.invariant.1
