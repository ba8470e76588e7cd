use mathlib.Core.Bool.{Bool, true, false, ◌||◌}
use mathlib.Core.Path.{◌≡◌, refl, sym, ap, ◌∙◌}
use Rattle.std.specs.Result.{result_ok}
use Rattle.std.proofs.lemmas.Grind.{common_steps}
use Prim.Native.Nat.{ℕ, ◌≤◌}
use native.Mathlib.Omega.{arith}
use borrow.Author.Tests.{eqb-false, ltb-false}
use lib.Dec.{eqb, ltb}
use Rattle.rooms.specs.Rooms.{room_left}
use Rattle.rooms.proofs.room_left.Goals as goal

one-to-four : (n : ℕ) → (eqb n 0 || ltb 4 n) ≡ false → (1 ≤ n) × (n ≤ 4)
one-to-four n e = by (eqb n 0) (ltb 4 n) refl refl e where
  by : (none over : Bool) → eqb n 0 ≡ none → ltb 4 n ≡ over → (none || over) ≡ false → (1 ≤ n) × (n ≤ 4)
  by false false h k e = let some = eqb-false n 0 h in (omega arith, ltb-false 4 n k)
  by false true h k e = let z : ◌≡◌ {A = ℕ} 0 1 = cc in (omega arith, omega arith)
  by true over h k e = let z : ◌≡◌ {A = ℕ} 0 1 = cc in (omega arith, omega arith)

pub returns-in_err-place : goal.returns-in_err-place
unfolding room_left
returns-in_err-place c =
    let none = sym c.find_profile.ensures ∙ c.ok_or.ensures.ok_part ∙ ap result_ok c.in_err-place.was in
    let value = c.ok_or.ensures.value in
    rw none (grind (arith, common_steps))

pub returns-then-accumulator : goal.returns-then-accumulator
unfolding room_left
returns-then-accumulator c =
    simp (sym c.find_profile.ensures ∙ c.ok_or.ensures.ok_part ∙ ap result_ok c.in_ok-place.was, c.if-accumulator.true)

pub overflow_sub-accumulator : goal.overflow_sub-accumulator
overflow_sub-accumulator c =
    let read = c in
    omega (arith, one-to-four read.args.accumulator c.if-accumulator.false)

pub bounds-rooms-at : goal.bounds-rooms-at
bounds-rooms-at c =
    let tested = c in
    let read = tested in
    omega (arith, one-to-four read.args.accumulator tested.if-accumulator.false)

pub returns : goal.returns
unfolding room_left
returns c =
    simp (
      sym c.find_profile.ensures ∙ c.ok_or.ensures.ok_part ∙ ap result_ok c.in_ok-place.was,
      c.if-accumulator.false,
      c.cell-at.ensures.0,
    )

pub offset_bounds-rooms-at : goal.offset_bounds-rooms-at
offset_bounds-rooms-at c = omega arith
