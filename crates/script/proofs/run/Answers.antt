use borrow.Author.Rules.{rules}
use native.Mathlib.Omega.{arith}
use mathlib.Core.List.{List}
use mathlib.Core.Path.{◌≡◌, sym, ◌∙◌}
use Prim.Native.Nat.{ℕ}
use Rattle.cursor.specs.Cursor.{next_command}
use Rattle.cursor.proofs.Cursor.{Step, next-command, next-end}
use Rattle.script.proofs.Commands.{done-some, Going, starts, ends, fails, goes_on_lem}
use Rattle.std.specs.Prelude.{Option, Some}
use Rattle.cursor.specs.declared.Span.{Span}
use Rattle.script.proofs.run.Goals as goal

-- at a command: where it lies, and what is left behind it
step : (s : List ℕ) (at : ℕ) (span : Span) (found : Option Span) → found ≡ next_command s at → found ≡ Some span → Step s at span.start span.size
step s at span found e is = next-command _ _ _ _ (sym e ∙ is)

pub loop-span-init : goal.loop-span-init
loop-span-init c = starts _ _ _ _ _

pub returns : goal.returns
returns c =
    let l = c.loop-span in
    ends _ _ _ _ _ _ _ _ _ l.invariant (next-end _ _ (sym c.next_command.ensures ∙ c.in_default.is))

pub overflow_add-end : goal.overflow_add-end
overflow_add-end c = let h = step _ _ _ _ c.next_command.ensures c.in-Some.is in omega (arith, h.within)

pub slice_bounds-command-end : goal.slice_bounds-command-end
slice_bounds-command-end c = let h = step _ _ _ _ c.next_command.ensures c.in-Some.is in omega (arith, h.within)

pub returns-then-not-is_done : goal.returns-then-not-is_done
returns-then-not-is_done c =
    let failed = sym c.is_done.ensures ∙ c.if-not-is_done.true in
    simp c.with_failure.ensures (fails _ _ _ _ _ _ _ _ _ c.loop-span.invariant _ _ (step _ _ _ _ c.next_command.ensures c.in-Some.is) failed)

pub write_elements-values-requires : goal.write_elements-values-requires
write_elements-values-requires c =
    (done-some _ _ _ (sym c.is_done.ensures ∙ c.if-not-is_done.false)).0

pub loop-span-smaller : goal.loop-span-smaller
loop-span-smaller c =
    let h = step _ _ _ _ c.next_command.ensures c.in-Some.is in
    omega (arith, h.later, h.within)

pub loop-span-preserved : goal.loop-span-preserved
loop-span-preserved c =
    let is-done = sym c.is_done.ensures ∙ c.if-not-is_done.false in
    simp c.with_done-scripts.ensures
    (goes_on_lem _ _ _ _ _ _ _ _ _ c.loop-span.invariant _ _ (step _ _ _ _ c.next_command.ensures c.in-Some.is) is-done _ _ c.write_elements-values.ensures)
