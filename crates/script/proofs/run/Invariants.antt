use borrow.Author.Rules.{rules}
use borrow.Author.Tests.{not-true, not-false}
use native.Mathlib.Omega.{arith}
use mathlib.Core.Path.{sym, ◌∙◌}
use Prim.Native.Nat.{◌-◌}
use lib.ListN.{length}
use Rattle.cursor.proofs.Cursor.{Step, next-command, next-end}
use Rattle.script.proofs.Commands.{done-some, Going, starts, ends, fails, goes_on_lem}
use Rattle.script.proofs.run.Given as goal

abbrev pub invariant-loop-span : goal.invariant-loop-span
invariant-loop-span l = Going l.verified l.template l.words l.values l.scripts l.at l.initial.words l.initial.values l.initial.scripts

abbrev pub decreases-loop-span : goal.decreases-loop-span
decreases-loop-span l = length l.template - l.at
