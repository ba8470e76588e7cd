use borrow.Author.Rules.{rules}
use denote.Enum.Declared.{tag_of}
use native.Mathlib.Omega.{arith}
use mathlib.Core.List.{List, [], ◌∷◌}
use mathlib.Core.Logic.{inl, inr}
use mathlib.Core.Path.{◌≡◌, sym, ◌∙◌}
use Prim.Native.Nat.{ℕ, ◌-◌}
use lib.ListN.{length}
use types.Run.{OneOf}
use Rattle.put_data.specs.declared.Next.{Next}
use Rattle.put_data.specs.declared.Next.TheVariants.{Element, End, Fault}
use Rattle.put_data.specs.PutData.{elements_of, writes_of, next_write}
use Rattle.put_data.specs.contracts.Next as N
use Rattle.put_data.proofs.Cursor.{left, AllWrite, Step, at-start, next_write_lem, next-end, no_fault}
use Rattle.script.specs.Script.{given}
use Rattle.script.proofs.Writes.{Alike, at_first, passed, at_last, all_left}
use Rattle.script.proofs.write_elements.Given as goal

abbrev pub invariant-loop-write : goal.invariant-loop-write
invariant-loop-write l =
    AllWrite l.command l.at × Alike l.words l.values (left l.command l.at) l.initial.words l.initial.values (given (writes_of l.command))

abbrev pub decreases-loop-write : goal.decreases-loop-write
decreases-loop-write l = length (elements_of l.command) - l.at
