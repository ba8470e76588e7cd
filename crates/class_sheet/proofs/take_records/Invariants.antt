-- Each turn counts what a record adds.
use borrow.Author.Rules.{rules}
use mathlib.Core.Path.{refl, sym, ap, ◌∙◌}
use Prim.Native.Nat.{◌-◌}
use lib.ListN.{length}
use Rattle.rules.specs.Rules.{rules_of}
use Rattle.class_sheet.specs.ClassSheet.{record_tallies}
use Rattle.class_sheet.proofs.Going.{Going, go_on, falls, last-is, over}
use Rattle.class_sheet.proofs.take_records.Given as goal

abbrev pub invariant-loop-at : goal.invariant-loop-at
invariant-loop-at l =
    Going l.words l.shape l.paper (record_tallies (rules_of l.initial.words) l.shape l.initial.state l.paper l.start) l.initial.sheet l.sheet l.state l.at l.sale l.fits

abbrev pub decreases-loop-at : goal.decreases-loop-at
decreases-loop-at l = length l.paper - l.at
