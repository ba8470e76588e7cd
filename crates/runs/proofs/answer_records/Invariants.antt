use borrow.Author.Rules.{rules}
use mathlib.Core.Path.{sym, ap, ◌∙◌}
use Prim.Native.Nat.{◌-◌}
use native.Mathlib.Omega.{arith}
use lib.ListN.{length}
use Rattle.paper.proofs.Walk.{inside, walk-on}
use Rattle.opening.proofs.Parts.{record_inside}
use Rattle.runs.specs.Runs.{Card, card_of}
use Rattle.run_rule.proofs.Walk.{stopped}
use Rattle.runs.proofs.Going.{Going, begin, is-answered, not_answered, go_on, never, over}
use Rattle.runs.proofs.answer_records.Given as goal

abbrev pub invariant-loop-at : goal.invariant-loop-at
invariant-loop-at l =
    Going l.shape l.paper l.records (card_of l.initial.words l.initial.rooms l.initial.state) l.initial.room (card_of l.words l.rooms l.state) l.room l.at l.to

abbrev pub decreases-loop-at : goal.decreases-loop-at
decreases-loop-at l = length l.records - l.at
