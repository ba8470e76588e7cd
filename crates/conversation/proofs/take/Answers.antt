use borrow.Author.Rules.{rules}
use mathlib.Core.Path.{sym, ◌∙◌}
use Rattle.opening.proofs.Parts.{record_inside}
use Rattle.conversation.specs.Conversation.{taken_of, taken_writes}
use Rattle.conversation.proofs.take.Goals as goal

pub slice_bounds-take-count : goal.slice_bounds-take-count
slice_bounds-take-count c =
    let met = c in
    let read = met in
    let a = read.args in
    (record_inside a.paper.now a.at _ _ _ (sym read.record_at.ensures ∙ met.in-Record.is)).0

pub slice_bounds-take-start : goal.slice_bounds-take-start
slice_bounds-take-start c =
    let met = c in
    let read = met in
    let a = read.args in
    (record_inside a.paper.now a.at _ _ _ (sym read.record_at.ensures ∙ met.in-Record.is)).0

pub slice_bounds-take-end : goal.slice_bounds-take-end
slice_bounds-take-end c =
    let met = c in
    let read = met in
    let a = read.args in
    (record_inside a.paper.now a.at _ _ _ (sym read.record_at.ensures ∙ met.in-Record.is)).1

pub returns-in-End : goal.returns-in-End
unfolding taken_of taken_writes
returns-in-End c = let next = sym c.record_at.ensures ∙ c.in-End.is in (simp (next), simp (next), simp (next))

pub returns-in-Fault : goal.returns-in-Fault
unfolding taken_of taken_writes
returns-in-Fault c = let next = sym c.record_at.ensures ∙ c.in-Fault.is in (simp (next), simp (next), simp (next))

pub returns-in-Record : goal.returns-in-Record
unfolding taken_of taken_writes
returns-in-Record c =
    let put = c in
    let met = put in
    let next = sym met.record_at.ensures ∙ met.in-Record.is in
    let taken = c.take.ensures in
    (simp (next) taken.0, simp (next) taken.1, simp (next) taken.2)
