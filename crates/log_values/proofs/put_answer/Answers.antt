use borrow.Author.Tests.{leb-true}
use mathlib.Core.Path.{sym, ◌∙◌}
use Rattle.log_values.proofs.Stores.{place, stay}
use Rattle.log_values.proofs.put_answer.Goals as goal

pub store_answer-requires : goal.store_answer-requires
store_answer-requires c =
    let taken = c in
    leb-true _ _ (sym taken.has_room.ensures ∙ taken.if-has_room.true)

pub returns-then-has_room : goal.returns-then-has_room
returns-then-has_room c =
    let put = c in
    let taken = put in
    place (sym taken.has_room.ensures ∙ taken.if-has_room.true) put.store_answer.ensures

pub returns-else-has_room : goal.returns-else-has_room
returns-else-has_room c =
    let asked = c in
    let a = asked.args in
    stay a.room.now _ a.at _ (sym asked.has_room.ensures ∙ c.if-has_room.false)
