use borrow.Author.Tests.{leb-true}
use mathlib.Core.Path.{sym, ◌∙◌}
use Rattle.transcript.specs.Transcript.{transcribed, room_after, words_after}
use Rattle.transcript.proofs.transcribe.Goals as goal

pub returns-then-not-has_room : goal.returns-then-not-has_room
unfolding transcribed room_after words_after
returns-then-not-has_room c =
    let none = sym c.has_room.ensures ∙ c.if-not-has_room.true in
    (simp none, simp none, simp none)

pub put_paper-requires : goal.put_paper-requires
put_paper-requires c =
    let asked = c in
    leb-true _ _ (sym asked.has_room.ensures ∙ asked.if-not-has_room.false)

pub returns : goal.returns
unfolding transcribed room_after words_after
returns c =
    let put = c in
    let asked = put in
    let fits = sym asked.has_room.ensures ∙ asked.if-not-has_room.false in
    (simp (fits, put.put_paper.ensures.0), simp (fits, put.put_paper.ensures.1), simp (fits, put.put_paper.ensures.2))
