-- The set-up's line, and where it is taken the records' lines behind it.
use mathlib.Core.Path.{sym, ap, ◌∙◌}
use native.Mathlib.Omega.{arith}
use lib.ListN.{length}
use lib.Seq.{length-sets}
use Rattle.lines.specs.Lines.{refusal_line, placed, place_behind}
use Rattle.lines.proofs.Placed.{behind-is, placed-is}
use Rattle.lines.proofs.Short.{refusal_short}
use Rattle.transcript.specs.Transcript.{set_up_number}
use Rattle.transcript.proofs.Going.{whole-text}
use Rattle.transcript.proofs.Steps.{set_up_in, refused-text}
use Rattle.transcript.proofs.put_paper.Goals as goal

pub returns-in_default : goal.returns-in_default
returns-in_default c =
    let put = c in
    let number = put in
    let begin = number in
    let start = begin in
    let a = start.args in
    let begun = begin.begin-begun.ensures.0 in
    let not_taken = refused-text a.words.now a.paper.now (rw (← begun) c.in_default.not-SetUp) in
    let said = number.number_of.ensures ∙ ap (λ b. set_up_number b.event) begun in
    let pre = start.requires in
    let short = refusal_short 0 number.number_of.result in (
      rw (not_taken.0, ← said) (put.put_refusal-end.ensures.0 ∙ behind-is _ _ _ (omega (arith, pre))),
      rw (not_taken.0, ← said) (put.put_refusal-end.ensures.1 ∙ placed-is _ _ _ (omega (arith, pre)) (omega arith)),
      begin.begin-begun.ensures.1 ∙ sym not_taken.1,
    )

pub put_records-requires : goal.put_records-requires
put_records-requires c =
    let until-told = c in
    let told = until-told in
    let until-put = told in
    let put = until-put in
    let number = put in
    let begin = number in
    let start = begin in
    let a = start.args in
    let pre = start.requires in
    let begun = begin.begin-begun.ensures.0 in
    let taken = ap (λ b. b.event) (sym begun) ∙ told.in-SetUp.is in
    let opening = set_up_in a.paper.now taken in
    let text = refusal_line 0 number.number_of.result in
    let short = refusal_short 0 number.number_of.result in
    let behind = put.put_refusal-end.ensures.0 ∙ behind-is _ _ text (omega (arith, pre)) in
    let there = put.put_refusal-end.ensures.1 ∙ placed-is _ _ text (omega (arith, pre)) (omega arith) in
    let size = ap length there ∙ length-sets a.room.now a.at text in
    let at = ap (λ b. b.at) begun in
    let begins = opening.begins in
    let inside = opening.inside in
    (omega (arith, at, begins), omega (arith, at, inside), opening.short, omega (arith, at, pre, begins, inside, size, behind))

pub returns : goal.returns
returns c =
    let records = c in
    let until-told = records in
    let told = until-told in
    let until-put = told in
    let put = until-put in
    let number = put in
    let begin = number in
    let start = begin in
    let a = start.args in
    let pre = start.requires in
    let begun = begin.begin-begun.ensures.0 in
    let taken = ap (λ b. b.event) (sym begun) ∙ told.in-SetUp.is in
    let said = number.number_of.ensures ∙ ap set_up_number told.in-SetUp.is in
    let short = refusal_short 0 0 in
    let behind = put.put_refusal-end.ensures.0 ∙ ap (λ n. place_behind (length a.room.now) a.at (refusal_line 0 n)) said ∙ behind-is _ _ (refusal_line 0 0) (omega (arith, pre)) in
    let there = put.put_refusal-end.ensures.1 ∙ ap (λ n. placed a.room.now a.at (refusal_line 0 n)) said ∙ placed-is _ _ (refusal_line 0 0) (omega (arith, pre)) (omega arith) in
    let kept = begin.begin-begun.ensures.1 in
    let p = records.put_records.ensures in
    let text = whole-text a.words.now a.paper.now a.room.now a.at begun kept taken there behind p.0 p.1 p.2 in
    (text.0, text.1, text.2)
