use Rattle.answers.specs.Answers.{answer_bytes}
use Rattle.answers.proofs.store.Goals as goal

pub returns-in-Refused : goal.returns-in-Refused
unfolding answer_bytes
returns-in-Refused c =
    let put = c in
    let number = put in
    let told = number in
    simp (told.in-Refused.is, ← number.number.ensures) put.put_fields.ensures

pub returns-in-Started : goal.returns-in-Started
unfolding answer_bytes
returns-in-Started c =
    let put = c in
    let told = put in
    simp told.in-Started.is put.put_fields-in-Started.ensures

pub returns-in-Given : goal.returns-in-Given
unfolding answer_bytes
returns-in-Given c = simp c.in-Given.is cc

pub returns-in-Done : goal.returns-in-Done
unfolding answer_bytes
returns-in-Done c =
    let put = c in
    let told = put in
    simp told.in-Done.is put.put_fields-in-Done.ensures
