use borrow.Author.Rules.{rules}
use lib.Dec.{lit≤}
use Rattle.lines.proofs.Numbers.{line-is}
use Rattle.text.proofs.Stores.{within}
use Rattle.lines.specs.Sitting.{answer_line}
use Rattle.lines.proofs.store_answer.Goals as goal

pub returns-in-Started : goal.returns-in-Started
unfolding answer_line
returns-in-Started c =
    let put = c in
    let told = put in
    simp told.in-Started.is (within put.put_started.ensures (lit≤ tt))

pub returns-in-Given : goal.returns-in-Given
unfolding answer_line
returns-in-Given c =
    let put = c in
    let cid = put in
    let told = cid in
    simp (told.in-Given.is, ← cid.cid.ensures) put.put_cryptogram.ensures

pub returns-in_default : goal.returns-in_default
returns-in_default c =
    let put = c in
    let number = put in
    let other = number in
    let a = other.args in
    let is = line-is a.number a.answer other.in_default.not-Started other.in_default.not-Given in
    rw is (within (simp number.number_of.ensures at put.store_refusal.ensures) (lit≤ tt))
