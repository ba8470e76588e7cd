use borrow.Author.Rules.{rules}
use lib.Dec.{lit≤}
use mathlib.Core.Path.{refl}
use native.Mathlib.Omega.{arith}
use Rattle.lines.proofs.Short.{refusal_short, answer-short}
use Rattle.record_lines.proofs.Stores.{line}
use Rattle.record_lines.proofs.put_event.Goals as goal

pub returns-in-SetUp : goal.returns-in-SetUp
returns-in-SetUp c =
    let put = c in
    let told = put in
    let start = told in
    let short = refusal_short start.args.number 0 in
    simp told.in-SetUp.is (line start.requires (omega arith) put.put_refusal.ensures.0 put.put_refusal.ensures.1)

pub returns-in-End : goal.returns-in-End
returns-in-End c = simp c.in-End.is (record { is = refl; behind = omega arith; short = omega arith })

pub returns-in-Refused : goal.returns-in-Refused
returns-in-Refused c =
    let put = c in
    let number = put in
    let told = number in
    let start = told in
    let short = refusal_short start.args.number number.number.result in
    simp (told.in-Refused.is, ← number.number.ensures)
    (line start.requires (omega arith) put.put_refusal-in-Refused.ensures.0 put.put_refusal-in-Refused.ensures.1)

pub returns-in-Answered : goal.returns-in-Answered
returns-in-Answered c =
    let put = c in
    let told = put in
    let start = told in
    simp told.in-Answered.is
    (line start.requires (answer-short start.args.number _) put.put_answer.ensures.0 put.put_answer.ensures.1)
