use borrow.Author.Rules.{rules}
use Rattle.seat.proofs.event_number.Goals as goal

pub returns-in-Refused : goal.returns-in-Refused
returns-in-Refused c = rw c.in-Refused.is c.number.ensures

pub returns-in-SetUp : goal.returns-in-SetUp
returns-in-SetUp c = rw c.in-SetUp.is

pub returns-in-End : goal.returns-in-End
returns-in-End c = rw c.in-End.is

pub returns-in-Answered : goal.returns-in-Answered
returns-in-Answered c = rw c.in-Answered.is
