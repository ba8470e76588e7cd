use borrow.Author.Rules.{rules}
use lib.ListN.{length}
use Rattle.bench.proofs.Turns.{ran_in_lem}
use Rattle.bench.proofs.run_in.Goals as goal

pub returns : goal.returns
returns c =
    let a = c.args in
    let by = c.run-run.ensures in
    ran_in_lem a.shape a.paper.now a.words.now a.rooms.now a.state a.records.now (length a.room.now) a.text.now
    c.fill.ensures by.0 by.1 by.2 by.3 by.4
    (search rules)
    c.put_page.ensures.0
    c.put_page.ensures.1
