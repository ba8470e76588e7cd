-- Room, or none.
use borrow.Author.Rules.{rules}
use native.Mathlib.Omega.{arith}
use Rattle.text.proofs.Stores.{next}
use Rattle.run_text.proofs.Pages.{no_page, page}
use Rattle.run_text.proofs.put_page.Goals as goal
use Rattle.run_text.proofs.put_page.Goals.{then-text-lt-LONGEST_HEAD-via-then-text-lt-LONGEST_HEAD, then-text-lt-LONGEST_HEAD-via-else-text-lt-LONGEST_HEAD+then-text-room}

pub returns-then-text-lt-LONGEST_HEAD : goal.returns-then-text-lt-LONGEST_HEAD
returns-then-text-lt-LONGEST_HEAD c =
    let a = c.args in
    no_page a.text.now a.ran a.room.now
    (elim c.then-text-lt-LONGEST_HEAD.branch [
      | then-text-lt-LONGEST_HEAD-via-then-text-lt-LONGEST_HEAD w ↦ omega arith
      | then-text-lt-LONGEST_HEAD-via-else-text-lt-LONGEST_HEAD+then-text-room w ↦ omega arith
    ])

pub returns : goal.returns
returns c =
    let lines = c in
    let to-lines = lines in
    let line = to-lines in
    let start = line in
    let known = start in
    let a = known.args in
    page a.text.now a.ran a.room.now (omega arith) (next line.put_ran-at.ensures lines.put_lines.ensures)
