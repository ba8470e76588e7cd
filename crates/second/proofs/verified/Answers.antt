use borrow.Author.Rules.{rules}
use Rattle.second.specs.Second.{verified_performed}
use Rattle.second.proofs.verified.Goals as goal

pub returns : goal.returns
unfolding verified_performed
returns c =
    let heard = c in
    simp (c.close.ensures, c.recover-last.ensures, heard.heard-scripts.ensures, heard.order-values.ensures)
