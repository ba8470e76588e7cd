use borrow.Author.Rules.{rules}
use Rattle.second.specs.Second.{absent_performed}
use Rattle.second.proofs.absent.Goals as goal

pub returns : goal.returns
unfolding absent_performed
returns c =
    let heard = c in
    let missing = heard in
    simp (
      c.close.ensures,
      c.recover-last.ensures,
      heard.hear_absent-scripts.ensures,
      missing.with_missing-history.ensures,
      missing.is_required-required.ensures,
    )
