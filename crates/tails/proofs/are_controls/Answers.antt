use borrow.Author.Rules.{rules}
use Rattle.tails.proofs.are_controls.Goals as goal

pub returns : goal.returns
returns c =
    let sixth = c in
    let fourth = sixth in
    let second = fourth in
    simp (
      c.is_control-8.ensures,
      c.is_control-7.ensures,
      sixth.is_control-6.ensures,
      sixth.is_control-5.ensures,
      fourth.is_control-4.ensures,
      fourth.is_control-3.ensures,
      second.is_control-2.ensures,
      second.is_control.ensures,
    )
