use borrow.Author.Rules.{rules}
use Rattle.bodies.proofs.read_cvm.Goals as goal

pub returns-then-is_cpace : goal.returns-then-is_cpace
returns-then-is_cpace c =
    let told = c in
    simp (← told.is_cpace.ensures, told.if-is_cpace.true, c.cvm_at.ensures, c.plain_length.ensures.0)

pub returns : goal.returns
returns c = simp (← c.is_cpace.ensures, c.if-is_cpace.false)
