use borrow.Author.Rules.{rules}
use Rattle.cpace.proofs.closes.Goals as goal

pub returns-in-OnlinePin : goal.returns-in-OnlinePin
returns-in-OnlinePin c = simp c.in-OnlinePin.is

pub returns-in-Signature : goal.returns-in-Signature
returns-in-Signature c = simp c.in-Signature.is

pub returns-in-NoCvm : goal.returns-in-NoCvm
returns-in-NoCvm c = simp c.in-NoCvm.is
